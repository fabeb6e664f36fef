-- Units at moments of their own.
use Rattle.std.proofs.Common.{◌≡◌, ◌∙◌, ◌||◌, ℕ, Bool, false, Option, List, [], ◌∷◌, None, Some, is_some, map, refl, sym, ap}
use Rattle.std.specs.List.{list_any}
use Rattle.pes_packet.specs.AccessUnits.{AccessUnit}
use Rattle.es_moments.specs.CountedUnits.{CountedUnitsView, counted_units}
use Rattle.es_moments.specs.Stamps.{dts_at, moved, unit_at}
use Rattle.es_moments.specs.UnitMoments.{moment_of, units_at}
use Rattle.es_moments.specs.declared.unit_moments.UnitMoment.{UnitMoment}
use Rattle.es_moments.proofs.UnitMoments.{at_own}
use Rattle.sound_frames.specs.FrameHeaders.{frame_kind}
use Rattle.stream_choice.specs.declared.frame_counts.FrameCounts.{FrameCounts}
use Rattle.job_units.specs.Declarations.{MeasuredView, crossing_for, first_bytes, framing_for, has_data, has_long, header_of, measured, most_header}
use Rattle.job_programs.specs.JobStreams.{TimedStreamView, WireStreamView}
use Rattle.job_units.specs.Moments.{wire_of, with_moments}
use Rattle.job_units.specs.OddStreams.{alone, carried_header, carries_data, carries_long, first_carried, own_base}
use Rattle.es_moments.specs.WireUnits.{CarriedUnit}

pub own_at : (base : ℕ) (us vs : List CarriedUnit) (ms : List UnitMoment) (out : List AccessUnit) → out ≡ units_at ms vs → vs ≡ us →
    ms ≡ map moment_of (moved base None (map (λ u. u.unit) us)) → out ≡ moved base None (map (λ u. u.unit) us)
own_at base us vs ms out made same is =
    made
    ∙ ap (λ (l : List CarriedUnit). units_at ms l) same
    ∙ ap (λ (l : List UnitMoment). units_at l us) is
    ∙ at_own base None us us refl

-- The first unit has the bytes that it has on the wire.
first_is : (base : ℕ) (us : List CarriedUnit) → first_carried us ≡ first_bytes (moved base None (map (λ u. u.unit) us))
unfolding first_carried first_bytes moved unit_at
first_is base [] = refl
first_is base (u ∷ us) = refl

pub first_same : (w : WireStreamView) → first_carried w.units ≡ first_bytes (alone w).units
unfolding alone with_moments
first_same w = first_is (own_base w) w.units

-- units have the marks that they have on the wire
long_is : (base : ℕ) (before : Option ℕ) (us : List CarriedUnit) →
    list_any carries_long us ≡ list_any has_long (moved base before (map (λ u. u.unit) us))
unfolding moved unit_at
long_is base before [] = refl
long_is base before (u ∷ us) = ap (λ (b : Bool). u.unit.marks.long || b) (long_is base (Some (dts_at base before u.unit.dts)) us)

data_is : (base : ℕ) (before : Option ℕ) (us : List CarriedUnit) →
    list_any carries_data us ≡ list_any has_data (moved base before (map (λ u. u.unit) us))
unfolding moved unit_at
data_is base before [] = refl
data_is base before (u ∷ us) = ap (λ (b : Bool). is_some u.unit.marks.private_data || b) (data_is base (Some (dts_at base before u.unit.dts)) us)

pub header_same : (w : WireStreamView) → carried_header w.units ≡ header_of (alone w).units
unfolding carried_header header_of alone with_moments
header_same w =
    let us = moved (own_base w) None (map (λ (u : CarriedUnit). u.unit) w.units) in
    ap (λ (b : Bool). most_header b (list_any carries_data w.units)) (long_is (own_base w) None w.units)
    ∙ ap (λ (b : Bool). most_header (list_any has_long us) b) (data_is (own_base w) None w.units)

no_framing : (t : TimedStreamView) → frame_kind t.stream_type t.descriptors ≡ None → framing_for t ≡ None
unfolding framing_for
no_framing t none = rw (none, framing_for) refl

no_crossing : (t : TimedStreamView) → frame_kind t.stream_type t.descriptors ≡ None → crossing_for t ≡ false
unfolding crossing_for
no_crossing t none = rw (none, crossing_for) refl

-- The measures of a stream whose units are not frames of sound
pub measured_alone : (w : WireStreamView) (units : CountedUnitsView) (header : ℕ) (first descriptors : List ℕ) →
    units ≡ counted_units (moved (own_base w) None (wire_of w)) →
    header ≡ header_of (alone w).units → first ≡ first_bytes (alone w).units → descriptors ≡ w.descriptors → frame_kind w.stream_type w.descriptors ≡ None →
    ◌≡◌ {A = MeasuredView}
    (record {
      pid = w.pid;
      stream_id = w.stream_id;
      stream_type = w.stream_type;
      descriptors = descriptors;
      first = first;
      framing = None;
      crossing = false;
      header = header;
      units = units;
    })
    (measured (alone w))
unfolding measured alone with_moments
measured_alone w units header first descriptors counted most bytes same frames =
    rw (counted, most, bytes, same) (ap (λ (framing : Option FrameCounts). (let m : MeasuredView = record {
      pid = w.pid;
      stream_id = w.stream_id;
      stream_type = w.stream_type;
      descriptors = w.descriptors;
      first = first_bytes (alone w).units;
      framing = framing;
      crossing = false;
      header = header_of (alone w).units;
      units = counted_units (moved (own_base w) None (wire_of w));
    } in m)) (sym (no_framing (alone w) frames))
    ∙ ap (λ (crossing : Bool). (let m : MeasuredView = record {
      pid = w.pid;
      stream_id = w.stream_id;
      stream_type = w.stream_type;
      descriptors = w.descriptors;
      first = first_bytes (alone w).units;
      framing = framing_for (alone w);
      crossing = crossing;
      header = header_of (alone w).units;
      units = counted_units (moved (own_base w) None (wire_of w));
    } in m)) (sym (no_crossing (alone w) frames)))
