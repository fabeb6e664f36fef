-- A main buffer that is viewed by access units and never holds more than its size has no excess.
use Rattle.std.proofs.Common.{◌≡◌, ◌∙◌, ℕ, ◌+◌, ◌-◌, ◌*◌, ◌^◌, ◌≤◌, ◌==◌, min, Bool, true, false, List, [], ◌∷◌, length, Option, Some, None, if◌then◌else◌}
use Rattle.std.proofs.Common.{refl, ap, arith}
use Rattle.sound_frames.specs.declared.frame_walk.FramePart.{FramePart}
use Rattle.arrival.specs.declared.arrival.Arrival.{Arrival}
use Rattle.arrival.specs.Arrivals.{times_at}
use Rattle.arrival.specs.declared.clock.PcrSample.{PcrSample}
use Rattle.ts_packet.specs.Views.{PacketView}
use Rattle.tstd_rows.specs.declared.arriving.Arriving.{Arriving}
use Rattle.tstd_rows.specs.declared.arriving.UnitPart.{UnitPart}
use Rattle.tstd_rows.specs.declared.excess.Excess.{Excess}
use Rattle.tstd_rows.specs.declared.main_watch.MainWatch.{MainWatch}
use Rattle.tstd_rows.specs.declared.unit_seen.UnitSeen.{UnitSeen}
use Rattle.tstd_rows.specs.Held.{Held, begun, main_most}
use Rattle.tstd_rows.specs.Entering.{EnteredView, after_bytes, after_first, after_header, after_lead, after_part, after_unit, ended_first, ended_part}
use Rattle.tstd_rows.specs.Entering.{entered_first, entered_part, lead_in, nothing, size_of, takes_in, takes_part, with_first}
use Rattle.es_events.specs.declared.tally.Tally.{Tally}
use Rattle.es_events.specs.declared.view_options.ViewOptions.{ViewOptions}
use Rattle.es_view.specs.EntryFrames.{Counted, FramedPayload, count_of, frame_after, frames_after, frames_among, front_after, part_of, place_of}
use Rattle.es_view.specs.Entries.{Framed, beginning_in, framed_with, is_unread, payload_of}
use Rattle.es_view.specs.LastPayloads.{LastView}
use Rattle.es_events.specs.Tallies.{in_window, more, tally_after, tally_with, with_unit_if}
use Rattle.laws_view.proofs.EnteredBytes.{Alike, alike_trans, begin_arrives, payload_alike}
use Rattle.laws_view.proofs.MainExcesses.{Quiet, begin_main, most_begin, most_begun, most_payload, quiet_payload, same_main}

-- The counts of a window

in_window_mains : (t : Tally) (window : ℕ) → (in_window t window).main_excesses ≡ t.main_excesses
in_window_mains t window = by (t.window == window)
  where
    by : (b : Bool) →
        (if b then t else record t {
          window = window;
          window_transport = 0;
          window_main = 0;
          window_least = None;
          window_units = 0;
          window_late = 0;
          slack =
              2 ^ 128 - 1;
        }).main_excesses
        ≡ t.main_excesses
    by true = refl
    by false = refl

unit_mains : (t : Tally) (window : ℕ) (unit : Option UnitSeen) → (with_unit_if t window unit).main_excesses ≡ t.main_excesses
unfolding with_unit_if
unit_mains t window None = refl
unit_mains t window (Some u) = in_window_mains t window

tally_mains : (t : Tally) (window : ℕ) (unread : Bool) (v : EnteredView) → (tally_after t window unread v).main_excesses ≡ more t.main_excesses (length v.main)
tally_mains t window unread v = unit_mains _ window v.unit ∙ ap (λ (n : ℕ). more n (length v.main)) (in_window_mains t window)

none_more : (t : Tally) (window : ℕ) (unread : Bool) (v : EnteredView) → t.main_excesses ≡ 0 → v.main ≡ [] → (tally_after t window unread v).main_excesses ≡ 0
none_more t window unread v none quiet = tally_mains t window unread v ∙ zero t.main_excesses (length v.main) none (ap (λ (l : List Excess). length l) quiet)
  where
    zero : (n m : ℕ) → n ≡ 0 → m ≡ 0 → min (n + m) (2 ^ 64 - 1) ≡ 0
    zero n m a b = omega (arith, a, b)

-- A packet with the first bytes of its payload

first_parts : (h : Held) (arrival : Arrival) (p : Arriving) (size lead count : ℕ) →
    Quiet h (with_first h arrival p size lead count) (ended_first h arrival p size lead count).main
first_parts h arrival p size lead count =
    let a : Held = after_lead h arrival p lead in
    let b : Held = after_header h arrival p size lead in
    let c : Held = after_unit h arrival p size lead in
    let first = times_at arrival h.rx (188 * p.index) lead in
    let second = times_at arrival a.rx (188 * p.index + lead) (188 - size - lead) in
    let third = times_at arrival c.rx (188 * p.index + (188 - size)) count in
    let main : c.main ≡ h.main = begin_main b p.begins ∙ same_main a (188 - size - lead) second ∙ same_main h lead first in
    record {
      most = omega (
        arith,
        most_payload h false lead first,
        most_payload a false (188 - size - lead) second,
        most_begin b p.begins,
        most_payload c p.enters count third,
      );
      quiet = λ none few.
          let room : main_most (with_first h arrival p size lead count) ≤ c.main.size = omega (arith, few, ap (λ (m : MainWatch). m.size) main) in
          quiet_payload c p.enters count third (ap (λ (m : MainWatch). m.under_way) main ∙ none) room;
    }

first_quiet : (h : Held) (arrival : Arrival) (p : Arriving) (count : ℕ) → Quiet h (after_first h arrival p count) (entered_first h arrival p count).main
unfolding after_first entered_first
first_quiet h arrival p count = by (takes_in h arrival p)
  where
    by : (b : Bool) → Quiet h (if b then with_first h arrival p (size_of p) (lead_in arrival p) count else h)
        (if b then ended_first h arrival p (size_of p) (lead_in arrival p) count else nothing).main
    by true = first_parts h arrival p (size_of p) (lead_in arrival p) count
    by false = record { most = omega arith; quiet = λ none few. (refl, none) }

first_alike : (h : Held) (arrival : Arrival) (p : Arriving) (count : ℕ) → Alike h (after_first h arrival p count)
unfolding after_first
first_alike h arrival p count = by (takes_in h arrival p)
  where
    size : ℕ
    size = size_of p

    lead : ℕ
    lead = lead_in arrival p

    by : (b : Bool) → Alike h (if b then with_first h arrival p size lead count else h)
    by true =
        let a : Held = after_lead h arrival p lead in
        let b : Held = after_header h arrival p size lead in
        let c : Held = after_unit h arrival p size lead in
        let d : Held = with_first h arrival p size lead count in
        let first = payload_alike h false lead (times_at arrival h.rx (188 * p.index) lead) in
        let second : Alike a b = payload_alike a false (188 - size - lead) (times_at arrival a.rx (188 * p.index + lead) (188 - size - lead)) in
        let third : Alike b c = (begin_arrives b p.begins).alike in
        let fourth : Alike c d = payload_alike c p.enters count (times_at arrival c.rx (188 * p.index + (188 - size)) count) in
        alike_trans h a d first (alike_trans a b d second (alike_trans b c d third fourth))
    by false = record { rate = refl; rx = refl; size = refl }

-- One frame

part_quiet : (h : Held) (arrival : Arrival) (p : UnitPart) → Quiet h (after_part h arrival p) (entered_part h arrival p).main
unfolding after_part entered_part
part_quiet h arrival p = by (takes_part h arrival p)
  where
    c : Held
    c = begun h p.due

    times : List ℕ
    times = times_at arrival c.rx p.byte p.size

    by : (b : Bool) → Quiet h (if b then after_bytes (begun h p.due) arrival true p.byte p.size else h) (if b then ended_part h arrival p else nothing).main
    by true = record {
      most = omega (arith, most_begun h p.due, most_payload c true p.size times);
      quiet = λ none few. quiet_payload c true p.size times none few;
    }
    by false = record { most = omega arith; quiet = λ none few. (refl, none) }

part_alike : (h : Held) (arrival : Arrival) (p : UnitPart) → Alike h (after_part h arrival p)
unfolding after_part
part_alike h arrival p = by (takes_part h arrival p)
  where
    of : Alike (begun h p.due) (after_bytes (begun h p.due) arrival true p.byte p.size)
    of = payload_alike (begun h p.due) true p.size (times_at arrival (begun h p.due).rx p.byte p.size)

    by : (b : Bool) → Alike h (if b then after_bytes (begun h p.due) arrival true p.byte p.size else h)
    by true = record { rate = of.rate; rx = of.rx; size = of.size }
    by false = record { rate = refl; rx = refl; size = refl }

-- No excess is counted while the bytes find room.

-- If the main buffer never held more than its size, no excess has ended, and none is open.
pub record Calm (h : Held) (t : Tally) : Type 0 where
  pub none : main_most h ≤ h.main.size → t.main_excesses ≡ 0
  pub quiet : main_most h ≤ h.main.size → h.main.under_way ≡ None

calm_more : (h h' : Held) (t : Tally) (window : ℕ) (unread : Bool) (packet : ℕ) (v : EnteredView) → Calm h t → Quiet h h' v.main → Alike h h' →
    Calm h' (tally_with t window unread h' packet v)
calm_more h h' t window unread packet v calm q alike = record {
  none = λ few. none_more t window unread v (calm.none (before few)) (q.quiet (calm.quiet (before few)) (room few)).0;
  quiet = λ few. (q.quiet (calm.quiet (before few)) (room few)).1;
}
  where
    room : main_most h' ≤ h'.main.size → main_most h' ≤ h.main.size
    room few = omega (arith, few, alike.size)

    before : main_most h' ≤ h'.main.size → main_most h ≤ h.main.size
    before few = omega (arith, few, alike.size, q.most)

calm_front : (options : ViewOptions) (window : ℕ) (unread : Bool) (p : Arriving) (count : ℕ) (c : Counted) → Calm c.held c.tally →
    Calm (front_after options window unread p count c).held (front_after options window unread p count c).tally
calm_front options window unread p count c calm =
    calm_more c.held (after_first c.held options.arrival p (min count (size_of p))) c.tally window unread p.index
    (entered_first c.held options.arrival p (min count (size_of p))) calm
    (first_quiet c.held options.arrival p (min count (size_of p))) (first_alike c.held options.arrival p (min count (size_of p)))

calm_frame : (options : ViewOptions) (limit : ℕ) (y : FramedPayload) (tick : ℕ) (window : ℕ) (c : Counted) (p : FramePart) → Calm c.held c.tally →
    Calm (frame_after options (place_of limit y tick) window c p).held (frame_after options (place_of limit y tick) window c p).tally
calm_frame options limit y tick window c p calm =
    calm_more c.held (after_part c.held options.arrival (part_of options (place_of limit y tick) c.held p)) c.tally window false
    (place_of limit y tick).packet
    (entered_part c.held options.arrival (part_of options (place_of limit y tick) c.held p)) calm
    (part_quiet c.held options.arrival (part_of options (place_of limit y tick) c.held p))
    (part_alike c.held options.arrival (part_of options (place_of limit y tick) c.held p))

calm_frames : (options : ViewOptions) (limit : ℕ) (y : FramedPayload) (tick : ℕ) (window : ℕ) (c : Counted) (ps : List FramePart) → Calm c.held c.tally →
    Calm (frames_after options (place_of limit y tick) window c ps).held (frames_after options (place_of limit y tick) window c ps).tally
unfolding frames_after
calm_frames options limit y tick window c [] calm = calm
calm_frames options limit y tick window c (p ∷ ps) calm =
    calm_frames options limit y tick window (frame_after options (place_of limit y tick) window c p) ps (calm_frame options limit y tick window c p calm)

-- A packet keeps `Calm`.
pub calm_packet : (options : ViewOptions) (index window : ℕ) (clock : Option PcrSample) (limit : ℕ) (last : LastView) (delayed : ℕ) (packet : PacketView)
    (f : Framed) →
    Calm f.held f.tally →
    Calm (framed_with options index window clock limit last delayed packet f).held
    (framed_with options index window clock limit last delayed packet f).tally
calm_packet options index window clock limit last delayed packet f calm =
    let p : FramedPayload = payload_of options index f.held.rx last clock packet in
    let c : Counted = record { held = f.held; tally = f.tally; delayed = delayed } in
    let unread : Bool = is_unread (beginning_in last packet) in
    calm_frames options limit p f.tick window (front_after options window unread p.arriving (count_of p f.walk) c) (frames_among p f.walk)
    (calm_front options window unread p.arriving (count_of p f.walk) c calm)
