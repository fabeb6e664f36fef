-- The content of own slots, and the units that remain before an own slot.
use Rattle.std.proofs.Common.{◌≡◌, ℕ, ◌+◌, ◌-◌, ◌<◌, ◌≤◌, ◌==◌, Bool, true, false, cond, Some, None, List, [], ◌∷◌, ◌++◌, length, refl, sym, ◌∙◌, inl, inr}
use Rattle.std.proofs.Common.{arith}
use Rattle.std.proofs.lemmas.Bool.{cases_lt, lt-ltb, le-ltb}
use Rattle.std.proofs.lemmas.List.{length-append}
use Rattle.clock27.specs.Release.{release}
use Rattle.own_slots.specs.Slots.{own_before}
use Rattle.pes_packet.specs.AccessUnits.{AccessUnit}
use Rattle.pes_packet.specs.Encoding.{pes_packet_bytes, pes_header_bytes, header_size, on_wire}
use Rattle.pes_packet.specs.Marks.{extension_size, field_size, marks_size}
use Rattle.pes_packet.specs.declared.marks.Marks.{Marks}
use Rattle.pes_packet.proofs.Written.{header_sizes}
use Rattle.unit_timing.specs.Schedule.{first_slot as first_own_slot}
use Rattle.unit_queue.specs.OwnedStreams.{OwnedStream, pes_bytes, packet_count, first_slot, end_slot}
use Rattle.unit_queue.specs.Places.{place_at, left_at}

-- A header has at least 14 bytes, so each unit has a packet.
some_by : (long same : Bool) (more : ℕ) → 14 ≤ cond long 45 (cond same 14 19 + more)
some_by true same more = omega arith
some_by false true more = omega arith
some_by false false more = omega arith

header_some : (marks : Marks) (pts dts : ℕ) → 14 ≤ header_size marks pts dts
header_some marks pts dts = some_by marks.long (on_wire pts == on_wire dts) (extension_size marks)

most_by : (long same : Bool) (more : ℕ) → cond long 45 (cond same 14 19 + more) ≤ 19 + cond long 26 more
most_by true same more = omega arith
most_by false true more = omega arith
most_by false false more = omega arith

-- A header and the field in front of it have at most 19 bytes and the bytes of the marks.
pub header_most : (id size : ℕ) (marks : Marks) (pts dts : ℕ) → field_size marks.random_access + length (pes_header_bytes id size marks pts dts) ≤ 19
    + marks_size marks
header_most id size marks pts dts =
    let most : header_size marks pts dts ≤ 19 + cond marks.long 26 (extension_size marks) =
    most_by marks.long (on_wire pts == on_wire dts) (extension_size marks) in
    omega (arith, header_sizes id size marks pts dts, most)

pub text_some : (l : OwnedStream) (u : AccessUnit) → 14 ≤ length (pes_bytes l u)
unfolding pes_packet_bytes
text_some l u =
    let header = pes_header_bytes l.parameters.stream_id (length u.bytes) u.marks (u.pts + l.parameters.base0) (u.dts + l.parameters.base0) in
    let size = header_sizes l.parameters.stream_id (length u.bytes) u.marks (u.pts + l.parameters.base0) (u.dts + l.parameters.base0) in
    omega (arith, length-append header u.bytes, size, header_some u.marks (u.pts + l.parameters.base0) (u.dts + l.parameters.base0))

pub count_some : (l : OwnedStream) (u : AccessUnit) → 0 < packet_count l u
count_some l u = omega (arith, text_some l u)

-- The own slot where a unit begins is free, and not before the unit's release.
pub first_free : (l : OwnedStream) (free : ℕ) (u : AccessUnit) → free ≤ first_slot l free u
unfolding first_slot first_own_slot
first_free l free u = omega arith

pub first_released : (l : OwnedStream) (free : ℕ) (u : AccessUnit) → own_before l.own (release l.parameters.rate l.parameters.lead u.dts) ≤ first_slot l free u
unfolding first_slot first_own_slot
first_released l free u = omega arith

pub first_least : (l : OwnedStream) (free m : ℕ) (u : AccessUnit) → free ≤ m → own_before l.own (release l.parameters.rate l.parameters.lead u.dts) ≤ m →
    first_slot l free u ≤ m
unfolding first_slot first_own_slot
first_least l free m u a b = omega arith

-- What remains before an own slot, and what the slot carries, case by case.
pub left_stop : (l : OwnedStream) (p free number : ℕ) (u : AccessUnit) (us : List AccessUnit) → p < end_slot l free u →
    left_at l p free number (u ∷ us) ≡ record { free = free; number = number; units = u ∷ us }
unfolding left_at
left_stop l p free number u us below = rw (lt-ltb p (end_slot l free u) below) refl

pub left_on : (l : OwnedStream) (p free number : ℕ) (u : AccessUnit) (us : List AccessUnit) → end_slot l free u ≤ p →
    left_at l p free number (u ∷ us) ≡ left_at l p (end_slot l free u) (number + packet_count l u) us
unfolding left_at
left_on l p free number u us over = rw (le-ltb p (end_slot l free u) over) refl

pub place_before : (l : OwnedStream) (free number i : ℕ) (u : AccessUnit) (us : List AccessUnit) → i < first_slot l free u →
    place_at l free number (u ∷ us) i ≡ None
unfolding place_at
place_before l free number i u us below = rw (lt-ltb i (first_slot l free u) below) refl

pub place_in : (l : OwnedStream) (free number i : ℕ) (u : AccessUnit) (us : List AccessUnit) → first_slot l free u ≤ i → i < end_slot l free u →
    place_at l free number (u ∷ us) i ≡ Some (record { unit = u; piece = i - first_slot l free u; number = number + (i - first_slot l free u) })
unfolding place_at
place_in l free number i u us from below = rw (le-ltb i (first_slot l free u) from, lt-ltb i (end_slot l free u) below) refl

pub place_on : (l : OwnedStream) (free number i : ℕ) (u : AccessUnit) (us : List AccessUnit) → end_slot l free u ≤ i →
    place_at l free number (u ∷ us) i ≡ place_at l (end_slot l free u) (number + packet_count l u) us i
unfolding place_at
place_on l free number i u us over =
    let from : first_slot l free u ≤ i = omega arith in
    rw (le-ltb i (first_slot l free u) from, le-ltb i (end_slot l free u) over) refl

-- The remaining units give the same content of later own slots as all units.
pub place_left : (l : OwnedStream) (p free number i : ℕ) (us : List AccessUnit) → p ≤ i →
    place_at l free number us i ≡ place_at l (left_at l p free number us).free (left_at l p free number us).number (left_at l p free number us).units i
unfolding left_at
place_left l p free number i [] le = refl
place_left l p free number i (u ∷ us) le = elim (cases_lt p (end_slot l free u)) [
  | inl stop ↦ rw (lt-ltb p (end_slot l free u) stop) refl
  | inr on ↦ rw (le-ltb p (end_slot l free u) on)
      (place_on l free number i u us (omega (arith, on, le)) ∙ place_left l p (end_slot l free u) (number + packet_count l u) i us le)
]

pub left_left : (l : OwnedStream) (p free number i : ℕ) (us : List AccessUnit) → p ≤ i →
    left_at l i free number us ≡ left_at l i (left_at l p free number us).free (left_at l p free number us).number (left_at l p free number us).units
left_left l p free number i [] le = unfold left_at in refl
left_left l p free number i (u ∷ us) le = elim (cases_lt p (end_slot l free u)) [
  | inl stop ↦ rw (left_stop l p free number u us stop) refl
  | inr on ↦ rw (left_on l p free number u us on)
      (left_on l i free number u us (omega (arith, on, le)) ∙ left_left l p (end_slot l free u) (number + packet_count l u) i us le)
]

-- The own slots that are taken are before p, and the first remaining unit has not ended.
pub left_free : (l : OwnedStream) (p free number : ℕ) (us : List AccessUnit) → free ≤ p → (left_at l p free number us).free ≤ p
left_free l p free number [] le = unfold left_at in le
left_free l p free number (u ∷ us) le = elim (cases_lt p (end_slot l free u)) [
  | inl stop ↦ rw (left_stop l p free number u us stop) le
  | inr on ↦ rw (left_on l p free number u us on) (left_free l p (end_slot l free u) (number + packet_count l u) us on)
]

-- The first unit is not yet sent whole.
unfoldable pub Unfinished : OwnedStream → ℕ → ℕ → List AccessUnit → Type 0
Unfinished l p free [] = Unit {0}
Unfinished l p free (u ∷ us) = p < end_slot l free u

pub left_unfinished : (l : OwnedStream) (p free number : ℕ) (us : List AccessUnit) →
    Unfinished l p (left_at l p free number us).free (left_at l p free number us).units
unfolding Unfinished
left_unfinished l p free number [] = unfold left_at in tt
left_unfinished l p free number (u ∷ us) = elim (cases_lt p (end_slot l free u)) [
  | inl stop ↦ rw (left_stop l p free number u us stop) stop
  | inr on ↦ rw (left_on l p free number u us on) (left_unfinished l p (end_slot l free u) (number + packet_count l u) us)
]

-- One more unit, which begins later, is appended to the remaining units.
pub left_fed : (l : OwnedStream) (p free number : ℕ) (us : List AccessUnit) (u : AccessUnit) → ((f : ℕ) → p < end_slot l f u) →
    left_at l p free number (us ++ u ∷ [])
    ≡ record { free = (left_at l p free number us).free; number = (left_at l p free number us).number; units = (left_at l p free number us).units ++ u ∷ [] }
left_fed l p free number [] u later = left_stop l p free number u [] (later free) ∙ (unfold left_at in refl)
left_fed l p free number (v ∷ us) u later = elim (cases_lt p (end_slot l free v)) [
  | inl stop ↦ rw (left_stop l p free number v us stop) (left_stop l p free number v (us ++ u ∷ []) stop)
  | inr on ↦ rw (left_on l p free number v us on)
      (left_on l p free number v (us ++ u ∷ []) on ∙ left_fed l p (end_slot l free v) (number + packet_count l v) us u later)
]

pub place_fed : (l : OwnedStream) (free number i : ℕ) (us : List AccessUnit) (u : AccessUnit) → ((f : ℕ) → i < first_slot l f u) →
    place_at l free number (us ++ u ∷ []) i ≡ place_at l free number us i
place_fed l free number i [] u later = place_before l free number i u [] (later free) ∙ (unfold place_at in refl)
place_fed l free number i (v ∷ us) u later = elim (cases_lt i (first_slot l free v)) [
  | inl below ↦ place_before l free number i v (us ++ u ∷ []) below ∙ sym (place_before l free number i v us below)
  | inr from ↦ elim (cases_lt i (end_slot l free v)) [
    | inl stop ↦ place_in l free number i v (us ++ u ∷ []) from stop ∙ sym (place_in l free number i v us from stop)
    | inr on ↦ place_on l free number i v (us ++ u ∷ []) on
        ∙ place_fed l (end_slot l free v) (number + packet_count l v) i us u later ∙ sym (place_on l free number i v us on)
  ]
]
