-- The schedule slot by slot and unit by unit, and the two buffers of a program's tables
use Rattle.std.proofs.Common.{◌≡◌, ℕ, zero, suc, ◌+◌, ◌-◌, ◌*◌, ◌<◌, ◌≤◌, min, Bool, Option, Some, None, List, [], ◌∷◌, ◌++◌, take, drop, refl, ap, ap₂, ◌∙◌}
use Rattle.std.proofs.Common.{inl, inr, arith}
use Rattle.std.proofs.Math.Nat.{le_trans}
use Rattle.std.proofs.lemmas.Bool.{cases_Bool, lt-ltb, le-ltb}
use Rattle.std.proofs.lemmas.List.{append_assoc, drop-drop}
use Rattle.clock27.specs.Arrival.{arrivals}
use Rattle.clock27.proofs.Tandem.{second_law}
use Rattle.own_slots.specs.Slots.{own_before, own_slots}
use Rattle.own_slots.proofs.Counts.{own_before_own, own_before_other}
use Rattle.own_slots.proofs.WorkLemmas.{work_scale_law}
use Rattle.unit_timing.specs.PesPacket.{PesPacket, packets_of_unit}
use Rattle.unit_timing.specs.Schedule.{Packet, first_slot, payload_size, payload_size_at, packet_in, packets_by_slot, cut, packets_in_slots, SlotwiseLaw}
use Rattle.unit_timing.specs.SystemBuffer.{SystemLaw}
use Rattle.unit_timing.proofs.TransportBuffer.{transport_room}

pub system_law : SystemLaw
system_law own rate slots x pos rises = (
  (λ room peak W b. transport_room own (2 * rate) 2000000 room (2 * peak) (λ s. 2 * W s) slots x (omega arith) (work_scale_law own rate 1000000 room peak 2 W b)
      rises),
  (λ room peak W b. le_trans (second_law x (2 * rate) (25 * rate) (arrivals 2000000 slots) (omega arith))
      (transport_room own (25 * rate) 2000000 room (25 * peak) (λ s. 25 * W s) slots (x - 2 * rate) (omega arith)
      (work_scale_law own rate 80000 room peak 25 W b) rises)),
)

-- The packets in these slots; the first slot is own slot number i
unfoldable picked : (ℕ → Option ℕ) → ℕ → List ℕ → List Packet
picked f i [] = []
picked f i (s ∷ slots) = packet_in s (f i) ++ picked f (suc i) slots

pick_picked : (own : ℕ → Bool) (f : ℕ → Option ℕ) (s n : ℕ) → packets_by_slot own f (own_slots own s n) ≡ picked f (own_before own s) (own_slots own s n)
unfolding packets_by_slot picked own_slots
pick_picked own f s zero = refl
pick_picked own f s (suc n) = elim (cases_Bool (own s)) [
  | inl y ↦
      let next : own_before own (suc s) ≡ suc (own_before own s) = omega (arith, own_before_own own s y) in
      let rest = pick_picked own f (suc s) n in
      rw y (ap (λ l. packet_in s (f (own_before own s)) ++ l) (rw next at rest))
  | inr o ↦
      let next : own_before own (suc s) ≡ own_before own s = omega (arith, own_before_other own s o) in
      let rest = pick_picked own f (suc s) n in
      rw o (rw next at rest)
]

picked_split : (f : ℕ → Option ℕ) (k i : ℕ) (slots : List ℕ) → picked f i slots ≡ picked f i (take k slots) ++ picked f (i + k) (drop k slots)
unfolding picked
picked_split f zero i slots = let e : i + 0 ≡ i = omega arith in rw e refl
picked_split f (suc k) i [] = refl
picked_split f (suc k) i (s ∷ slots) =
    let e : i + suc k ≡ suc i + k = omega arith in
    rw (e, append_assoc (packet_in s (f i)) (picked f (suc i) (take k slots)) (picked f (suc i + k) (drop k slots)))
    (ap (λ l. packet_in s (f i) ++ l) (picked_split f k (suc i) slots))

picked_none : (f : ℕ → Option ℕ) (k i : ℕ) (slots : List ℕ) → ((j : ℕ) → i ≤ j → j < i + k → f j ≡ None) → picked f i (take k slots) ≡ []
unfolding picked
picked_none f zero i slots none = refl
picked_none f (suc k) i [] none = refl
picked_none f (suc k) i (s ∷ slots) none =
    rw (none i (omega arith) (omega arith)) (picked_none f k (suc i) slots (λ j from below. none j (omega arith) (omega arith)))

picked_same : (f g : ℕ → Option ℕ) (i : ℕ) (slots : List ℕ) → ((j : ℕ) → i ≤ j → f j ≡ g j) → picked f i slots ≡ picked g i slots
unfolding picked
picked_same f g i [] same = refl
picked_same f g i (s ∷ slots) same =
    rw (same i (omega arith), picked_same f g (suc i) slots (λ j from. same j (omega arith))) refl

-- The first packet of a unit carries at most 184 - front bytes, and the later packets carry the rest.
first_size : (front size : ℕ) → payload_size front size 0 ≡ min (184 - front) size
first_size front size =
    let room : front - 184 * 0 ≡ front = omega arith in
    let all : size - (184 * 0 - front) ≡ size = omega arith in
    ap₂ (λ (m n : ℕ). min (184 - m) n) room all

later_room : (front j : ℕ) → front - 184 * suc j ≡ front - 184 - 184 * j
later_room front j = omega arith

later_place : (front j : ℕ) → 184 * suc j - front ≡ (184 - front) + (184 * j - (front - 184))
later_place front j = omega arith

less_both : (a x y : ℕ) → a - (x + y) ≡ a - x - y
less_both a x y = omega arith

later_size : (front size j : ℕ) → payload_size front size (suc j) ≡ payload_size (front - 184) (size - (184 - front)) j
later_size front size j =
    ap₂ (λ (m n : ℕ). min (184 - m) n) (later_room front j)
    (ap (λ (k : ℕ). size - k) (later_place front j) ∙ less_both size (184 - front) (184 * j - (front - 184)))

picked_cut : (f : ℕ → Option ℕ) (p front size i : ℕ) (slots : List ℕ) → ((j : ℕ) → j < p → f (i + j) ≡ Some (payload_size front size j)) →
    picked f i (take p slots) ≡ cut front size (take p slots)
unfolding picked cut
picked_cut f zero front size i slots pieces = refl
picked_cut f (suc p) front size i [] pieces = refl
picked_cut f (suc p) front size i (s ∷ slots) pieces =
    let at_first : i ≡ i + 0 = omega arith in
    let here : f i ≡ Some (min (184 - front) size) = ap f at_first ∙ pieces 0 (omega arith) ∙ ap (λ (n : ℕ). Some n) (first_size front size) in
    rw (
      here,
      picked_cut f p (front - 184) (size - (184 - front)) (suc i) slots (λ j below.
          let e : suc i + j ≡ i + suc j = omega arith in
          ap f e ∙ pieces (suc j) (omega arith) ∙ ap (λ (n : ℕ). Some n) (later_size front size j)),
    ) refl

-- Own slot number i carries nothing before the unit, then the unit's pieces, then the packets of the later units.
carried_before : (own : ℕ → Bool) (rate lead free i : ℕ) (unit : PesPacket) (units : List PesPacket) → i < first_slot own rate lead free unit →
    payload_size_at own rate lead free (unit ∷ units) i ≡ None
unfolding payload_size_at
carried_before own rate lead free i unit units lt = rw (lt-ltb i (first_slot own rate lead free unit) lt) refl

carried_piece : (own : ℕ → Bool) (rate lead free j : ℕ) (unit : PesPacket) (units : List PesPacket) → j < packets_of_unit unit →
    payload_size_at own rate lead free (unit ∷ units) (first_slot own rate lead free unit + j) ≡ Some (payload_size unit.front unit.size j)
unfolding payload_size_at
carried_piece own rate lead free j unit units lt =
    let b = first_slot own rate lead free unit in
    let from : first_slot own rate lead free unit ≤ first_slot own rate lead free unit + j = omega arith in
    let below : first_slot own rate lead free unit + j < first_slot own rate lead free unit + packets_of_unit unit = omega arith in
    let e : first_slot own rate lead free unit + j - first_slot own rate lead free unit ≡ j = omega arith in
    rw (le-ltb (b + j) b from, lt-ltb (b + j) (b + packets_of_unit unit) below, e) refl

carried_after : (own : ℕ → Bool) (rate lead free i : ℕ) (unit : PesPacket) (units : List PesPacket) →
    first_slot own rate lead free unit + packets_of_unit unit ≤ i →
    payload_size_at own rate lead free (unit ∷ units) i ≡ payload_size_at own rate lead (first_slot own rate lead free unit + packets_of_unit unit) units i
unfolding payload_size_at
carried_after own rate lead free i unit units le =
    let b = first_slot own rate lead free unit in
    let from : first_slot own rate lead free unit ≤ i = omega arith in
    rw (le-ltb i b from, le-ltb i (b + packets_of_unit unit) le) refl

pub free_le : (own : ℕ → Bool) (rate lead free : ℕ) (unit : PesPacket) → free ≤ first_slot own rate lead free unit
unfolding first_slot
free_le own rate lead free unit = omega arith

picked_nothing : (own : ℕ → Bool) (rate lead i : ℕ) (slots : List ℕ) → picked (payload_size_at own rate lead i []) i slots ≡ []
unfolding picked payload_size_at
picked_nothing own rate lead i [] = refl
picked_nothing own rate lead i (s ∷ slots) = picked_nothing own rate lead (suc i) slots

picked_units : (own : ℕ → Bool) (rate lead free : ℕ) (units : List PesPacket) (slots : List ℕ) →
    picked (payload_size_at own rate lead free units) free (drop free slots) ≡ packets_in_slots own rate lead free units slots
unfolding packets_in_slots
picked_units own rate lead free [] slots = picked_nothing own rate lead free (drop free slots)
picked_units own rate lead free (unit ∷ units) slots =
    let b = first_slot own rate lead free unit in
    let p = packets_of_unit unit in
    let f = payload_size_at own rate lead free (unit ∷ units) in
    let to : free + (first_slot own rate lead free unit - free) ≡ first_slot own rate lead free unit = omega (arith, free_le own rate lead free unit) in
    let before = picked_none f (b - free) free (drop free slots) (λ j from below. carried_before own rate lead free j unit units (omega arith)) in
    let pieces = picked_cut f p unit.front unit.size b (drop b slots) (λ j below. carried_piece own rate lead free j unit units below) in
    let after = picked_same f (payload_size_at own rate lead (b + p) units) (b + p) (drop (b + p) slots)
    (λ j le. carried_after own rate lead free j unit units le) in
    rw (
      picked_split f (b - free) free (drop free slots),
      before,
      to,
      drop-drop (b - free) free slots,
      to,
      picked_split f p b (drop b slots),
      pieces,
      drop-drop p b slots,
      after,
      picked_units own rate lead (b + p) units slots,
    ) refl

pub slotwise_law : SlotwiseLaw
unfolding own_before
slotwise_law own rate lead n units =
    pick_picked own (payload_size_at own rate lead 0 units) 0 n ∙ picked_units own rate lead 0 units (own_slots own 0 n)
