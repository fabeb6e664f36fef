-- The packets of units in a stream's own slots
use Rattle.std.proofs.Common.{◌≡◌, ℕ, zero, suc, ◌+◌, ◌-◌, ◌*◌, ◌<◌, ◌≤◌, min, Bool, List, [], ◌∷◌, ◌++◌, length, take, drop, refl, ap, ◌∙◌, inl, inr, arith}
use Rattle.std.proofs.Common.{All}
use Rattle.std.proofs.Math.Nat.{le_trans}
use Rattle.std.proofs.lemmas.Bool.{cases_Bool}
use Rattle.std.proofs.lemmas.List.{take_all, drop_all, append_assoc, length-append, length-drop, drop-drop, take-append-drop, map-append}
use Rattle.std.proofs.lemmas.List.Elements.{All-nil, All-cons}
use Rattle.clock27.specs.Arrival.{bytes_from, arrivals}
use Rattle.clock27.specs.Departure.{departures, last_left}
use Rattle.clock27.proofs.Departures.{last_left-append, length-departures}
use Rattle.own_slots.specs.Slots.{own_before, Rises, own_slots}
use Rattle.own_slots.specs.Work.{BoundsWork}
use Rattle.own_slots.proofs.Counts.{own_before_own, own_before_other, before_from, list_law}
use Rattle.unit_timing.specs.PesPacket.{PesPacket, packets_of_unit}
use Rattle.unit_timing.specs.Schedule.{Packet, first_slot, cut, packets_in_slots}
use Rattle.unit_timing.specs.Transport.{slots_of, of_payloads, pes_left}
use Rattle.unit_timing.proofs.TransportBuffer.{Level, level_le, level_packet, length-bytes_from, pes_left-cons}
use Rattle.unit_timing.proofs.ScheduleLemmas.{free_le}

pub slots_of-cut : (front size : ℕ) (slots : List ℕ) → slots_of (cut front size slots) ≡ slots
unfolding cut
slots_of-cut front size [] = refl
slots_of-cut front size (s ∷ slots) = ap (λ l. s ∷ l) (slots_of-cut (front - 184) (size - (184 - front)) slots)

pub pes_left-append : (rate r prev : ℕ) (ps qs : List Packet) →
    pes_left rate r prev (ps ++ qs) ≡ pes_left rate r prev ps ++ pes_left rate r (last_left rate prev (arrivals r (slots_of ps))) qs
pes_left-append rate r prev [] qs = unfold of_payloads arrivals last_left in refl
pes_left-append rate r prev (p ∷ ps) qs =
    let first = bytes_from r (188 * p.slot) 188 in
    let next = last_left rate prev first in
    let last : last_left rate prev (arrivals r (slots_of (p ∷ ps))) ≡ last_left rate next (arrivals r (slots_of ps)) =
    unfold arrivals in last_left-append rate prev first (arrivals r (slots_of ps)) in
    rw (
      last,
      pes_left-cons rate r prev p (ps ++ qs),
      pes_left-cons rate r prev p ps,
      pes_left-append rate r next ps qs,
      append_assoc (drop (188 - p.size) (departures rate prev first)) (pes_left rate r next ps)
          (pes_left rate r (last_left rate next (arrivals r (slots_of ps))) qs),
    ) refl

-- Every byte of the unit that these slots can carry leaves.
pub length-left-cut : (rate r front size prev : ℕ) (slots : List ℕ) →
    length (pes_left rate r prev (cut front size slots)) ≡ min size (184 * length slots - front)
unfolding cut
length-left-cut rate r front size prev [] = unfold of_payloads in (omega arith)
length-left-cut rate r front size prev (s ∷ slots) =
    let first = bytes_from r (188 * s) 188 in
    let many : length (departures rate prev first) ≡ 188 = length-departures rate prev first ∙ length-bytes_from r (188 * s) 188 in
    let rest = length-left-cut rate r (front - 184) (size - (184 - front)) (last_left rate prev first) slots in
    rw (
      pes_left-cons rate r prev (record { slot = s; size = min (184 - front) size }) (cut (front - 184) (size - (184 - front)) slots),
      length-append (drop (188 - min (184 - front) size) (departures rate prev first))
          (pes_left rate r (last_left rate prev first) (cut (front - 184) (size - (184 - front)) slots)),
      length-drop (188 - min (184 - front) size) (departures rate prev first),
      many,
      rest,
    ) (omega arith)

-- Lists of rising own slots
pub rises_from : (own : ℕ → Bool) (low from : ℕ) (slots : List ℕ) → low ≤ from → Rises own from slots → Rises own low slots
unfolding Rises
rises_from own low from [] le rises = tt
rises_from own low from (s ∷ slots) le rises = (le_trans le rises.0, rises.1, rises.2)

pub rises_drop : (own : ℕ → Bool) (from k : ℕ) (slots : List ℕ) → Rises own from slots → Rises own from (drop k slots)
unfolding Rises
rises_drop own from zero slots rises = rises
rises_drop own from (suc k) [] rises = rises
rises_drop own from (suc k) (s ∷ slots) rises = rises_drop own from k slots (rises_from own from (suc s) slots (omega (arith, rises.0)) rises.2)

pub rises_take : (own : ℕ → Bool) (from k : ℕ) (slots : List ℕ) → Rises own from slots → Rises own from (take k slots)
unfolding Rises
rises_take own from zero slots rises = tt
rises_take own from (suc k) [] rises = rises
rises_take own from (suc k) (s ∷ slots) rises = (rises.0, rises.1, rises_take own (suc s) k slots rises.2)

-- The slot after the last of these slots; `from` if there are none
unfoldable pub slot_after : ℕ → List ℕ → ℕ
slot_after from [] = from
slot_after from (s ∷ slots) = slot_after (suc s) slots

pub rises_after : (own : ℕ → Bool) (from : ℕ) (xs ys : List ℕ) → Rises own from (xs ++ ys) → Rises own (slot_after from xs) ys
unfolding Rises slot_after
rises_after own from [] ys rises = rises
rises_after own from (s ∷ xs) ys rises = rises_after own (suc s) xs ys rises.2

-- The last byte of these packets leaves within the work bound after them.
pub level_packets : (own : ℕ → Bool) (rate r room peak : ℕ) (W : ℕ → ℕ) (from prev : ℕ) (slots : List ℕ) → BoundsWork own rate r room peak W →
    Rises own from slots →
    Level r W from prev → Level r W (slot_after from slots) (last_left rate prev (arrivals r slots))
unfolding Rises slot_after arrivals
level_packets own rate r room peak W from prev [] b rises h = unfold last_left in h
level_packets own rate r room peak W from prev (s ∷ slots) b rises h =
    let here = level_le own rate r room peak W from s prev b rises.0 h in
    rw (last_left-append rate prev (bytes_from r (188 * s) 188) (arrivals r slots))
    (level_packets own rate r room peak W (suc s) (last_left rate prev (bytes_from r (188 * s) 188)) slots b rises.2
    (level_packet own rate r room peak W s prev b rises.1 here))

-- The number of own slots of a run
pub length-own_slots : (own : ℕ → Bool) (s n : ℕ) → length (own_slots own s n) + own_before own s ≡ own_before own (s + n)
unfolding own_slots
length-own_slots own s zero = let e : s + 0 ≡ s = omega arith in rw e (omega arith)
length-own_slots own s (suc n) =
    let e : s + suc n ≡ suc s + n = omega arith in
    let rest = length-own_slots own (suc s) n in
    elim (cases_Bool (own s)) [
      | inl y ↦ rw (y, e) (omega (arith, rest, own_before_own own s y))
      | inr o ↦ rw (o, e) (omega (arith, rest, own_before_other own s o))
    ]

-- If m own slots lie before slot e, the first m own slots do.
pub first_before : (own : ℕ → Bool) (e s n m : ℕ) → m + own_before own s ≤ own_before own e → All (λ t. t < e) (take m (own_slots own s n))
unfolding own_slots
first_before own e s zero m h = rw (take_all {A = ℕ} m [] (omega arith)) (All-nil (λ t. t < e))
first_before own e s (suc n) zero h = All-nil (λ t. t < e)
first_before own e s (suc n) (suc m) h = elim (cases_Bool (own s)) [
  | inl y ↦ rw y (All-cons (λ t. t < e) s (take m (own_slots own (suc s) n)) (before_from own s e (omega arith))
      (first_before own e (suc s) n m (omega (arith, own_before_own own s y))))
  | inr o ↦ rw o (first_before own e (suc s) n (suc m) (omega (arith, own_before_other own s o)))
]

-- If all own slots are taken, nothing is sent.
pub sent_nothing : (own : ℕ → Bool) (rate lead free : ℕ) (units : List PesPacket) (slots : List ℕ) → length slots ≤ free →
    packets_in_slots own rate lead free units slots ≡ []
unfolding packets_in_slots cut
sent_nothing own rate lead free [] slots le = refl
sent_nothing own rate lead free (unit ∷ units) slots le =
    let b = first_slot own rate lead free unit in
    let later : length slots ≤ first_slot own rate lead free unit = omega (arith, free_le own rate lead free unit) in
    rw (
      drop_all b slots later,
      take_all {A = ℕ} (packets_of_unit unit) [] (omega arith),
      sent_nothing own rate lead (b + packets_of_unit unit) units slots (omega (arith, later)),
    ) refl

rises_join : (own : ℕ → Bool) (from : ℕ) (xs ys : List ℕ) → Rises own from xs → Rises own (slot_after from xs) ys → Rises own from (xs ++ ys)
unfolding Rises slot_after
rises_join own from [] ys first rest = rest
rises_join own from (s ∷ xs) ys first rest = (first.0, first.1, rises_join own (suc s) xs ys first.2 rest)

-- The own slots still rise after the skipped slots.
pub rises_begin : (own : ℕ → Bool) (rate lead free from : ℕ) (unit : PesPacket) (slots : List ℕ) → Rises own from (drop free slots) →
    Rises own from (drop (first_slot own rate lead free unit) slots)
rises_begin own rate lead free from unit slots rises =
    let b = first_slot own rate lead free unit in
    let to : free + (first_slot own rate lead free unit - free) ≡ first_slot own rate lead free unit = omega (arith, free_le own rate lead free unit) in
    rw (drop-drop (b - free) free slots, to) at (rises_drop own from (b - free) (drop free slots) rises)

-- The own slots still rise after p packets.
pub rises_following : (own : ℕ → Bool) (from b p : ℕ) (slots : List ℕ) → Rises own from (drop b slots) →
    Rises own (slot_after from (take p (drop b slots))) (drop (b + p) slots)
rises_following own from b p slots rises =
    let parts : Rises own from (take p (drop b slots) ++ drop (b + p) slots) = rw (← drop-drop p b slots, take-append-drop p (drop b slots)) rises in
    rises_after own from (take p (drop b slots)) (drop (b + p) slots) parts

rising_sent : (own : ℕ → Bool) (rate lead : ℕ) (slots : List ℕ) (units : List PesPacket) (free from : ℕ) → Rises own from (drop free slots) →
    Rises own from (slots_of (packets_in_slots own rate lead free units slots))
unfolding packets_in_slots
rising_sent own rate lead slots [] free from rises = unfold Rises in tt
rising_sent own rate lead slots (unit ∷ units) free from rises =
    let b = first_slot own rate lead free unit in
    let p = packets_of_unit unit in
    let xs = take p (drop b slots) in
    let here = rises_begin own rate lead free from unit slots rises in
    rw (
      map-append (λ (p : Packet). p.slot) (cut unit.front unit.size xs) (packets_in_slots own rate lead (b + p) units slots),
      slots_of-cut unit.front unit.size xs,
    )
    (rises_join own from xs (slots_of (packets_in_slots own rate lead (b + p) units slots)) (rises_take own from p (drop b slots) here)
    (rising_sent own rate lead slots units (b + p) (slot_after from xs) (rises_following own from b p slots here)))

-- The packets of a run lie in rising own slots.
pub rising_run : (own : ℕ → Bool) (rate lead n : ℕ) (units : List PesPacket) →
    Rises own 0 (slots_of (packets_in_slots own rate lead 0 units (own_slots own 0 n)))
rising_run own rate lead n units = rising_sent own rate lead (own_slots own 0 n) units 0 0 (list_law own 0 n)
