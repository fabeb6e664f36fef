-- Each unit begins no earlier than its lead before its decoding time, and no later than its decoding time, if any packet of it is sent.
use Rattle.std.proofs.Common.{◌≡◌, ℕ, zero, suc, ◌+◌, ◌-◌, ◌*◌, ◌<◌, ◌≤◌, min, Bool, List, [], ◌∷◌, ◌++◌, length, take, drop, refl, ap, subst, ◌∙◌, arith, All}
use Rattle.std.proofs.Common.{inl, inr}
use Rattle.std.proofs.Math.Nat.{mul-le-mul_right}
use Rattle.std.proofs.lemmas.Bool.{cases_Bool, cases_lt}
use Rattle.std.proofs.lemmas.List.{append_assoc, length-drop}
use Rattle.std.proofs.lemmas.List.Elements.{All-nil, All-cons, All-head, All-tail, All-drop, All-take}
use Rattle.clock27.specs.Arrival.{bytes_from, arrivals}
use Rattle.clock27.specs.Departure.{departures, last_left}
use Rattle.clock27.specs.Release.{release}
use Rattle.clock27.proofs.Departures.{length-departures, earliest, row}
use Rattle.own_slots.specs.Slots.{own_before, own_slots}
use Rattle.own_slots.proofs.Counts.{own_before_own, own_before_other, own_before_lt}
use Rattle.unit_timing.specs.PesPacket.{PesPacket, packets_of_unit}
use Rattle.unit_timing.specs.Schedule.{first_slot, cut, packets_in_slots}
use Rattle.unit_timing.specs.Transport.{pes_left}
use Rattle.unit_timing.specs.Arrived.{AllLeft}
use Rattle.unit_timing.proofs.TransportBuffer.{length-bytes_from, pes_left-cons}
use Rattle.unit_timing.proofs.PacketsInSlots.{slots_of-cut, pes_left-append}
use Rattle.unit_timing.proofs.ArrivalLemmas.{after_unit}
use Rattle.laws_run.proofs.UnitHeads.{head_in}

-- Begins that are no earlier than the release

pub from_release : (own : ℕ → Bool) (e s n m : ℕ) → own_before own e ≤ m + own_before own s → All (λ t. e ≤ t) (drop m (own_slots own s n))
unfolding own_slots
from_release own e s zero zero h = All-nil (λ t. e ≤ t)
from_release own e s zero (suc m) h = All-nil (λ t. e ≤ t)
from_release own e s (suc n) zero h = elim (cases_Bool (own s)) [
  | inl y ↦ elim (cases_lt s e) [
    | inl early ↦ absurd (omega (arith, h, own_before_lt own s e y early))
    | inr le ↦ rw y (All-cons (λ t. e ≤ t) s (own_slots own (suc s) n) le (from_release own e (suc s) n zero (omega (arith, h, own_before_own own s y))))
  ]
  | inr o ↦ rw o (from_release own e (suc s) n zero (omega (arith, h, own_before_other own s o)))
]
from_release own e s (suc n) (suc m) h = elim (cases_Bool (own s)) [
  | inl y ↦ rw y (from_release own e (suc s) n m (omega (arith, h, own_before_own own s y)))
  | inr o ↦ rw o (from_release own e (suc s) n (suc m) (omega (arith, h, own_before_other own s o)))
]

-- A slot that is not before the release begins at the DTS less the lead, or later.
pub reached : (rate lead dts slot : ℕ) → release rate lead dts ≤ slot → dts * rate ≤ slot * 135360000 + lead * rate
reached rate lead dts slot le =
    let from : (dts - lead) * rate ≤ slot * 135360000 = omega (arith, le) in
    let most : dts ≤ (dts - lead) + lead = omega arith in
    let scaled : dts * rate ≤ ((dts - lead) + lead) * rate = mul-le-mul_right rate most in
    omega (arith, from, scaled)

-- Own slots in the run

pub in_run : (own : ℕ → Bool) (s n e : ℕ) → s + n ≤ e → All (λ t. t < e) (own_slots own s n)
unfolding own_slots
in_run own s zero e le = All-nil (λ t. t < e)
in_run own s (suc n) e le =
    let rest = in_run own (suc s) n e (omega (arith, le)) in
    elim (cases_Bool (own s)) [ inl y ↦ rw y (All-cons (λ t. t < e) s (own_slots own (suc s) n) (omega (arith, le)) rest) | inr k ↦ rw k rest ]

-- Begins by the decoding time

first_byte : (low high size : ℕ) (xs ys : List ℕ) → 0 < length xs → 0 < size → All (λ d. low ≤ d) xs → All (λ d. d * 720000 ≤ high) (take size (xs ++ ys)) →
    low * 720000 ≤ high
first_byte low high size [] ys some pos from to = absurd (omega (arith, some))
first_byte low high zero (x ∷ xs) ys some pos from to = absurd (omega (arith, pos))
first_byte low high (suc size) (x ∷ xs) ys some pos from to =
    let a = All-head (λ d. low ≤ d) x xs from in
    let b = All-head (λ d. d * 720000 ≤ high) x (take size (xs ++ ys)) to in
    omega (arith, a, b)

-- The slot of a unit's first bytes begins by the stamp, if all bytes of the unit have left by the stamp.
left_by_stamp : (rate r prev s high front size : ℕ) (more later : List ℕ) → 0 < size → front < 184 →
    All (λ d. d * 720000 ≤ high) (take size (pes_left rate r prev (cut front size (s ∷ more)) ++ later)) → 188 * s * r * 720000 ≤ high
unfolding cut
left_by_stamp rate r prev s high front size more later pos small all =
    let bytes : List ℕ = bytes_from r (188 * s) 188 in
    let ds : List ℕ = departures rate prev bytes in
    let k : ℕ = 188 - min (184 - front) size in
    let rest : List ℕ = pes_left rate r (last_left rate prev bytes) (cut (front - 184) (size - (184 - front)) more) in
    let many : length ds ≡ 188 = length-departures rate prev bytes ∙ length-bytes_from r (188 * s) 188 in
    let from : All (λ d. 188 * s * r + rate ≤ d) ds = earliest rate prev (188 * s * r) bytes (row r (188 * s) 188) in
    let some : 0 < length (drop k ds) = omega (arith, length-drop k ds, many, pos, small) in
    let parts = pes_left-cons rate r prev (record { slot = s; size = min (184 - front) size }) (cut (front - 184) (size - (184 - front)) more) in
    let whole : All (λ d. d * 720000 ≤ high) (take size (drop k ds ++ (rest ++ later))) =
    subst (λ (l : List ℕ). All (λ d. d * 720000 ≤ high) (take size l)) (ap (λ (l : List ℕ). l ++ later) parts ∙ append_assoc (drop k ds) rest later) all in
    let low = first_byte (188 * s * r + rate) high size (drop k ds) (rest ++ later) some pos (All-drop (λ d. 188 * s * r + rate ≤ d) k ds from) whole in
    omega (arith, low)

-- Each of these units begins by its decoding time, if the first `free` own slots are taken.
unfoldable pub Timely : (ℕ → Bool) → ℕ → ℕ → ℕ → List PesPacket → List ℕ → Type 0
Timely own rate lead free [] slots = Unit {0}
Timely own rate lead free (unit ∷ units) slots =
    All (λ s. s * 135360000 ≤ unit.dts * rate) (head_in (take (packets_of_unit unit) (drop (first_slot own rate lead free unit) slots)))
    × Timely own rate lead (first_slot own rate lead free unit + packets_of_unit unit) units slots

by_due : (r s high : ℕ) → 0 < r → 188 * s * r * 720000 ≤ high * r → s * 135360000 ≤ high
by_due r s high pos le = elim (cases_lt high (s * 135360000)) [
  | inl over ↦ absurd (omega (arith, le, pos, mul-le-mul_right r over))
  | inr fine ↦ fine
]

-- A PES packet with bytes in its first transport packet
abbrev pub IsCarried : PesPacket → Type 0
IsCarried unit = (0 < unit.size) × (unit.front < 184)

one_timely : (rate r n prev : ℕ) (unit : PesPacket) (xs later : List ℕ) → 0 < r → 0 < unit.size → unit.front < 184 → All (λ t. t < n) xs →
    (unit.dts * rate ≤ n * 135360000 →
    All (λ d. d * 720000 ≤ unit.dts * rate * r) (take unit.size (pes_left rate r prev (cut unit.front unit.size xs) ++ later))) →
    All (λ s. s * 135360000 ≤ unit.dts * rate) (head_in xs)
one_timely rate r n prev unit [] later pos some small inside left = All-nil (λ s. s * 135360000 ≤ unit.dts * rate)
one_timely rate r n prev unit (s ∷ more) later pos some small inside left =
    All-cons (λ s. s * 135360000 ≤ unit.dts * rate) s [] (elim (cases_lt (n * 135360000) (unit.dts * rate)) [
      | inl over ↦ let before = All-head (λ t. t < n) s more inside in omega (arith, over, before)
      | inr due ↦
          by_due r s (unit.dts * rate) pos (left_by_stamp rate r prev s (unit.dts * rate * r) unit.front unit.size more later some small (left due))
    ])
    (All-nil (λ s. s * 135360000 ≤ unit.dts * rate))

pub timely : (own : ℕ → Bool) (rate lead r n : ℕ) → 0 < r → (units : List PesPacket) (free prev : ℕ) → All IsCarried units →
    AllLeft rate r n units (pes_left rate r prev (packets_in_slots own rate lead free units (own_slots own 0 n))) →
    Timely own rate lead free units (own_slots own 0 n)
unfolding AllLeft packets_in_slots Timely
timely own rate lead r n pos [] free prev carried all = tt
timely own rate lead r n pos (unit ∷ units) free prev carried all =
    let slots = own_slots own 0 n in
    let b = first_slot own rate lead free unit in
    let p = packets_of_unit unit in
    let xs = take p (drop b slots) in
    let next = last_left rate prev (arrivals r xs) in
    let small : unit.front + unit.size ≤ 184 * packets_of_unit unit = omega arith in
    let later = pes_left rate r next (packets_in_slots own rate lead (b + p) units slots) in
    let joined : pes_left rate r prev (cut unit.front unit.size xs ++ packets_in_slots own rate lead (b + p) units slots)
    ≡ pes_left rate r prev (cut unit.front unit.size xs) ++ pes_left rate r next (packets_in_slots own rate lead (b + p) units slots) =
    pes_left-append rate r prev (cut unit.front unit.size xs) (packets_in_slots own rate lead (b + p) units slots)
    ∙ rw (slots_of-cut unit.front unit.size xs) refl in
    let both : AllLeft rate r n (unit ∷ units) (pes_left rate r prev (cut unit.front unit.size xs) ++ later) =
    subst (AllLeft rate r n (unit ∷ units)) joined all in
    let mine = All-head IsCarried unit units carried in
    let inside : All (λ t. t < n) xs = All-take (λ t. t < n) p (drop b slots) (All-drop (λ t. t < n) b slots (in_run own 0 n n (omega arith))) in (
      one_timely rate r n prev unit xs later pos mine.0 mine.1 inside (λ due. (both.0 due).1),
      timely own rate lead r n pos units (b + p) next (All-tail IsCarried unit units carried)
          (subst (AllLeft rate r n units) (after_unit own rate lead r n b p unit.front unit.size prev next units small) both.1),
    )
