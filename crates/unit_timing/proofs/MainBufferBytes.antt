-- The bytes of one unit, or of one packet, in the main buffer
use Rattle.std.proofs.Common.{◌≡◌, ℕ, zero, suc, ◌+◌, ◌*◌, ◌<◌, ◌≤◌, Bool, false, cond, nat_le, List, [], ◌∷◌, ◌++◌, length, take, drop, refl, inl, inr, arith}
use Rattle.std.proofs.Common.{All, count_by}
use Rattle.std.proofs.Math.Nat.{le_trans}
use Rattle.std.proofs.lemmas.Bool.{cases_Bool, cases_lt, le-ltb, lt-leb, and_right}
use Rattle.std.proofs.lemmas.List.{drop_all}
use Rattle.std.proofs.lemmas.List.Elements.{All-nil, All-cons, All-head, All-tail, All-take, All-weaker}
use Rattle.std.proofs.lemmas.List.Sums.{sum_by-cons, sum_by-append, count_by-le-length}
use Rattle.clock27.specs.Arrival.{bytes_from}
use Rattle.clock27.specs.Departure.{departures}
use Rattle.clock27.specs.Release.{release}
use Rattle.clock27.proofs.Departures.{earliest, row}
use Rattle.own_slots.specs.Slots.{own_before, own_slots}
use Rattle.own_slots.proofs.Counts.{own_before_own, own_before_other, own_before_lt}
use Rattle.unit_timing.specs.PesPacket.{PesPacket, packets_of_unit}
use Rattle.unit_timing.specs.Schedule.{first_slot}
use Rattle.unit_timing.specs.MainBuffer.{is_in_main_buffer}

-- The number of bytes of one unit, with these departures, that are in the main buffer at x
unfoldable pub kept : ℕ → ℕ → ℕ → ℕ → List ℕ → ℕ
kept rate r x due ds = count_by (is_in_main_buffer rate r x due) ds

pub kept-append : (rate r x due : ℕ) (ds es : List ℕ) → kept rate r x due (ds ++ es) ≡ kept rate r x due ds + kept rate r x due es
unfolding kept
kept-append rate r x due ds es = sum_by-append (λ d. cond (is_in_main_buffer rate r x due d) 1 0) ds es

pub kept_le : (rate r x due : ℕ) (ds : List ℕ) → kept rate r x due ds ≤ length ds
unfolding kept
kept_le rate r x due ds = count_by-le-length (is_in_main_buffer rate r x due) ds

-- After its stamp a unit has no bytes in the main buffer.
pub kept_after : (rate r x due : ℕ) (ds : List ℕ) → due * rate * r ≤ x * 720000 → kept rate r x due ds ≡ 0
unfolding kept
kept_after rate r x due [] h = refl
kept_after rate r x due (d ∷ ds) h =
    let out : is_in_main_buffer rate r x due d ≡ false = and_right _ _ (le-ltb (x * 720000) (due * rate * r) h) in
    rw (sum_by-cons (λ d. cond (is_in_main_buffer rate r x due d) 1 0) d ds, out) (omega (arith, kept_after rate r x due ds h))

-- Before its bytes have left the transport buffer, a unit has no bytes in the main buffer.
pub kept_before : (rate r x due : ℕ) (ds : List ℕ) → All (λ d. x < d) ds → kept rate r x due ds ≡ 0
unfolding kept
kept_before rate r x due [] h = refl
kept_before rate r x due (d ∷ ds) h =
    let out : nat_le d x ≡ false = lt-leb d x (All-head (λ d. x < d) d ds h) in
    rw (sum_by-cons (λ d. cond (is_in_main_buffer rate r x due d) 1 0) d ds, out) (omega (arith, kept_before rate r x due ds (All-tail (λ d. x < d) d ds h)))

-- The bytes of a packet leave after the packet has begun.
pub packet_later : (rate r prev s low : ℕ) → low ≤ 188 * s * r → All (λ d. low + rate ≤ d) (departures rate prev (bytes_from r (188 * s) 188))
packet_later rate r prev s low le =
    earliest rate prev low (bytes_from r (188 * s) 188)
    (All-weaker (λ t. 188 * s * r ≤ t) (λ t. low ≤ t) (λ t h. le_trans le h) (bytes_from r (188 * s) 188) (row r (188 * s) 188))

-- If at most b own slots lie before slot e, the own slots from number b on lie at or after e.
pub later_slots : (own : ℕ → Bool) (e s n b : ℕ) → own_before own e ≤ b + own_before own s → All (λ t. e ≤ t) (drop b (own_slots own s n))
unfolding own_slots
later_slots own e s zero b h = rw (drop_all {X = ℕ} b [] (omega arith)) (All-nil (λ t. e ≤ t))
later_slots own e s (suc n) zero h = elim (cases_Bool (own s)) [
  | inl y ↦ rw y (All-cons (λ t. e ≤ t) s (own_slots own (suc s) n)
      (elim (cases_lt s e) [ inl lt ↦ absurd (omega (arith, h, own_before_lt own s e y lt)) | inr le ↦ le ])
      (later_slots own e (suc s) n zero (omega (arith, h, own_before_own own s y))))
  | inr o ↦ rw o (later_slots own e (suc s) n zero (omega (arith, h, own_before_other own s o)))
]
later_slots own e s (suc n) (suc b) h = elim (cases_Bool (own s)) [
  | inl y ↦ rw y (later_slots own e (suc s) n b (omega (arith, h, own_before_own own s y)))
  | inr o ↦ rw o (later_slots own e (suc s) n (suc b) (omega (arith, h, own_before_other own s o)))
]

pub released : (own : ℕ → Bool) (rate lead free : ℕ) (unit : PesPacket) → own_before own (release rate lead unit.dts) ≤ first_slot own rate lead free unit
unfolding first_slot
released own rate lead free unit = omega arith

-- A unit's packets lie in slots from its release on.
pub unit_slots : (own : ℕ → Bool) (rate lead free n : ℕ) (unit : PesPacket) →
    All (λ s. release rate lead unit.dts ≤ s) (take (packets_of_unit unit) (drop (first_slot own rate lead free unit) (own_slots own 0 n)))
unfolding own_before
unit_slots own rate lead free n unit =
    All-take (λ s. release rate lead unit.dts ≤ s) (packets_of_unit unit) (drop (first_slot own rate lead free unit) (own_slots own 0 n))
    (later_slots own (release rate lead unit.dts) 0 n (first_slot own rate lead free unit) (omega (arith, released own rate lead free unit)))
