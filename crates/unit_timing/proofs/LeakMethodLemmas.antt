-- The leak if the elementary stream buffer may be full, and why the buffer never is
use Rattle.std.proofs.Common.{◌≡◌, ℕ, zero, suc, ◌+◌, ◌<◌, ◌≤◌, max, cond, List, [], ◌∷◌, ◌++◌, length, take, drop, replicate, refl, ap, ◌∙◌, sym, inl, inr}
use Rattle.std.proofs.Common.{arith, All}
use Rattle.std.proofs.Math.Nat.{le_trans}
use Rattle.std.proofs.lemmas.Bool.{cases_lt}
use Rattle.std.proofs.lemmas.Bool.Decides.{nat_tests}
use Rattle.std.proofs.lemmas.List.{drop_all, drop-drop}
use Rattle.std.proofs.lemmas.List.Elements.{All-nil, All-cons, All-head, All-tail, All-weaker}
use Rattle.clock27.specs.Departure.{departures}
use Rattle.clock27.specs.Fullness.{is_in_buffer, fullness}
use Rattle.unit_timing.specs.LeakMethod.{transfers, latest, NeverFalls, TransfersLaw, NeverFullLaw}

-- ---- Two queues

later_of : (step p q t room : ℕ) → max (max t room) (max p q) + step ≡ max (max t p + step) (max room q + step)
later_of step p q t room = omega arith

pub transfers_law : TransfersLaw
unfolding transfers latest departures
transfers_law step p q [] rooms = refl
transfers_law step p q (t ∷ ts) [] = refl
transfers_law step p q (t ∷ ts) (room ∷ rooms) =
    rw (later_of step p q t room) (ap (λ l. max (max t p + step) (max room q + step) ∷ l) (transfers_law step (max t p + step) (max room q + step) ts rooms))

-- ---- EB is never full

-- For each of these bytes there is room when the byte enters MB.
unfoldable InRoom : List ℕ → List ℕ → Type 0
InRoom rooms [] = Unit {0}
InRoom [] (t ∷ ts) = ⊥
InRoom (room ∷ rooms) (t ∷ ts) = (room ≤ t) × InRoom rooms ts

in_room : (step prev : ℕ) (rooms ts : List ℕ) → InRoom rooms ts → transfers step prev ts rooms ≡ departures step prev ts
unfolding InRoom transfers departures
in_room step prev rooms [] has = refl
in_room step prev [] (t ∷ ts) has = absurd has
in_room step prev (room ∷ rooms) (t ∷ ts) has =
    let e : max (max t room) prev ≡ max t prev = omega (arith, has.0) in
    rw e (ap (λ l. (max t prev + step) ∷ l) (in_room step (max t prev + step) rooms ts has.1))

-- The first `size` bytes have room from the start.
from_start : (step prev size : ℕ) (removed ts : List ℕ) → InRoom removed (drop size ts) →
    transfers step prev ts (replicate size 0 ++ removed) ≡ departures step prev ts
unfolding transfers departures
from_start step prev zero removed ts has = in_room step prev removed ts has
from_start step prev (suc size) removed [] has = refl
from_start step prev (suc size) removed (t ∷ ts) has =
    let e : max (max t 0) prev ≡ max t prev = omega arith in
    rw e (ap (λ l. (max t prev + step) ∷ l) (from_start step (max t prev + step) size removed ts has))

-- If times never fall, none lies before the first, and the first n do not lie after the next.
falls_all : (from low : ℕ) (ts : List ℕ) → low ≤ from → NeverFalls from ts → All (λ t. low ≤ t) ts
unfolding NeverFalls
falls_all from low [] le falls = All-nil (λ t. low ≤ t)
falls_all from low (t ∷ ts) le falls =
    All-cons (λ t. low ≤ t) t ts (le_trans le falls.0) (falls_all t low ts (le_trans le falls.0) falls.1)

-- The bytes that have entered by x and are removed after x are there at x.
held : (x n : ℕ) (ts removed : List ℕ) → n ≤ length ts → n ≤ length removed →
    All (λ t. t ≤ x) (take n ts) → All (λ d. x < d) removed → n ≤ fullness x ts removed
unfolding fullness
held x zero ts removed some some' come stay = omega arith
held x (suc n) [] removed some some' come stay = absurd (omega (arith, some))
held x (suc n) (t ∷ ts) [] some some' come stay = absurd (omega (arith, some'))
held x (suc n) (t ∷ ts) (d ∷ removed) some some' come stay =
    let one = is_held x t d (All-head (λ t. t ≤ x) t (take n ts) come) (All-head (λ d. x < d) d removed stay) in
    let rest = held x n ts removed (omega (arith, some)) (omega (arith, some')) (All-tail (λ t. t ≤ x) t (take n ts) come)
    (All-tail (λ d. x < d) d removed stay) in
    omega (arith, one, rest)
  where
    is_held : (x t d : ℕ) → t ≤ x → x < d → (let n : ℕ = cond (is_in_buffer x t d) 1 0 in n) ≡ 1
    is_held x t d come stay = grind (arith, nat_tests)

-- The entry in place n, and the entries before it
record Reached (n : ℕ) (ts : List ℕ) : Type 0 where
  time : ℕ
  rest : List ℕ
  there : drop n ts ≡ time ∷ rest
  enough : suc n ≤ length ts
  before : All (λ t. t ≤ time) (take (suc n) ts)

reach : (n from : ℕ) (ts : List ℕ) → NeverFalls from ts → n < length ts → Reached n ts
unfolding NeverFalls
reach n from [] falls lt = absurd (omega (arith, lt))
reach zero from (t ∷ ts) falls lt = record {
  time = t;
  rest = ts;
  there = refl;
  enough = omega (arith, lt);
  before = All-cons (λ u. u ≤ t) t [] (omega arith) (All-nil (λ u. u ≤ t));
}
reach (suc n) from (t ∷ ts) falls lt =
    let r = reach n t ts falls.1 (omega (arith, lt)) in
    let later : t ≤ r.time = at_last n t ts r falls.1 in
    record {
      time = r.time;
      rest = r.rest;
      there = r.there;
      enough = omega (arith, r.enough);
      before = All-cons (λ u. u ≤ r.time) t (take (suc n) ts) later r.before;
    }
  where
    at_last : (n from : ℕ) (ts : List ℕ) (r : Reached n ts) → NeverFalls from ts → from ≤ r.time
    at_last n from [] r falls = absurd (omega (arith, r.enough))
    at_last n from (t ∷ ts) r falls = le_trans (unfold NeverFalls in falls.0) (All-head (λ u. u ≤ r.time) t (take n ts) r.before)

-- One more byte never lowers the fullness.
fullness_rest : (x t d : ℕ) (ts removed : List ℕ) → fullness x ts removed ≤ fullness x (t ∷ ts) (d ∷ removed)
unfolding fullness
fullness_rest x t d ts removed = omega arith

-- If the byte `size` places before a byte were still there when the byte enters, there would be more than `size` bytes at that moment.
all_in_room : (size from low : ℕ) (ts removed : List ℕ) → NeverFalls from ts → NeverFalls low removed → length ts ≤ length removed →
    ((x : ℕ) → fullness x ts removed ≤ size) → InRoom removed (drop size ts)
unfolding InRoom NeverFalls
all_in_room size from low [] removed falls falls' long fits = rw (drop_all {X = ℕ} size [] (omega arith)) tt
all_in_room size from low (t ∷ ts) [] falls falls' long fits = absurd (omega (arith, long))
all_in_room size from low (t ∷ ts) (d ∷ removed) falls falls' long fits = elim (cases_lt size (length (t ∷ ts))) [
  | inr short ↦ rw (drop_all size (t ∷ ts) short) tt
  | inl many ↦
      let r = reach size from (t ∷ ts) falls many in
      let gone : d ≤ r.time = elim (cases_lt r.time d) [
        | inr le ↦ le
        | inl over ↦ absurd (omega (
          arith,
          fits r.time,
          held r.time (suc size) (t ∷ ts) (d ∷ removed) r.enough (omega (arith, long, r.enough)) r.before
              (All-weaker (λ e. d ≤ e) (λ e. r.time < e) (λ e le. omega (arith, le, over)) (d ∷ removed)
              (falls_all d d (d ∷ removed) (omega arith) (omega arith, falls'.1))),
        ))
      ] in
      let e : suc size ≡ size + 1 = omega arith in
      let rest : drop size ts ≡ r.rest = ap (λ (k : ℕ). drop k (t ∷ ts)) e ∙ sym (drop-drop 1 size (t ∷ ts)) ∙ ap (drop 1) r.there in
      rw r.there (
        gone,
        rw (← rest) (all_in_room size t d ts removed falls.1 falls'.1 (omega (arith, long)) (λ x. le_trans (fullness_rest x t d ts removed) (fits x))),
      )
]

pub never_full_law : NeverFullLaw
never_full_law step size ts removed falls falls' long fits = from_start step 0 size removed ts (all_in_room size 0 0 ts removed falls falls' long fits)
