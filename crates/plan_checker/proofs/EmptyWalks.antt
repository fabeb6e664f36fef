-- A walk over the slots of a period finds each slot that empties a buffer.
use Rattle.std.proofs.Common.{◌≡◌, ℕ, zero, suc, ◌+◌, ◌-◌, ◌*◌, ◌/◌, ◌%◌, ◌<◌, ◌≤◌, ◌==◌, max, Bool, true, false, List, [], ◌∷◌, length, get_or, refl, ap, sym}
use Rattle.std.proofs.Common.{◌∙◌, inl, inr, arith, add-one}
use Rattle.std.proofs.Math.Nat.{mod-eq_of_lt}
use Rattle.std.proofs.lemmas.Bool.{cases_Bool, cases_lt}
use Rattle.std.proofs.lemmas.Bool.Decides.{nat_tests}
use Rattle.own_slots.specs.Slots.{own_before}
use Rattle.own_slots.specs.Period.{own, places, per_period, position, back}
use Rattle.own_slots.specs.Extremes.{greatest}
use Rattle.own_slots.specs.Gaps.{gap}
use Rattle.own_slots.specs.Work.{work_step, work_at}
use Rattle.own_slots.proofs.Counts.{own_before_own, own_before_other, own_before_lt}
use Rattle.own_slots.proofs.Extremes.{greatest_none, greatest_more}
use Rattle.own_slots.proofs.PositionLemmas.{own_before_period, positions_law, position_turns}
use Rattle.slot_plan.specs.EmptySlots.{becomes_empty, empty_slots}
use Rattle.plan_checker.specs.declared.empties.EmptyWalk.{EmptyWalk}
use Rattle.plan_checker.specs.EmptyWalks.{one_more, passed, round_gap}

-- The slots that empty the buffer

pub length-empty_slots : (rate drain work : ℕ) (marks : List Bool) → length (empty_slots rate drain work marks) ≡ length marks
unfolding empty_slots
length-empty_slots rate drain work [] = refl
length-empty_slots rate drain work (mark ∷ marks) = ap suc (length-empty_slots rate drain (work_step rate drain work mark) marks)

mark_of : (rate drain work : ℕ) (marks : List Bool) (s : ℕ) → s < length marks →
    get_or (empty_slots rate drain work marks) s false ≡ becomes_empty drain (work_at rate drain work marks s) (get_or marks s false)
unfolding empty_slots work_at
mark_of rate drain work [] s lt = absurd (omega arith)
mark_of rate drain work (mark ∷ marks) zero lt = refl
mark_of rate drain work (mark ∷ marks) (suc s) lt = mark_of rate drain (work_step rate drain work mark) marks s (omega arith)

-- Slot s of a period empties the buffer or not, by its own mark and the work before it.
pub empty_at : (rate drain start : ℕ) (marks : List Bool) (s : ℕ) (mark : Bool) (work : ℕ) → s < length marks → get_or marks s false ≡ mark →
    work ≡ work_at rate drain start marks s → own (empty_slots rate drain start marks) s ≡ becomes_empty drain work mark
empty_at rate drain start marks s mark work lt is now =
    let small : s < length (empty_slots rate drain start marks) = omega (arith, lt, length-empty_slots rate drain start marks) in
    ap (λ (k : ℕ). get_or (empty_slots rate drain start marks) k false) (mod-eq_of_lt small) ∙ mark_of rate drain start marks s lt
    ∙ ap (λ (b : Bool). becomes_empty drain (work_at rate drain start marks s) b) is
    ∙ ap (λ (w : ℕ). becomes_empty drain w mark) (sym now)

-- The walk

-- The distance from an emptying slot to the next
abbrev pub step : List Bool → ℕ → ℕ
step E i = position E (i + 1) - position E i

-- The state of the walk after the first s slots of a period, given which slots empty the buffer
pub record Walks (E : List Bool) (s : ℕ) (w : EmptyWalk) : Type 0 where
  pub counted : w.count ≡ own_before (own E) s
  pub first : 0 < w.count → position E 0 ≡ w.first
  pub last : 0 < w.count → position E (w.count - 1) ≡ w.last
  pub longest : w.longest ≡ greatest (w.count - 1) (step E)
  pub none : w.count ≡ 0 → (w.first ≡ 0) × (w.last ≡ 0)
  pub near : w.first ≤ s
  pub before : w.last ≤ s
  pub few : w.count ≤ s

pub walk_begins : (E : List Bool) → Walks E 0 (record { count = 0; first = 0; last = 0; longest = 0 })
walk_begins E = record {
  counted = unfold own_before in refl;
  first = λ some. absurd (omega (arith, some));
  last = λ some. absurd (omega (arith, some));
  longest = sym (greatest_none (step E));
  none = λ z. (refl, refl);
  near = omega arith;
  before = omega arith;
  few = omega arith;
}

-- If the next slot empties the buffer, it is the first emptying slot or a later one.
walk_first : (E : List Bool) (s : ℕ) (w : EmptyWalk) → s < length E → own E s ≡ true → w.count ≡ 0 → Walks E s w →
    Walks E (s + 1) (record { count = 1; first = s; last = s; longest = 0 })
walk_first E s w lt is empty walks =
    let some : 0 < per_period E = omega (arith, own_before_lt (own E) s (length E) is lt, own_before_period E) in
    let at : position E (own_before (own E) s) ≡ s = (positions_law E some).found s is in
    let here : position E 0 ≡ s = ap (position E) (sym empty ∙ walks.counted) ∙ at in
    record {
      counted = rw (add-one s) (omega (arith, own_before_own (own E) s is, walks.counted, empty));
      first = λ one. here;
      last = λ one. here;
      longest = sym (greatest_none (step E));
      none = λ z. absurd (omega (arith, z));
      near = omega arith;
      before = omega arith;
      few = omega arith;
    }

walk_further : (E : List Bool) (s : ℕ) (w : EmptyWalk) → s < length E → own E s ≡ true → 0 < w.count → Walks E s w →
    Walks E (s + 1) (record { count = w.count + 1; first = w.first; last = s; longest = max w.longest (s - w.last) })
walk_further E s w lt is one walks =
    let some : 0 < per_period E = omega (arith, own_before_lt (own E) s (length E) is lt, own_before_period E) in
    let at : position E w.count ≡ s = ap (position E) walks.counted ∙ (positions_law E some).found s is in
    let e : w.count + 1 - 1 ≡ w.count = omega arith in
    let f : w.count - 1 + 1 ≡ w.count = omega (arith, one) in
    let there : step E (w.count - 1) ≡ s - w.last = ap (λ (n : ℕ). position E n - position E (w.count - 1)) f
    ∙ ap (λ (n : ℕ). n - position E (w.count - 1)) at ∙ ap (λ (n : ℕ). s - n) (walks.last one) in
    let all : greatest w.count (step E) ≡ max (greatest (w.count - 1) (step E)) (step E (w.count - 1)) =
    ap (λ (n : ℕ). greatest n (step E)) (sym f) ∙ greatest_more (w.count - 1) (step E) in
    record {
      counted = rw (add-one s) (omega (arith, own_before_own (own E) s is, walks.counted));
      first = λ more. walks.first one;
      last = λ more. ap (position E) e ∙ at;
      longest = ap (λ (n : ℕ). max n (s - w.last)) walks.longest ∙ ap (max (greatest (w.count - 1) (step E))) (sym there) ∙ sym all
          ∙ ap (λ (n : ℕ). greatest n (step E)) (sym e);
      none = λ z. absurd (omega (arith, z));
      near = omega (arith, walks.near);
      before = omega arith;
      few = omega (arith, walks.few);
    }

walk_one : (E : List Bool) (s : ℕ) (w : EmptyWalk) → s < length E → own E s ≡ true → Walks E s w → Walks E (s + 1) (one_more w s)
walk_one E s w lt is walks = elim (cases_Bool (w.count == 0)) [
  | inl none ↦ rw none (walk_first E s w lt is (no_count w.count none) walks)
  | inr some ↦ rw some (walk_further E s w lt is (some_count w.count some) walks)
]
  where
    no_count : (n : ℕ) → (n == 0) ≡ true → n ≡ 0
    no_count n e = grind (arith, nat_tests, e)

    some_count : (n : ℕ) → (n == 0) ≡ false → 0 < n
    some_count n e = grind (arith, nat_tests, e)

-- If the next slot does not empty the buffer, the walk passes it.
walk_past : (E : List Bool) (s : ℕ) (w : EmptyWalk) → own E s ≡ false → Walks E s w → Walks E (s + 1) w
walk_past E s w other walks = record {
  counted = rw (add-one s) (walks.counted ∙ sym (own_before_other (own E) s other));
  first = walks.first;
  last = walks.last;
  longest = walks.longest;
  none = walks.none;
  near = omega (arith, walks.near);
  before = omega (arith, walks.before);
  few = omega (arith, walks.few);
}

pub walk_on : (E : List Bool) (s : ℕ) (w : EmptyWalk) (is_empty : Bool) → s < length E → own E s ≡ is_empty → Walks E s w →
    Walks E (s + 1) (passed w s is_empty)
walk_on E s w true lt is walks = walk_one E s w lt is walks
walk_on E s w false lt is walks = walk_past E s w is walks

-- The end of the walk

no_places : (xs : List ℕ) → length xs ≡ 0 → get_or xs 0 0 ≡ 0
no_places [] none = refl
no_places (x ∷ xs) none = absurd (omega (arith, none))

-- In a period without emptying slots the position is 0.
none_at : (E : List Bool) → per_period E ≡ 0 → position E 0 ≡ 0
none_at E none = ap (λ (n : ℕ). get_or (places 0 E) n 0 + 0 / per_period E * length E) (zero_rest (per_period E))
    ∙ ap (λ (n : ℕ). get_or (places 0 E) 0 0 + n * length E) (zero_turns (per_period E)) ∙ omega (arith, no_places (places 0 E) none)
  where
    zero_rest : (c : ℕ) → 0 % c ≡ 0
    zero_rest zero = refl
    zero_rest (suc c) = omega arith

    zero_turns : (c : ℕ) → 0 / c ≡ 0
    zero_turns zero = refl
    zero_turns (suc c) = omega arith

pub all_counted : (E : List Bool) (w : EmptyWalk) → Walks E (length E) w → w.count ≡ per_period E
all_counted E w walks = walks.counted ∙ own_before_period E

pub first_found : (E : List Bool) (w : EmptyWalk) → Walks E (length E) w → w.first ≡ position E 0
first_found E w walks = elim (cases_lt 0 w.count) [
  | inl some ↦ sym (walks.first some)
  | inr le ↦ let none : w.count ≡ 0 = omega (arith, le) in (walks.none none).0 ∙ sym (none_at E (sym (all_counted E w walks) ∙ none))
]

last_is : (E : List Bool) (w : EmptyWalk) → Walks E (length E) w → position E (w.count - 1) ≡ w.last
last_is E w walks = elim (cases_lt 0 w.count) [
  | inl some ↦ walks.last some
  | inr le ↦ let none : w.count ≡ 0 = omega (arith, le) in let e : w.count - 1 ≡ 0 = omega (arith, le) in
      ap (position E) e ∙ none_at E (sym (all_counted E w walks) ∙ none) ∙ sym (walks.none none).1
]

pub back_found : (E : List Bool) (w : EmptyWalk) → Walks E (length E) w → length E - w.last ≡ back E 1
back_found E w walks =
    let e : 1 * per_period E - 1 ≡ w.count - 1 = omega (arith, all_counted E w walks) in
    let there : position E (1 * per_period E - 1) ≡ w.last = ap (position E) e ∙ last_is E w walks in
    omega (arith, there)

-- The step from the last emptying slot to the next leads across the end of the period to the first emptying slot.
round_end : (E : List Bool) (w : EmptyWalk) → Walks E (length E) w → 0 < w.count → step E (w.count - 1) ≡ w.first + (length E - w.last)
round_end E w walks some =
    let pos : 0 < per_period E = omega (arith, some, all_counted E w walks) in
    let e : w.count - 1 + 1 ≡ 0 + 1 * per_period E = omega (arith, some, all_counted E w walks) in
    let next : position E (w.count - 1 + 1) ≡ position E 0 + 1 * length E = ap (position E) e ∙ position_turns E 0 1 pos in
    omega (arith, next, walks.first some, walks.last some, walks.before)

pub gap_found : (E : List Bool) (w : EmptyWalk) → Walks E (length E) w → round_gap w (length E) ≡ gap E 1
gap_found E w walks = elim (cases_Bool (w.count == 0)) [
  | inl none ↦ rw none (sym (ap (λ (n : ℕ). greatest n (step E)) (sym (all_counted E w walks) ∙ no_count w.count none) ∙ greatest_none (step E)))
  | inr some ↦ rw some (several (some_count w.count some))
]
  where
    no_count : (n : ℕ) → (n == 0) ≡ true → n ≡ 0
    no_count n e = grind (arith, nat_tests, e)

    some_count : (n : ℕ) → (n == 0) ≡ false → 0 < n
    some_count n e = grind (arith, nat_tests, e)

    several : 0 < w.count → max w.longest (w.first + (length E - w.last)) ≡ gap E 1
    several some =
        let f : w.count - 1 + 1 ≡ per_period E = omega (arith, some, all_counted E w walks) in
        ap (λ (n : ℕ). max n (w.first + (length E - w.last))) walks.longest
        ∙ ap (max (greatest (w.count - 1) (step E))) (sym (round_end E w walks some))
        ∙ sym (greatest_more (w.count - 1) (step E)) ∙ ap (λ (n : ℕ). greatest n (step E)) f
