-- The slots that empty a buffer, for one period and for all time.
use Rattle.std.proofs.Common.{◌≡◌, ℕ, zero, suc, ◌+◌, ◌-◌, ◌*◌, ◌%◌, ◌<◌, ◌≤◌, max, Bool, true, false, nat_lt, ltb, not, List, [], ◌∷◌, ◌++◌, length, get_or, replicate, refl}
use Rattle.std.proofs.Common.{ap, ◌∙◌, sym, subst, inl, inr, arith}
use Rattle.std.proofs.lemmas.Bool.{cases_lt, cond-true, cond-false, lt-ltb, le-ltb, ltb-true, and_parts}
use Rattle.own_slots.specs.Slots.{AtLeastPerWindow}
use Rattle.own_slots.specs.Period.{own, position, back, places}
use Rattle.own_slots.specs.Extremes.{greatest}
use Rattle.own_slots.specs.Gaps.{gap}
use Rattle.own_slots.specs.Work.{work_step, work_at, periodic_work}
use Rattle.own_slots.specs.Switch.{joined, joined_work}
use Rattle.own_slots.proofs.Gaps.{gap_law}
use Rattle.own_slots.proofs.SwitchLemmas.{joined_first, joined_second, switch_gap_law}
use Rattle.unit_timing.specs.PlanLaws.{in_turn}
use Rattle.slot_plan.specs.EmptySlots.{empty_slots, EmptiesEachSecond, EmptiesAcross}

-- W bounds the work before each slot. In some slots the buffer becomes empty: these slots are not own slots, each drains the work left at its
-- begin, and each window of at most a second has such a slot.
pub record EmptiesOften (own : ℕ → Bool) (rate drain : ℕ) (W : ℕ → ℕ) : Type 0 where
  pub empties : ℕ → Bool
  pub idle : (s : ℕ) → empties s ≡ true → own s ≡ false
  pub drained : (s : ℕ) → empties s ≡ true → W s - 188 * drain < 188 * drain
  pub window : ℕ
  pub second : window * 1504 ≤ rate
  pub served : AtLeastPerWindow empties window 1

-- One period

length-empty_slots : (rate drain work : ℕ) (marks : List Bool) → length (empty_slots rate drain work marks) ≡ length marks
unfolding empty_slots
length-empty_slots rate drain work [] = refl
length-empty_slots rate drain work (mark ∷ marks) = ap suc (length-empty_slots rate drain (work_step rate drain work mark) marks)

is_other : (b : Bool) → not b ≡ true → b ≡ false
is_other true e = cc
is_other false e = refl

-- A slot that empties the buffer in a period is no own slot, and drains the work left at its begin.
in_period : (rate drain work : ℕ) (marks : List Bool) (p : ℕ) → get_or (empty_slots rate drain work marks) p false ≡ true →
    (get_or marks p false ≡ false) × (work_at rate drain work marks p - 188 * drain < 188 * drain)
unfolding empty_slots work_at
in_period rate drain work [] p is = let no : ⊥ = cc in absurd no
in_period rate drain work (mark ∷ marks) zero is =
    let parts = and_parts (not mark) (nat_lt (work - 188 * drain) (188 * drain)) is in
    (is_other mark parts.0, ltb-true (work - 188 * drain) (188 * drain) parts.1)
in_period rate drain work (mark ∷ marks) (suc p) is = in_period rate drain (work_step rate drain work mark) marks p is

-- The same for every slot of all periods
at_slot : (rate drain start : ℕ) (marks : List Bool) (s : ℕ) → own (empty_slots rate drain start marks) s ≡ true →
    (own marks s ≡ false) × (periodic_work rate drain start marks s - 188 * drain < 188 * drain)
at_slot rate drain start marks s is =
    in_period rate drain start marks (s % length marks)
    (subst (λ (n : ℕ). get_or (empty_slots rate drain start marks) (s % n) false ≡ true) (length-empty_slots rate drain start marks) is)

pub one_plan : (rate drain start : ℕ) (marks : List Bool) → EmptiesEachSecond rate drain start marks →
    EmptiesOften (own marks) rate drain (periodic_work rate drain start marks)
one_plan rate drain start marks holds = record {
  empties = own (empty_slots rate drain start marks);
  idle = λ s is. (at_slot rate drain start marks s is).0;
  drained = λ s is. (at_slot rate drain start marks s is).1;
  window = gap (empty_slots rate drain start marks) 1;
  second = holds.often;
  served = gap_law (empty_slots rate drain start marks) 1 (gap (empty_slots rate drain start marks) 1) holds.some (omega arith);
}

-- Two plans in turn

-- If three times are at most a second, so is the greatest.
longest : (a b c rate : ℕ) → a * 1504 ≤ rate → b * 1504 ≤ rate → c * 1504 ≤ rate → max (max a b) c * 1504 ≤ rate
longest a b c rate first second across = omega (arith, first, second, across)

pub two_plans : (rate drain start : ℕ) (first : List Bool) (next_start : ℕ) (second : List Bool) (periods : ℕ) →
    EmptiesEachSecond rate drain start first → EmptiesEachSecond rate drain next_start second → EmptiesAcross rate drain start first next_start second →
    EmptiesOften (in_turn first periods second) rate drain
    (joined_work (periodic_work rate drain start first) (periodic_work rate drain next_start second) (periods * length first))
two_plans rate drain start first next_start second periods one two joins = record {
  empties = joined (own e1) (own e2) at;
  idle = λ s is. elim (cases_lt s at) [
    | inl lt ↦ joined_first (own first) (own second) at s lt ∙ (at_slot rate drain start first s (sym (joined_first (own e1) (own e2) at s lt) ∙ is)).0
    | inr le ↦ let e : s ≡ at + (s - at) = omega (arith, le) in
        ap (joined (own first) (own second) at) e ∙ joined_second (own first) (own second) at (s - at)
        ∙ (at_slot rate drain next_start second (s - at) (sym (ap (joined (own e1) (own e2) at) e ∙ joined_second (own e1) (own e2) at (s - at)) ∙ is)).0
  ];
  drained = λ s is. elim (cases_lt s at) [
    | inl lt ↦ let here : JW s ≡ V s = cond-true (ltb s at) (V s) (W (s - at)) (lt-ltb s at lt) in
        omega (arith, here, (at_slot rate drain start first s (sym (joined_first (own e1) (own e2) at s lt) ∙ is)).1)
    | inr le ↦ let e : s ≡ at + (s - at) = omega (arith, le) in
        let here : JW s ≡ W (s - at) = cond-false (ltb s at) (V s) (W (s - at)) (le-ltb s at le) in
        let there = sym (ap (joined (own e1) (own e2) at) e ∙ joined_second (own e1) (own e2) at (s - at)) ∙ is in
        omega (arith, here, (at_slot rate drain next_start second (s - at) there).1)
  ];
  window = g;
  second = longest (gap e1 1) (gap e2 1) (position e2 0 + back e1 1) rate one.often two.often joins.often;
  served = subst (λ (n : ℕ). AtLeastPerWindow (joined (own e1) (own e2) (periods * n)) g 1) (length-empty_slots rate drain start first)
      (switch_gap_law e1 e2 periods 1 g one.some two.some (omega arith) (omega arith)
      (λ x some most. let e : x ≡ 1 = omega (arith, some, most) in rw e (omega arith)));
}
  where
    at : ℕ
    at = periods * length first

    e1 : List Bool
    e1 = empty_slots rate drain start first

    e2 : List Bool
    e2 = empty_slots rate drain next_start second

    V : ℕ → ℕ
    V = periodic_work rate drain start first

    W : ℕ → ℕ
    W = periodic_work rate drain next_start second

    JW : ℕ → ℕ
    JW = joined_work V W at

    g : ℕ
    g = max (max (gap e1 1) (gap e2 1)) (position e2 0 + back e1 1)

-- Worked values: four own slots of 24 at 3,008,000 bits a second

four_of_24 : List Bool
four_of_24 = replicate 4 true ++ replicate 20 false

-- MB, drained at 1,000,000 bits a second, becomes empty in slot 12, and TB, drained at 2,000,000, in slot 6: 13 and 7 slots after the last slot of a period.
mb_empties : gap (empty_slots 3008000 1000000 0 four_of_24) 1 ≡ 13
unfolding four_of_24 empty_slots places greatest
mb_empties = refl

tb_empties : gap (empty_slots 3008000 2000000 0 four_of_24) 1 ≡ 7
unfolding four_of_24 empty_slots places greatest
tb_empties = refl
