use Rattle.std.proofs.Common.{◌≡◌, ℕ, zero, suc, ◌+◌, ◌-◌, ◌*◌, ◌<◌, ◌≤◌, List, length, arith, ap, sym, ◌∙◌}
use Rattle.std.proofs.Math.Nat.{mul-le-mul_left, mul-le-mul_right}
use Rattle.std.proofs.lemmas.Nat.{mul-le}
use Rattle.own_slots.specs.Slots.{own_before}
use Rattle.own_slots.specs.Period.{own, per_period}
use Rattle.own_slots.specs.Extremes.{greatest}
use Rattle.own_slots.proofs.Extremes.{greatest_none}
use Rattle.own_slots.specs.Spread.{highest, lowest, raised}
use Rattle.own_slots.proofs.Spread.{highest_none, highest_more, lowest_none, lowest_more, spread_walk_law}
use Rattle.slot_plan.specs.declared.slot.Slot.{Slot}
use Rattle.slot_plan.specs.declared.slot.Item.{Item}
use Rattle.slot_plan.specs.Items.{marks}
use Rattle.plan_checker.proofs.spread.spread_of.Goals as goal
use Rattle.clock27.proofs.MinMax.{max_is, min_is}
use Rattle.plan_checker.proofs.OwnMarks.{length_marks, own_before_none, own_before_after_own, few_own_before, raised_here}
use Rattle.plan_checker.proofs.OwnWalks.{counted_over, foreign_from, highest_over, lowest_over}

none_greatest : (n : ℕ) (f : ℕ → ℕ) → n ≡ 0 → greatest n f ≡ 0
none_greatest zero f e = greatest_none f
none_greatest (suc n) f e = absurd (omega (arith, e))

raised_few : (count at number period : ℕ) → at < period → count * at + (count - number) * period ≤ 2 * (count * period)
raised_few count at number period lt =
    let a : count * at ≤ count * period = mul-le-mul_left count (omega (arith, lt)) in
    let b : (count - number) * period ≤ count * period = mul-le-mul_right period (omega arith) in
    omega (arith, a, b)

pub returns-then-count-eq0-clause-spread : goal.returns-then-count-eq0-clause-spread
returns-then-count-eq0-clause-spread c =
    sym (none_greatest (per_period (marks c.args.item c.args.slots.now)) _ (omega (arith, c.own_count-count.ensures.count, c.if-count-eq0.true)))

raised_there : (item : Item) (slots : List Slot) (count at number period : ℕ) → period ≡ length slots → count ≡ per_period (marks item slots) →
    number ≡ own_before (own (marks item slots)) at →
    count * at + (count - number) * period ≡ raised (per_period (marks item slots)) (length (marks item slots)) at (own_before (own (marks item slots)) at)
raised_there item slots count at number period e c n = rw e (raised_here item slots count at number c n)

pub walk-init : goal.walk-init
walk-init c = record {
  within = omega arith;
  counted = sym (own_before_none c.args.item c.args.slots.now);
  high = sym (highest_none (marks c.args.item c.args.slots.now));
  few = omega arith;
  low = ap (λ (n : ℕ). 2 * n * c.len-end.result) c.own_count-count.ensures.count
      ∙ ap (λ (n : ℕ). 2 * per_period (marks c.args.item c.args.slots.now) * n)
      (c.len-end.ensures ∙ sym (length_marks c.args.item c.args.slots.now))
      ∙ sym (lowest_none (marks c.args.item c.args.slots.now));
}

pub overflow_sub-raised : goal.overflow_sub-raised
overflow_sub-raised c = omega (
  arith,
  c.walk.invariant.counted,
  c.own_count-count.ensures.count,
  few_own_before c.args.item c.args.slots.now c.walk.at c.walk.invariant.within,
)

pub overflow_add-number : goal.overflow_add-number
overflow_add-number c = record {
  fits = omega (
    arith,
    c.requires.short,
    c.walk.invariant.counted,
    c.own_count-count.ensures.count,
    c.own_count-count.ensures.bound,
    few_own_before c.args.item c.args.slots.now c.walk.at c.walk.invariant.within,
  );
}

pub walk-preserved-then-owns : goal.walk-preserved-then-owns
walk-preserved-then-owns c =
    let y = sym c.owns.ensures ∙ c.if-owns.true in
    let here = raised_there c.args.item c.args.slots.now c.own_count-count.result c.walk.at c.walk.number c.len-end.result c.len-end.ensures
    c.own_count-count.ensures.count c.walk.invariant.counted in
    let next = c.next-at.ensures in
    record {
      within = omega (arith, next.within);
      counted = omega (
        arith,
        c.walk.invariant.counted,
        own_before_after_own c.args.item c.args.slots.now c.walk.at y,
        counted_over c.args.item c.args.slots.now (c.walk.at + 1) c.next-at.result next,
      );
      high = omega (
        arith,
        c.max-highest.ensures,
        max_is c.walk.highest (c.own_count-count.result * c.walk.at + (c.own_count-count.result - c.walk.number) * c.len-end.result),
        here,
        c.walk.invariant.high,
        highest_more (marks c.args.item c.args.slots.now) c.walk.at y,
        highest_over c.args.item c.args.slots.now (c.walk.at + 1) c.next-at.result next,
      );
      few = omega (
        arith,
        c.max-highest.ensures,
        max_is c.walk.highest (c.own_count-count.result * c.walk.at + (c.own_count-count.result - c.walk.number) * c.len-end.result),
        c.walk.invariant.few,
        raised_few c.own_count-count.result c.walk.at c.walk.number c.len-end.result c.walk-test.true,
      );
      low = omega (
        arith,
        c.min-lowest.ensures,
        min_is c.walk.lowest (c.own_count-count.result * c.walk.at + (c.own_count-count.result - c.walk.number) * c.len-end.result),
        here,
        c.walk.invariant.low,
        lowest_more (marks c.args.item c.args.slots.now) c.walk.at y,
        lowest_over c.args.item c.args.slots.now (c.walk.at + 1) c.next-at.result next,
      );
    }

pub walk-preserved : goal.walk-preserved
walk-preserved c =
    let n = foreign_from c.args.item c.args.slots.now c.walk.at c.next-at-else-owns.result (sym c.owns.ensures ∙ c.if-owns.false) c.next-at-else-owns.ensures in
    record {
      within = omega (arith, n.within);
      counted = omega (arith, c.walk.invariant.counted, counted_over c.args.item c.args.slots.now c.walk.at c.next-at-else-owns.result n);
      high = c.walk.invariant.high ∙ sym (highest_over c.args.item c.args.slots.now c.walk.at c.next-at-else-owns.result n);
      few = omega (arith, c.walk.invariant.few);
      low = c.walk.invariant.low ∙ sym (lowest_over c.args.item c.args.slots.now c.walk.at c.next-at-else-owns.result n);
    }

pub returns-clause-spread : goal.returns-clause-spread
returns-clause-spread c =
    let e : c.walk.at ≡ length (marks c.args.item c.args.slots.now) = omega (arith, length_marks c.args.item c.args.slots.now) in
    let high = c.walk.invariant.high ∙ ap (highest (marks c.args.item c.args.slots.now)) e in
    let low = c.walk.invariant.low ∙ ap (lowest (marks c.args.item c.args.slots.now)) e in
    omega (arith, c.saturating_sub.ensures, high, low, spread_walk_law (marks c.args.item c.args.slots.now) (omega (arith, c.own_count-count.ensures.count)))

pub returns-clause-bound : goal.returns-clause-bound
returns-clause-bound c = omega (
  arith,
  c.saturating_sub.ensures,
  c.walk.invariant.few,
  c.requires.short,
  c.own_count-count.ensures.bound,
  c.len-end.ensures,
  mul-le c.own_count-count.result c.len-end.result 65536 65536 (omega (arith, c.own_count-count.ensures.bound, c.requires.short))
      (omega (arith, c.len-end.ensures, c.requires.short)),
)
