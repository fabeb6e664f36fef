use Rattle.std.proofs.Common.{◌≡◌, ℕ, ◌+◌, ◌-◌, ◌*◌, false, length, arith, ap, sym, ◌∙◌}
use Rattle.std.proofs.Math.Nat.{mul-le-mul_right}
use Rattle.own_slots.specs.Extremes.{greatest}
use Rattle.own_slots.specs.Work.{work_at, before_at, after_at}
use Rattle.own_slots.proofs.Extremes.{greatest_none}
use Rattle.own_slots.proofs.WorkLemmas.{work_begin, before_more, after_more}
use Rattle.slot_plan.specs.Items.{marks}
use Rattle.plan_checker.proofs.work.work_of.Goals as goal
use Rattle.clock27.proofs.MinMax.{max_is}
use Rattle.plan_checker.proofs.OwnMarks.{length_marks, work_own, work_other}
use Rattle.plan_checker.proofs.OwnWalks.{foreign_from, mark_in, work_over, before_over, after_over}

slots_between : (n i : ℕ) → n - i - 1 ≡ n - (i + 1)
slots_between n i = omega arith

pub walk-init : goal.walk-init
walk-init c = record {
  within = omega arith;
  now = sym (work_begin c.args.rate c.args.drain c.args.start (marks c.args.item c.args.slots.now));
  bound = omega arith;
  few_after = omega arith;
  before = sym (greatest_none (before_at c.args.rate c.args.drain c.args.start (marks c.args.item c.args.slots.now)));
  after = sym (greatest_none (after_at c.args.rate c.args.drain c.args.start (marks c.args.item c.args.slots.now)));
}

pub walk-preserved-then-owns : goal.walk-preserved-then-owns
walk-preserved-then-owns c =
    let y = mark_in c.args.item c.args.slots.now c.walk.at (omega arith) ∙ sym c.owns.ensures ∙ c.if-owns.true in
    let here = work_own c.args.rate c.args.drain c.args.start c.args.item c.args.slots.now c.walk.at (omega arith) y in
    let next = c.next-next.ensures in
    let over = work_over c.args.rate c.args.drain c.args.start c.args.item c.args.slots.now (c.walk.at + 1) c.next-next.result next in
    record {
      within = omega (arith, next.within);
      now = omega (
        arith,
        c.saturating_sub-work.ensures,
        c.saturating_sub-left.ensures,
        c.walk.invariant.now,
        here,
        over,
        ap (λ (n : ℕ). 188 * c.args.drain * n) (slots_between c.next-next.result c.walk.at),
      );
      bound = omega (
        arith,
        next.after,
        c.saturating_sub-work.ensures,
        c.saturating_sub-left.ensures,
        c.walk.invariant.bound,
        mul-le-mul_right (188 * c.args.rate) next.after,
      );
      before = omega (
        arith,
        c.max-most_before.ensures,
        max_is c.walk.most_before (c.walk.work + 188 * c.args.rate),
        c.walk.invariant.now,
        c.walk.invariant.before,
        before_more c.args.rate c.args.drain c.args.start (marks c.args.item c.args.slots.now) c.walk.at y,
        before_over c.args.rate c.args.drain c.args.start c.args.item c.args.slots.now (c.walk.at + 1) c.next-next.result next,
      );
      few_after = omega (
        arith,
        c.max-most_after.ensures,
        max_is c.walk.most_after (c.saturating_sub-left.result + 188 * c.args.rate),
        next.after,
        c.saturating_sub-left.ensures,
        c.walk.invariant.bound,
        c.walk.invariant.few_after,
        mul-le-mul_right (188 * c.args.rate) next.after,
      );
      after = omega (
        arith,
        c.max-most_after.ensures,
        max_is c.walk.most_after (c.saturating_sub-left.result + 188 * c.args.rate),
        c.saturating_sub-left.ensures,
        c.walk.invariant.now,
        c.walk.invariant.after,
        here,
        after_more c.args.rate c.args.drain c.args.start (marks c.args.item c.args.slots.now) c.walk.at y,
        after_over c.args.rate c.args.drain c.args.start c.args.item c.args.slots.now (c.walk.at + 1) c.next-next.result next,
      );
    }

pub walk-preserved : goal.walk-preserved
walk-preserved c =
    let n = sym c.owns.ensures ∙ c.if-owns.false in
    let m = mark_in c.args.item c.args.slots.now c.walk.at (omega arith) ∙ n in
    let here = work_other c.args.rate c.args.drain c.args.start c.args.item c.args.slots.now c.walk.at (omega arith) m in
    let next = c.next-next.ensures in
    let over = work_over c.args.rate c.args.drain c.args.start c.args.item c.args.slots.now (c.walk.at + 1) c.next-next.result next in
    let all = foreign_from c.args.item c.args.slots.now c.walk.at c.next-next.result n next in
    record {
      within = omega (arith, next.within);
      now = omega (
        arith,
        c.saturating_sub-work-else-owns.ensures,
        c.saturating_sub-left.ensures,
        c.walk.invariant.now,
        here,
        over,
        ap (λ (n : ℕ). 188 * c.args.drain * n) (slots_between c.next-next.result c.walk.at),
      );
      bound = omega (
        arith,
        next.after,
        c.saturating_sub-work-else-owns.ensures,
        c.saturating_sub-left.ensures,
        c.walk.invariant.bound,
        mul-le-mul_right (188 * c.args.rate) next.after,
      );
      before = c.walk.invariant.before
          ∙ sym (before_over c.args.rate c.args.drain c.args.start c.args.item c.args.slots.now c.walk.at c.next-next.result all);
      few_after = omega (arith, next.after, c.walk.invariant.few_after, mul-le-mul_right (188 * c.args.rate) next.after);
      after = c.walk.invariant.after
          ∙ sym (after_over c.args.rate c.args.drain c.args.start c.args.item c.args.slots.now c.walk.at c.next-next.result all);
    }

pub returns-clause-before : goal.returns-clause-before
returns-clause-before c =
    let e : c.walk.at ≡ length (marks c.args.item c.args.slots.now) = omega (arith, length_marks c.args.item c.args.slots.now) in
    c.walk.invariant.before ∙ ap (λ (n : ℕ). greatest n (before_at c.args.rate c.args.drain c.args.start (marks c.args.item c.args.slots.now))) e

pub returns-clause-after : goal.returns-clause-after
returns-clause-after c =
    let e : c.walk.at ≡ length (marks c.args.item c.args.slots.now) = omega (arith, length_marks c.args.item c.args.slots.now) in
    c.walk.invariant.after ∙ ap (λ (n : ℕ). greatest n (after_at c.args.rate c.args.drain c.args.start (marks c.args.item c.args.slots.now))) e

pub returns-clause-left : goal.returns-clause-left
returns-clause-left c =
    let e : c.walk.at ≡ length (marks c.args.item c.args.slots.now) = omega (arith, length_marks c.args.item c.args.slots.now) in
    c.walk.invariant.now ∙ ap (work_at c.args.rate c.args.drain c.args.start (marks c.args.item c.args.slots.now)) e
