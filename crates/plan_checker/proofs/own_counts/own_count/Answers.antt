use Rattle.std.proofs.Common.{◌≡◌, ◌+◌, length, arith, ap, sym, ◌∙◌}
use Rattle.own_slots.specs.Slots.{own_before}
use Rattle.own_slots.specs.Period.{own}
use Rattle.slot_plan.specs.Items.{marks}
use Rattle.plan_checker.proofs.own_counts.own_count.Goals as goal
use Rattle.plan_checker.proofs.OwnMarks.{own_before_after_own, own_before_none, own_before_all}
use Rattle.plan_checker.proofs.OwnWalks.{counted_over, foreign_from}

pub walk-init : goal.walk-init
walk-init c = record { within = omega arith; counted = sym (own_before_none c.args.item c.args.slots.now); few = omega arith }

pub walk-preserved-then-owns : goal.walk-preserved-then-owns
walk-preserved-then-owns c =
    let e = own_before_after_own c.args.item c.args.slots.now c.walk.at (sym c.owns.ensures ∙ c.if-owns.true) in
    let f = counted_over c.args.item c.args.slots.now (c.walk.at + 1) c.next-at.result c.next-at.ensures in
    record {
      within = omega (arith, c.next-at.ensures.within);
      counted = omega (arith, c.walk.invariant.counted, e, f);
      few = omega (arith, c.next-at.ensures.after, c.walk.invariant.few);
    }

pub walk-preserved : goal.walk-preserved
walk-preserved c =
    let n = foreign_from c.args.item c.args.slots.now c.walk.at c.next-at-else-owns.result (sym c.owns.ensures ∙ c.if-owns.false) c.next-at-else-owns.ensures in
    let e = counted_over c.args.item c.args.slots.now c.walk.at c.next-at-else-owns.result n in
    record { within = omega (arith, n.within); counted = omega (arith, c.walk.invariant.counted, e); few = omega (arith, n.after, c.walk.invariant.few) }

pub returns-clause-count : goal.returns-clause-count
returns-clause-count c =
    let e : c.walk.at ≡ length c.args.slots.now = omega arith in
    c.walk.invariant.counted ∙ ap (own_before (own (marks c.args.item c.args.slots.now))) e ∙ own_before_all c.args.item c.args.slots.now
