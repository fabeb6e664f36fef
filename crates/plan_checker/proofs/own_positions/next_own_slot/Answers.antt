use Rattle.std.proofs.Common.{◌≡◌, ℕ, ◌+◌, ◌<◌, ◌≤◌, length, arith, ap, sym, ◌∙◌}
use Rattle.own_slots.specs.Slots.{own_before}
use Rattle.own_slots.specs.Period.{own}
use Rattle.own_slots.proofs.Counts.{own_before_le}
use Rattle.slot_plan.specs.Items.{marks}
use Rattle.plan_checker.proofs.own_positions.next_own_slot.Goals as goal
use Rattle.plan_checker.proofs.OwnMarks.{some_slots, position_here, own_before_after_other, own_before_after_own, a_period_on}
use Rattle.plan_checker.proofs.OwnWalks.{turned_over, own_turned}

pub walk-init : goal.walk-init
walk-init c = record {
  within = omega (arith, c.next.ensures.within);
  counted = turned_over c.args.item c.args.slots.now c.args.from c.next.result c.len-period.result c.len-period.ensures c.next.ensures
      ∙ own_before_after_own c.args.item c.args.slots.now c.args.from c.requires.own;
}

pub returns-then-owns : goal.returns-then-owns
returns-then-owns c =
    sym (position_here c.args.item c.args.slots.now c.walk.at _
    (sym (own_turned c.args.item c.args.slots.now c.walk.at c.len-period.result c.len-period.ensures
    (some_slots c.args.item c.args.slots.now c.requires.owned)) ∙ sym c.owns.ensures ∙ c.if-owns.true)
    c.walk.invariant.counted c.requires.owned)

pub walk-preserved : goal.walk-preserved
walk-preserved c = record {
  within = omega (arith, c.next-next.ensures.within);
  counted = turned_over c.args.item c.args.slots.now c.walk.at c.next-next.result c.len-period.result c.len-period.ensures c.next-next.ensures
      ∙ own_before_after_other c.args.item c.args.slots.now c.walk.at
      (sym (own_turned c.args.item c.args.slots.now c.walk.at c.len-period.result c.len-period.ensures
      (some_slots c.args.item c.args.slots.now c.requires.owned)) ∙ sym c.owns.ensures ∙ c.if-owns.false)
      ∙ c.walk.invariant.counted;
}

pub returns : goal.returns
returns c =
    let some : 0 < length c.args.slots.now = some_slots c.args.item c.args.slots.now c.requires.owned in
    let over : c.args.from + length c.args.slots.now ≤ c.walk.at = omega (arith, c.walk-test.false, c.len-period.ensures) in
    let counted : own_before (own (marks c.args.item c.args.slots.now)) (c.args.from + length c.args.slots.now)
    ≡ own_before (own (marks c.args.item c.args.slots.now)) c.args.from + 1 = omega (
      arith,
      own_before_after_own c.args.item c.args.slots.now c.args.from c.requires.own,
      own_before_le (own (marks c.args.item c.args.slots.now)) (c.args.from + 1) (c.args.from + length c.args.slots.now) (omega (arith, some)),
      own_before_le (own (marks c.args.item c.args.slots.now)) (c.args.from + length c.args.slots.now) c.walk.at over,
      c.walk.invariant.counted,
    ) in
    ap (λ (n : ℕ). c.args.from + n) c.len-period.ensures
    ∙ sym (a_period_on c.args.item c.args.slots.now c.args.from _ c.requires.own counted c.requires.owned)
