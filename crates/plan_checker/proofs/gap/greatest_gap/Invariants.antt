use Rattle.std.proofs.Common.{◌≡◌, ◌+◌, ◌-◌, ◌≤◌, length}
use Rattle.own_slots.specs.Slots.{own_before}
use Rattle.own_slots.specs.Period.{own, position}
use Rattle.own_slots.specs.Extremes.{greatest}
use Rattle.own_slots.specs.Gaps.{ahead}
use Rattle.slot_plan.specs.Items.{marks}
use Rattle.plan_checker.proofs.gap.greatest_gap.Given as goal

abbrev pub invariant-walk : goal.invariant-walk
invariant-walk l = record {
  within : l.at ≤ length l.slots;
  found : l.greatest ≡ greatest l.at (ahead (marks l.item l.slots) l.row);
  next : l.ahead ≡ position (marks l.item l.slots) (own_before (own (marks l.item l.slots)) l.at + l.row);
}

abbrev pub decreases-walk : goal.decreases-walk
decreases-walk l = length l.slots - l.at
