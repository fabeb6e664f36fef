use Rattle.std.proofs.Common.{◌≡◌, ◌-◌, ◌≤◌, length}
use Rattle.own_slots.specs.Slots.{own_before}
use Rattle.own_slots.specs.Period.{own}
use Rattle.slot_plan.specs.Items.{marks}
use Rattle.plan_checker.proofs.own_counts.own_slot.Given as goal

abbrev pub invariant-walk : goal.invariant-walk
invariant-walk l = record {
  within : l.at ≤ length l.slots;
  counted : l.count ≡ own_before (own (marks l.item l.slots)) l.at;
  few : l.count ≤ l.number;
}

abbrev pub decreases-walk : goal.decreases-walk
decreases-walk l = length l.slots - l.at
