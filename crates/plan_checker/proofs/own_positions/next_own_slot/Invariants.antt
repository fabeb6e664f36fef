use Rattle.std.proofs.Common.{◌≡◌, ◌+◌, ◌-◌, ◌*◌, ◌≤◌, length}
use Rattle.own_slots.specs.Slots.{own_before}
use Rattle.own_slots.specs.Period.{own}
use Rattle.slot_plan.specs.Items.{marks}
use Rattle.plan_checker.proofs.own_positions.next_own_slot.Given as goal

abbrev pub invariant-walk : goal.invariant-walk
invariant-walk l = record {
  within : l.at ≤ l.from + 2 * length l.slots;
  counted : own_before (own (marks l.item l.slots)) l.at ≡ own_before (own (marks l.item l.slots)) l.from + 1;
}

abbrev pub decreases-walk : goal.decreases-walk
decreases-walk l = l.from + length l.slots - l.at
