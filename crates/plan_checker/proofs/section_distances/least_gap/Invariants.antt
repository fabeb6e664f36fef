use Rattle.std.proofs.Common.{◌≡◌, ◌+◌, ◌-◌, ◌≤◌, length}
use Rattle.own_slots.specs.Slots.{own_before}
use Rattle.own_slots.specs.Period.{own, position}
use Rattle.own_slots.specs.Extremes.{least}
use Rattle.slot_plan.specs.Items.{marks}
use Rattle.slot_plan.proofs.LeastGaps.{near_ahead}
use Rattle.plan_checker.proofs.section_distances.least_gap.Given as goal

abbrev pub invariant-walk : goal.invariant-walk
invariant-walk l = record {
  within : l.at ≤ length l.slots;
  found : l.least ≡ least (position (marks l.item l.slots) l.row) l.at (near_ahead (marks l.item l.slots) l.row);
  next : l.ahead ≡ position (marks l.item l.slots) (own_before (own (marks l.item l.slots)) l.at + l.row);
}

abbrev pub decreases-walk : goal.decreases-walk
decreases-walk l = length l.slots - l.at
