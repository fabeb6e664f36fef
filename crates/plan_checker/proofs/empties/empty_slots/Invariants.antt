use Rattle.std.proofs.Common.{◌≡◌, ◌+◌, ◌*◌, ◌≤◌}
use Rattle.own_slots.specs.Work.{work_at}
use Rattle.slot_plan.specs.EmptySlots.{empty_slots}
use Rattle.slot_plan.specs.Items.{marks}
use Rattle.plan_checker.proofs.EmptyWalks.{Walks}
use Rattle.plan_checker.proofs.empties.empty_slots.Given as goal

abbrev pub invariant-loop-at : goal.invariant-loop-at
invariant-loop-at l = record {
  now : l.work ≡ work_at l.rate l.drain l.start (marks l.item l.slots) l.at;
  bound : l.work ≤ l.start + l.at * (188 * l.rate);
  walks : Walks (empty_slots l.rate l.drain l.start (marks l.item l.slots)) l.at l.walk;
}
