use Rattle.std.proofs.Common.{◌≡◌, ◌+◌, ◌-◌, ◌*◌, ◌≤◌, length}
use Rattle.own_slots.specs.Extremes.{greatest}
use Rattle.own_slots.specs.Work.{work_at, before_at, after_at}
use Rattle.slot_plan.specs.Items.{marks}
use Rattle.plan_checker.proofs.work.work_of.Given as goal

abbrev pub invariant-walk : goal.invariant-walk
invariant-walk l = record {
  within : l.at ≤ length l.slots;
  now : l.work ≡ work_at l.rate l.drain l.start (marks l.item l.slots) l.at;
  bound : l.work ≤ l.start + l.at * (188 * l.rate);
  before : l.most_before ≡ greatest l.at (before_at l.rate l.drain l.start (marks l.item l.slots));
  few_after : l.most_after ≤ l.start + l.at * (188 * l.rate);
  after : l.most_after ≡ greatest l.at (after_at l.rate l.drain l.start (marks l.item l.slots));
}

abbrev pub decreases-walk : goal.decreases-walk
decreases-walk l = length l.slots - l.at
