use Rattle.std.proofs.Common.{◌≡◌, ◌*◌, ◌-◌, ◌≤◌, length}
use Rattle.own_slots.specs.Slots.{own_before}
use Rattle.own_slots.specs.Period.{own}
use Rattle.own_slots.specs.Spread.{highest, lowest}
use Rattle.slot_plan.specs.Items.{marks}
use Rattle.plan_checker.proofs.spread.spread_of.Given as goal

abbrev pub invariant-walk : goal.invariant-walk
invariant-walk l = record {
  within : l.at ≤ length l.slots;
  counted : l.number ≡ own_before (own (marks l.item l.slots)) l.at;
  high : l.highest ≡ highest (marks l.item l.slots) l.at;
  few : l.highest ≤ 2 * (l.count * l.period);
  low : l.lowest ≡ lowest (marks l.item l.slots) l.at;
}

abbrev pub decreases-walk : goal.decreases-walk
decreases-walk l = length l.slots - l.at
