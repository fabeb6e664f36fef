use Rattle.std.proofs.Common.{◌≡◌, ◌≤◌}
use Rattle.own_slots.specs.Slots.{own_before}
use Rattle.own_slots.specs.Period.{own}
use Rattle.slot_plan.specs.Items.{marks}
use Rattle.mux_core.proofs.coming.own_among.Given as goal

abbrev pub invariant-loop-at : goal.invariant-loop-at
invariant-loop-at l = record {
  counted : l.count ≡ own_before (own (marks l.item l.slots)) l.at;
  few : l.count ≤ l.at;
}
