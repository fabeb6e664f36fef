use Rattle.std.proofs.Common.{◌≡◌}
use Rattle.own_slots.specs.Extremes.{least}
use Rattle.plan_maker.specs.Bounded.{most_long}
use Rattle.plan_maker.specs.Placements.{due_number, first_least}
use Rattle.plan_maker.proofs.search.placement.most_urgent.Given as goal

abbrev pub invariant-loop-i : goal.invariant-loop-i
invariant-loop-i l = record {
  least : l.least ≡ least most_long l.i (due_number l.tasks l.at);
  urgent : l.urgent ≡ first_least l.i (due_number l.tasks l.at);
}
