use Rattle.std.proofs.Common.{◌≡◌, ◌≤◌, ◌-◌}
use Rattle.stream_choice.specs.Paces.{first_half, serves, greatest_pace}
use Rattle.stream_choice.proofs.pace_selection.first_half.Given as goal

abbrev pub invariant-loop-turn : goal.invariant-loop-turn
invariant-loop-turn g l = record {
  same : first_half 27 (serves l.needs (g.U.PacedUnits.burst l.units) l.delay l.max_lead) (greatest_pace l.needs)
      ≡ first_half (27 - l.turn) (serves l.needs (g.U.PacedUnits.burst l.units) l.delay l.max_lead) l.pace;
  bound : l.pace ≤ 100000000;
}
