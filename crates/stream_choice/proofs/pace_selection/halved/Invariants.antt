use Rattle.std.proofs.Common.{◌≡◌, ◌≤◌, ◌-◌}
use Rattle.stream_choice.specs.Paces.{halved, serves}
use Rattle.stream_choice.proofs.pace_selection.halved.Given as goal

abbrev pub invariant-loop-turn : goal.invariant-loop-turn
invariant-loop-turn g l = record {
  same : halved 27 (serves l.needs (g.U.PacedUnits.burst l.units) l.delay l.max_lead) 0 l.from
      ≡ halved (27 - l.turn) (serves l.needs (g.U.PacedUnits.burst l.units) l.delay l.max_lead) l.low l.high;
  order : l.low ≤ l.high;
  bound : l.high ≤ l.from;
}
