use Rattle.std.proofs.Common.{◌≡◌, ◌++◌, map, take, drop}
use Rattle.events.specs.CheckCounts.{row_with}
use Rattle.events.proofs.check_counts.add_to.Given as goal

abbrev pub invariant-loop-row : goal.invariant-loop-row
invariant-loop-row l = take l.row-index l.rows ++ map (row_with l.fault) (drop l.row-index l.rows) ≡ map (row_with l.fault) l.fn.rows
