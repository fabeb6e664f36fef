use Rattle.std.proofs.Common.{◌≡◌, ◌++◌, drop}
use Rattle.events.specs.CheckCounts.{events_of}
use Rattle.events.proofs.check_counts.push_all.Given as goal

abbrev pub invariant-loop-row : goal.invariant-loop-row
invariant-loop-row l = l.events.items ++ events_of l.time (drop l.row-index l.rows) ≡ l.fn.events.items ++ events_of l.time l.rows
