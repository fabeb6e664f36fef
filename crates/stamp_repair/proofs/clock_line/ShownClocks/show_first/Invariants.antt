use Rattle.std.proofs.Common.{◌≡◌, length}
use Rattle.stamp_repair.specs.DataTimes.{first_shown}
use Rattle.stamp_repair.proofs.clock_line.ShownClocks.show_first.Given as goal

abbrev pub invariant-loop-first : goal.invariant-loop-first
invariant-loop-first l = first_shown l.fn.self l.references ≡ first_shown l.self l.later

abbrev pub decreases-loop-first : goal.decreases-loop-first
decreases-loop-first l = length l.later
