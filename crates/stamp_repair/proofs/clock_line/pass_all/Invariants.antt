use Rattle.std.proofs.Common.{◌≡◌, length}
use Rattle.stamp_repair.specs.DataTimes.{passed_by}
use Rattle.stamp_repair.proofs.clock_line.pass_all.Given as goal

abbrev pub invariant-loop-first : goal.invariant-loop-first
invariant-loop-first l = passed_by l.packet l.fn.clocks l.references ≡ passed_by l.packet l.clocks l.later

abbrev pub decreases-loop-first : goal.decreases-loop-first
decreases-loop-first l = length l.later
