use Rattle.std.proofs.Common.{◌≡◌, [], drop}
use Rattle.ts_report.specs.StoppedClocks.{with_clocks}
use Rattle.ts_report.proofs.stopped_clocks.clocks_of.Given as goal

abbrev pub invariant-loop-program : goal.invariant-loop-program
invariant-loop-program l = with_clocks l.pids (drop l.program-index l.programs) ≡ with_clocks [] l.programs
