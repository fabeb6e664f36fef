use Rattle.std.proofs.Common.{◌≡◌, drop}
use Rattle.ts_watch.specs.PidLabels.{of_clock}
use Rattle.ts_watch.proofs.pid_labels.of_clock.Given as goal

abbrev pub invariant-loop-program : goal.invariant-loop-program
invariant-loop-program l = of_clock l.pid (drop l.program-index l.programs) ≡ of_clock l.fn.pid l.programs
