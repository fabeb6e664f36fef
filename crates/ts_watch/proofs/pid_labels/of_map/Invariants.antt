use Rattle.std.proofs.Common.{◌≡◌, drop}
use Rattle.ts_watch.specs.PidLabels.{of_map}
use Rattle.ts_watch.proofs.pid_labels.of_map.Given as goal

abbrev pub invariant-loop-program : goal.invariant-loop-program
invariant-loop-program l = of_map l.pid (drop l.program-index l.programs) ≡ of_map l.fn.pid l.programs
