use Rattle.std.proofs.Common.{◌≡◌, max, drop}
use Rattle.page_curves.specs.PidCurves.{greatest_value}
use Rattle.page_curves.proofs.pid_curves.greatest_value.Given as goal

abbrev pub invariant-loop-entry : goal.invariant-loop-entry
invariant-loop-entry l = max l.greatest (greatest_value (drop l.entry-index l.curves)) ≡ greatest_value l.curves
