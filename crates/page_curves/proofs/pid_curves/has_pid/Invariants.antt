use Rattle.std.proofs.Common.{◌≡◌, drop}
use Rattle.page_curves.proofs.Kept.{entry_has}
use Rattle.page_curves.proofs.pid_curves.has_pid.Given as goal

abbrev pub invariant-loop-entry : goal.invariant-loop-entry
invariant-loop-entry l = entry_has l.pid (drop l.entry-index l.curves) ≡ entry_has l.pid l.curves
