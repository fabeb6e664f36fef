use Rattle.std.proofs.Common.{◌≡◌, drop}
use Rattle.page_curves.proofs.Kept.{entry_name}
use Rattle.page_curves.proofs.pid_curves.name_in.Given as goal

abbrev pub invariant-loop-entry : goal.invariant-loop-entry
invariant-loop-entry l = entry_name l.pid (drop l.entry-index l.curves) ≡ entry_name l.pid l.curves
