use Rattle.std.proofs.Common.{◌≡◌, ◌++◌, List, take, drop}
use Rattle.page_curves.specs.PidCurves.{AreCurves, KeptCurve, with_sample}
use Rattle.page_curves.specs.Curves.{sample}
use Rattle.page_curves.proofs.Kept.{Walks}
use Rattle.page_curves.proofs.pid_curves.take_in.Given as goal

abbrev pub invariant-loop-entry : goal.invariant-loop-entry
invariant-loop-entry l = (kept : List KeptCurve) → AreCurves l.fn.curves kept → Walks l.curves kept l.pid (sample l.number l.value) l.entry-index
