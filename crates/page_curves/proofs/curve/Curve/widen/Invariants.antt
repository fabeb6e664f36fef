use Rattle.std.proofs.Common.{ℕ, ◌+◌, ◌/◌, max, List}
use Rattle.page_curves.specs.Curves.{IsCurve, Sample, next_of}
use Rattle.page_curves.proofs.Widening.{Widens}
use Rattle.page_curves.proofs.curve.Curve.widen.Given as goal

abbrev pub invariant-loop-self : goal.invariant-loop-self
invariant-loop-self l = (samples : List Sample) → IsCurve l.fn.self samples → Widens l.self samples (max (l.number + 1) (next_of samples))

abbrev pub decreases-loop-self : goal.decreases-loop-self
decreases-loop-self l = l.number / l.self.span
