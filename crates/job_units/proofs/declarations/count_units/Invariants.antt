use Rattle.std.proofs.Common.{◌≡◌, length}
use Rattle.job_programs.specs.Answers.{each}
use Rattle.job_units.specs.Declarations.{unit_counts}
use Rattle.job_programs.proofs.Each.{after}
use Rattle.job_units.proofs.declarations.count_units.Given as goal

abbrev pub invariant-loop-stream : goal.invariant-loop-stream
invariant-loop-stream l = each (unit_counts l.given) l.fn.streams ≡ after l.all.items (each (unit_counts l.given) l.left)

abbrev pub decreases-loop-stream : goal.decreases-loop-stream
decreases-loop-stream l = length l.left
