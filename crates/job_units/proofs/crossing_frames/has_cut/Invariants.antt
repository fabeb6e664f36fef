use Rattle.std.proofs.Common.{◌≡◌, length}
use Rattle.job_units.specs.CrossingFrames.{has_cut}
use Rattle.job_units.proofs.crossing_frames.has_cut.Given as goal

abbrev pub invariant-cuts : goal.invariant-cuts
invariant-cuts l = has_cut l.kind l.bytes l.next ≡ has_cut l.kind l.left l.next

abbrev pub decreases-cuts : goal.decreases-cuts
decreases-cuts l = length l.left
