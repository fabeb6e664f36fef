use Rattle.std.proofs.Common.{◌≡◌, length}
use Rattle.job_inputs.specs.JoinedInputs.{are_same_streams}
use Rattle.job_inputs.proofs.joined_inputs.are_same_streams.Given as goal

abbrev pub invariant-streams : goal.invariant-streams
invariant-streams l = are_same_streams l.initial.left l.initial.rest ≡ are_same_streams l.left l.rest

abbrev pub decreases-streams : goal.decreases-streams
decreases-streams l = length l.left
