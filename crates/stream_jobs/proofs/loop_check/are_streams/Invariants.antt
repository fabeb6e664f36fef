use Rattle.std.proofs.Common.{◌≡◌, length}
use Rattle.stream_jobs.specs.CarriedLoops.{are_streams}
use Rattle.stream_jobs.proofs.loop_check.are_streams.Given as goal

abbrev pub invariant-streams : goal.invariant-streams
invariant-streams l = are_streams l.initial.ones l.initial.rest ≡ are_streams l.ones l.rest

abbrev pub decreases-streams : goal.decreases-streams
decreases-streams l = length l.ones
