use Rattle.std.proofs.Common.{◌≡◌, length}
use Rattle.stream_jobs.specs.CarriedLoops.{are_events}
use Rattle.stream_jobs.proofs.loop_check.are_events.Given as goal

abbrev pub invariant-events : goal.invariant-events
invariant-events l = are_events l.number l.initial.ones l.initial.rest ≡ are_events l.number l.ones l.rest

abbrev pub decreases-events : goal.decreases-events
decreases-events l = length l.rest
