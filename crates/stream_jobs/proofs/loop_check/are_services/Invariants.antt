use Rattle.std.proofs.Common.{◌≡◌, length}
use Rattle.stream_jobs.specs.CarriedLoops.{are_services}
use Rattle.stream_jobs.proofs.loop_check.are_services.Given as goal

abbrev pub invariant-services : goal.invariant-services
invariant-services l = are_services l.initial.ones l.initial.rest ≡ are_services l.ones l.rest

abbrev pub decreases-services : goal.decreases-services
decreases-services l = length l.ones
