use Rattle.std.proofs.Common.{◌≡◌, length}
use Rattle.std.specs.Prelude.{nat_le, sum_by}
use Rattle.stream_jobs.specs.Transponders.{service_size}
use Rattle.stream_jobs.proofs.transponder.fit.Given as goal

abbrev pub invariant-services : goal.invariant-services
invariant-services l = nat_le (sum_by service_size l.initial.rest) l.initial.left ≡ nat_le (sum_by service_size l.rest) l.left

abbrev pub decreases-services : goal.decreases-services
decreases-services l = length l.rest
