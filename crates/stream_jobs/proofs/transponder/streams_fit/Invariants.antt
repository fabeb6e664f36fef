use Rattle.std.proofs.Common.{◌≡◌, length}
use Rattle.std.specs.Prelude.{nat_le, sum_by}
use Rattle.stream_jobs.specs.Transponders.{network_stream_size}
use Rattle.stream_jobs.proofs.transponder.streams_fit.Given as goal

abbrev pub invariant-streams : goal.invariant-streams
invariant-streams l = nat_le (sum_by network_stream_size l.initial.rest) l.initial.left ≡ nat_le (sum_by network_stream_size l.rest) l.left

abbrev pub decreases-streams : goal.decreases-streams
decreases-streams l = length l.rest
