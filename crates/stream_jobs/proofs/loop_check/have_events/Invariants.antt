use Rattle.std.proofs.Common.{◌≡◌, length}
use Rattle.stream_jobs.specs.CarriedLoops.{have_events}
use Rattle.stream_jobs.proofs.loop_check.have_events.Given as goal

abbrev pub invariant-programs : goal.invariant-programs
invariant-programs l = have_events l.initial.ones l.events ≡ have_events l.ones l.events

abbrev pub decreases-programs : goal.decreases-programs
decreases-programs l = length l.ones
