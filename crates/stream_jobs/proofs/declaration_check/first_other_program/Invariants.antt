use Rattle.std.proofs.Common.{◌≡◌, length}
use Rattle.stream_jobs.specs.Jobs.{AreInTurn, first_other_program}
use Rattle.stream_jobs.proofs.declaration_check.first_other_program.Given as goal

abbrev pub invariant-programs : goal.invariant-programs
invariant-programs l = record {
  value : first_other_program l.pids l.initial.ones l.initial.rest ≡ first_other_program l.pids l.ones l.rest;
  are : AreInTurn l.pids l.ones l.rest → AreInTurn l.pids l.initial.ones l.initial.rest;
}

abbrev pub decreases-programs : goal.decreases-programs
decreases-programs l = length l.ones
