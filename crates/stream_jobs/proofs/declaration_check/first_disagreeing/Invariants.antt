use Rattle.std.proofs.Common.{◌≡◌, length}
use Rattle.stream_jobs.specs.Jobs.{AgreeInTurn, first_disagreeing}
use Rattle.stream_jobs.proofs.declaration_check.first_disagreeing.Given as goal

abbrev pub invariant-streams : goal.invariant-streams
invariant-streams l = record {
  value : first_disagreeing l.description l.initial.ones l.initial.rest ≡ first_disagreeing l.description l.ones l.rest;
  agree : AgreeInTurn l.description l.ones l.rest → AgreeInTurn l.description l.initial.ones l.initial.rest;
}

abbrev pub decreases-streams : goal.decreases-streams
decreases-streams l = length l.ones
