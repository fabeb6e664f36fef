use Rattle.std.proofs.Common.{◌≡◌, length}
use Rattle.stream_jobs.specs.Jobs.{TablesInTurn, first_other_table}
use Rattle.stream_jobs.proofs.table_check.first_other_table.Given as goal

abbrev pub invariant-tables : goal.invariant-tables
invariant-tables l = record {
  value : first_other_table l.initial.ones l.initial.rest ≡ first_other_table l.ones l.rest;
  are : TablesInTurn l.ones l.rest → TablesInTurn l.initial.ones l.initial.rest;
}

abbrev pub decreases-tables : goal.decreases-tables
decreases-tables l = length l.ones
