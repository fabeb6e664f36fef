use Rattle.fault_summary.proofs.Counted.{check_law, counts_faults, row_law}
use Rattle.fault_summary.proofs.laws.counted.Goals as goal

pub returns-clause-checks : goal.returns-clause-checks
returns-clause-checks c = check_law

pub returns-clause-counts : goal.returns-clause-counts
returns-clause-counts c = counts_faults

pub returns-clause-rows : goal.returns-clause-rows
returns-clause-rows c = row_law
