use Rattle.tr101290.proofs.Entries.{entry_law, greatest_law, part_law, time_law}
use Rattle.tr101290.proofs.interval_laws.intervals.Goals as goal

pub returns-clause-entries : goal.returns-clause-entries
returns-clause-entries c = entry_law

pub returns-clause-parts : goal.returns-clause-parts
returns-clause-parts c = part_law

pub returns-clause-greatest : goal.returns-clause-greatest
returns-clause-greatest c = greatest_law

pub returns-clause-times : goal.returns-clause-times
returns-clause-times c = time_law
