use Rattle.description.proofs.Entries.{shared, entries, own, off_air}
use Rattle.description.proofs.laws.program_maps.Goals as goal

pub returns-clause-shared : goal.returns-clause-shared
returns-clause-shared c = shared

pub returns-clause-tables : goal.returns-clause-tables
returns-clause-tables c = entries

pub returns-clause-own : goal.returns-clause-own
returns-clause-own c = own

pub returns-clause-off_air : goal.returns-clause-off_air
returns-clause-off_air c = off_air
