use Rattle.description.proofs.Counted.{counted_law, count_law}
use Rattle.description.proofs.SameTables.{same_tables_law}
use Rattle.description.proofs.Versions.{versioned_law}
use Rattle.changed_texts.proofs.VersionLaws.{next_version_law, rises_law, stays_law}
use Rattle.changed_texts.proofs.laws.versions.Goals as goal

pub returns-clause-next : goal.returns-clause-next
returns-clause-next c = next_version_law counted_law count_law same_tables_law

pub returns-clause-rises : goal.returns-clause-rises
returns-clause-rises c = rises_law counted_law count_law same_tables_law

pub returns-clause-stays : goal.returns-clause-stays
returns-clause-stays c = stays_law counted_law count_law same_tables_law versioned_law
