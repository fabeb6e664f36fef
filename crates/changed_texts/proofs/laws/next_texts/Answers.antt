use Rattle.description.proofs.Counted.{counted_law}
use Rattle.description.proofs.SameTables.{same_tables_law}
use Rattle.changed_texts.proofs.VersionLaws.{same_texts_law, next_range_law, next_text_law}
use Rattle.changed_texts.proofs.laws.next_texts.Goals as goal

pub returns-clause-same : goal.returns-clause-same
returns-clause-same c = same_texts_law counted_law

pub returns-clause-range : goal.returns-clause-range
returns-clause-range c = next_range_law counted_law

pub returns-clause-texts : goal.returns-clause-texts
returns-clause-texts c = next_text_law counted_law same_tables_law
