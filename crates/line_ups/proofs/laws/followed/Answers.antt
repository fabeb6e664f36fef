use Rattle.description.proofs.Counted.{counted_law, count_law}
use Rattle.description.proofs.SameTables.{same_tables_law}
use Rattle.line_ups.proofs.Followed.{same_followed, range_followed, text_followed, version_followed}
use Rattle.line_ups.proofs.laws.followed.Goals as goal

pub returns-clause-same : goal.returns-clause-same
returns-clause-same c = same_followed counted_law

pub returns-clause-range : goal.returns-clause-range
returns-clause-range c = range_followed counted_law

pub returns-clause-texts : goal.returns-clause-texts
returns-clause-texts c = text_followed counted_law same_tables_law

pub returns-clause-version : goal.returns-clause-version
returns-clause-version c = version_followed counted_law count_law same_tables_law
