use Rattle.tstd_rows.proofs.TablePeaks.{tables_law}
use Rattle.tstd_rows.proofs.view_laws.tables.Goals as goal

pub returns : goal.returns
returns c = tables_law
