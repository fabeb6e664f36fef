use Rattle.tstd_rows.proofs.AllMoments.{figures_law}
use Rattle.tstd_rows.proofs.view_laws.figures.Goals as goal

pub returns : goal.returns
returns c = figures_law
