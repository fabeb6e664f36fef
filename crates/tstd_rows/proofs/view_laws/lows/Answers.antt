use Rattle.tstd_rows.proofs.Lows.{lows_law}
use Rattle.tstd_rows.proofs.view_laws.lows.Goals as goal

pub returns : goal.returns
returns c = lows_law
