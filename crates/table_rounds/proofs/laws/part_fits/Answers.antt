use Rattle.table_rounds.proofs.CarriedBytes.{part_fits}
use Rattle.table_rounds.proofs.laws.part_fits.Goals as goal

pub returns : goal.returns
returns c = part_fits
