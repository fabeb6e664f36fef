use Rattle.es_moments.proofs.RisingDts.{sound_keep}
use Rattle.es_units.proofs.laws.sound_dts_are_kept.Goals as goal

pub returns : goal.returns
returns c = sound_keep
