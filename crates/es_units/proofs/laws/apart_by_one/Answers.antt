use Rattle.es_moments.proofs.ApartUnits.{apart_keep, apart_stay, sound_stay, row_rises}
use Rattle.es_units.proofs.laws.apart_by_one.Goals as goal

pub returns-clause-keep : goal.returns-clause-keep
returns-clause-keep c = apart_keep

pub returns-clause-stay : goal.returns-clause-stay
returns-clause-stay c = apart_stay

pub returns-clause-sound : goal.returns-clause-sound
returns-clause-sound c = sound_stay

pub returns-clause-apart : goal.returns-clause-apart
returns-clause-apart c = row_rises
