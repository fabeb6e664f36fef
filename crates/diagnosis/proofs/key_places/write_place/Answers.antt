use Rattle.std.proofs.Common.{append_assoc}
use Rattle.diagnosis.specs.KeyPlaces.{place_words}
use Rattle.diagnosis.proofs.key_places.write_place.Goals as goal

pub returns : goal.returns
unfolding place_words
returns c = simp append_assoc c.write.ensures.bytes
