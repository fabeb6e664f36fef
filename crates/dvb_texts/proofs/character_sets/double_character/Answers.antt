use Rattle.std.proofs.Common.{◌∙◌, refl}
use Rattle.dvb_texts.specs.CharacterTables.{double_character}
use Rattle.dvb_texts.proofs.character_sets.double_character.Goals as goal

pub returns-else-wide : goal.returns-else-wide
unfolding double_character
returns-else-wide c = rw c.if-wide.false c.marked.ensures
