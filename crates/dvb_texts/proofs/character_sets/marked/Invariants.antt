use Rattle.std.proofs.Common.{◌≡◌, drop}
use Rattle.dvb_texts.specs.CharacterTables.{marked}
use Rattle.dvb_texts.proofs.character_sets.marked.Given as goal

abbrev pub invariant-loop-pair : goal.invariant-loop-pair
invariant-loop-pair l = marked l.pairs l.mark l.letter ≡ marked (drop l.pair-index l.pairs) l.mark l.letter
