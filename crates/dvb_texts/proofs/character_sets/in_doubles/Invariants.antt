use Rattle.std.proofs.Common.{◌≡◌, ◌++◌, length}
use Rattle.dvb_texts.specs.CharacterTables.{in_doubles}
use Rattle.dvb_texts.proofs.character_sets.in_doubles.Given as goal

abbrev pub invariant-loop-first : goal.invariant-loop-first
invariant-loop-first g l = in_doubles l.wide l.bytes ≡ l.characters.items ++ in_doubles l.wide l.left

abbrev pub decreases-loop-first : goal.decreases-loop-first
decreases-loop-first g l = length l.left
