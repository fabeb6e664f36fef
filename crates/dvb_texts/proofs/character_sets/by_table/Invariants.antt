use Rattle.std.proofs.Common.{◌≡◌, ◌++◌, drop, map}
use Rattle.dvb_texts.specs.CharacterTables.{table_character}
use Rattle.dvb_texts.proofs.character_sets.by_table.Given as goal

abbrev pub invariant-loop-byte : goal.invariant-loop-byte
invariant-loop-byte g l = l.characters.items ++ map (table_character l.table) (drop l.byte-index l.bytes) ≡ map (table_character l.table) l.bytes
