use Rattle.std.proofs.Common.{◌≡◌, drop}
use Rattle.psi_tables.specs.CheckWord.{after_bytes, check_word}
use Rattle.psi_tables.proofs.crc.check_word.Given as goal

abbrev pub invariant-loop-byte : goal.invariant-loop-byte
invariant-loop-byte l = after_bytes l.register (drop l.byte-index l.bytes) ≡ check_word l.bytes
