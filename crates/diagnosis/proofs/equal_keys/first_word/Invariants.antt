use Rattle.std.proofs.Common.{◌≡◌}
use Rattle.diagnosis.specs.EqualKeys.{first_word}
use Rattle.diagnosis.proofs.EqualRows.{word_from}
use Rattle.diagnosis.proofs.equal_keys.first_word.Given as goal

abbrev pub invariant-loop-i : goal.invariant-loop-i
invariant-loop-i l = first_word l.bytes ≡ word_from l.bytes l.i
