use Rattle.psi_tables.specs.Laws.{CheckWordEnds}
use Rattle.psi_tables.specs.Encoding.{check_word_bytes}
use Rattle.psi_tables.proofs.Linear.{check_word-own}
use Rattle.psi_tables.proofs.laws.check_word_ends.Goals as goal

ends : CheckWordEnds
unfolding check_word_bytes
ends message = check_word-own message

pub returns : goal.returns
returns c = ends
