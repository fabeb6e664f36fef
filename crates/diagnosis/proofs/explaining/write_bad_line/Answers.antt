use Rattle.std.proofs.Common.{append_assoc}
use Rattle.diagnosis.specs.Explained.{bad_line_words}
use Rattle.diagnosis.proofs.explaining.write_bad_line.Goals as goal

pub returns : goal.returns
unfolding bad_line_words
returns c = simp append_assoc c.write.ensures.bytes
