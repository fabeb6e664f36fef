use Rattle.std.proofs.Common.{append_assoc}
use Rattle.diagnosis.specs.TomlNotes.{message_words}
use Rattle.diagnosis.proofs.toml_note.write_message.Goals as goal

pub returns : goal.returns
unfolding message_words
returns c = simp append_assoc c.write.ensures.bytes
