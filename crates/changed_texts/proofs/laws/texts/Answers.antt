use Rattle.changed_texts.proofs.TextLaws.{text_law}
use Rattle.changed_texts.proofs.laws.texts.Goals as goal

pub returns : goal.returns
returns c = text_law
