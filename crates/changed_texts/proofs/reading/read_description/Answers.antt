use Rattle.std.proofs.Common.{◌∙◌, inl, inr}
use Rattle.changed_texts.proofs.TextBytes.{described_text, no_text}
use Rattle.changed_texts.proofs.reading.read_description.Goals as goal

pub returns-in-Ok : goal.returns-in-Ok
returns-in-Ok c = elim c.read.ensures [
  | inl memory ↦ inl memory
  | inr is ↦ inr (is ∙ described_text c.args.bytes.now c.in-Ok.text.now c.in-Ok.ensures.cases.0 c.in-Ok.ensures.cases.1)
]

pub returns-in-Err : goal.returns-in-Err
returns-in-Err c = inr (no_text c.args.bytes.now c.in-Err.ensures.cases.0)
