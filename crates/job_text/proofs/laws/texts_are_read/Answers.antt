use Rattle.job_text.proofs.DocumentTexts.{texts_are_read}
use Rattle.job_text.proofs.laws.texts_are_read.Goals as goal

pub returns : goal.returns
returns c = texts_are_read
