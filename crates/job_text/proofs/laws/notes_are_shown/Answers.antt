use Rattle.job_text.proofs.NoteLines.{notes_are_shown}
use Rattle.job_text.proofs.laws.notes_are_shown.Goals as goal

pub returns : goal.returns
returns c = notes_are_shown
