use Rattle.std.proofs.Common.{◌∙◌, refl, sym}
use Rattle.word_faults.proofs.UsageReports.{of_memory, of_words}
use Rattle.tsjob_cli.proofs.FileWords.{files_asked, some_and_none}
use Rattle.tsjob_cli.proofs.program.run_on_files.Goals as goal

pub returns-in-Ok-None-clause-other : goal.returns-in-Ok-None-clause-other
returns-in-Ok-None-clause-other g c = λ none. of_words _ _ _ _ _ _ _ _ _ _ c.known_for-known.ensures c.usage.ensures (c.answer_words.ensures _ refl)

pub returns-in-Ok-None-clause-files : goal.returns-in-Ok-None-clause-files
returns-in-Ok-None-clause-files g c = λ a is. absurd (some_and_none _ a is (sym c.in-Ok-None.ensures ∙ c.in-Ok-None.field-0-is))

pub returns-in-Ok-Some-clause-other : goal.returns-in-Ok-Some-clause-other
returns-in-Ok-Some-clause-other g c = λ none. absurd (some_and_none _ c.in-Ok-Some.arguments (sym c.in-Ok-Some.ensures ∙ c.in-Ok-Some.field-0-is) none)

pub returns-in-Ok-Some-clause-files : goal.returns-in-Ok-Some-clause-files
returns-in-Ok-Some-clause-files g c = λ a is.
    files_asked _ c.in-Ok-Some.arguments a _ _ _ _ _ _ _ (sym c.in-Ok-Some.field-0-is ∙ c.in-Ok-Some.ensures) is c.file_words.ensures refl
    c.perform_files.ensures

pub returns-in-Err-clause-other : goal.returns-in-Err-clause-other
returns-in-Err-clause-other g c = λ none.
    of_memory _ _ _ _ _ _ _ _ (record { clean = refl; unwritten = refl; reports = c.report_halt.ensures.reports; status_is = c.report_halt.ensures.status })
