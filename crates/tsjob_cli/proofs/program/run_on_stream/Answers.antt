use Rattle.std.proofs.Common.{◌∙◌, refl, sym}
use Rattle.word_faults.proofs.UsageReports.{of_memory}
use Rattle.tsjob_cli.proofs.StreamedUnits.{job_asked, stream_asked}
use Rattle.tsjob_cli.proofs.program.run_on_stream.Goals as goal

pub returns-in-Ok-None-clause-files : goal.returns-in-Ok-None-clause-files
returns-in-Ok-None-clause-files g c = λ a none asked. c.run_on_files.ensures.files a asked

pub returns-in-Ok-None-clause-other : goal.returns-in-Ok-None-clause-other
returns-in-Ok-None-clause-other g c = λ none no_files. c.run_on_files.ensures.other no_files

pub returns-in-Ok-Some-clause-job : goal.returns-in-Ok-Some-clause-job
returns-in-Ok-Some-clause-job g c =
    λ a is none. job_asked _ c.in-Ok-Some.arguments a _ _ _ _ (sym c.in-Ok-Some.field-0-is ∙ c.in-Ok-Some.ensures) is c.answer.ensures.job none

pub returns-in-Ok-Some-clause-stream : goal.returns-in-Ok-Some-clause-stream
returns-in-Ok-Some-clause-stream g c =
    λ a name is named. stream_asked _ c.in-Ok-Some.arguments a _ name _ _ _ _ (sym c.in-Ok-Some.field-0-is ∙ c.in-Ok-Some.ensures) is
    (c.answer.ensures.stream name) named

pub returns-in-Err-clause-other : goal.returns-in-Err-clause-other
returns-in-Err-clause-other g c = λ none no_files.
    of_memory _ _ _ _ _ _ _ _ (record { clean = refl; unwritten = refl; reports = c.report_halt.ensures.reports; status_is = c.report_halt.ensures.status })
