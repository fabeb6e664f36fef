-- What the program writes for words, in memory.
use Rattle.std.specs.Prelude.{◌≡◌, ℕ, ◌==◌, ◌&&◌, ◌||◌, Bool, true, false, nat_le, nat_lt, List, [], length, Some, None, codes}
use Rattle.word_faults.specs.CommandLine.{Text}
use Rattle.word_faults.specs.UsageReport.{AnswersWords}
use Rattle.devices.specs.Devices.{Device}
use Rattle.devices.specs.Files.{Files}
use Rattle.devices.specs.Runs.{Performs}
use Rattle.job_run.specs.JobArguments.{JobArgumentsView}
use Rattle.job_run.specs.Outcomes.{PerformsJob}
use Rattle.tsjob_cli.specs.Arguments.{arguments_in}
use Rattle.tsjob_cli.specs.Explaining.{ExplainLeads, is_explain}
use Rattle.tsjob_cli.specs.FileWords.{file_arguments, file_words}
use Rattle.tsjob_cli.specs.NamedInputs.{ReadsFiles}
use Rattle.tsjob_cli.specs.Options.{known_for, usage_text}
use Rattle.tsjob_cli.specs.StreamedUnits.{StreamsUnits}

-- the effects of the program with these words: each clause of the contract of its `run`
pub record RunsJob (words : List Text) (files : Files) (input job faults : Device) (status : ℕ) : Type 0 where
  pub explain : is_explain words ≡ true → Performs ExplainLeads input job faults status
  pub stream : is_explain words ≡ false → (a : JobArgumentsView) → arguments_in words ≡ Some a → a.stream ≡ None → PerformsJob a input job faults status
  pub units : is_explain words ≡ false → (a : JobArgumentsView) (name : Text) → arguments_in words ≡ Some a → a.stream ≡ Some name →
      StreamsUnits a.options files name input job faults status
  pub files_read : is_explain words ≡ false → (a : JobArgumentsView) → arguments_in words ≡ None → file_arguments words ≡ Some a →
      ReadsFiles a files (file_words words) input job faults status
  pub other : is_explain words ≡ false → arguments_in words ≡ None → file_arguments words ≡ None →
      AnswersWords (codes "tsjob") (known_for words) words usage_text input job faults status

-- the program runs with a writer that held nothing, and now has these bytes
pub record MakesJob (words : List Text) (files : Files) (input faults : Device) (bytes : List ℕ) (status : ℕ) : Type 0 where
  pub job : Device
  pub empty : job.before.bytes ≡ Some []
  pub bytes_are : job.after.bytes ≡ Some bytes
  pub runs : RunsJob words files input job faults status

-- the output is a job: something was written, to the end
abbrev pub is_job : List ℕ → ℕ → Bool
is_job bytes status = nat_le status 1 && nat_lt 0 (length bytes)

-- the output is to be kept: it is a job, or empty with status 0
abbrev pub is_kept : List ℕ → ℕ → Bool
is_kept bytes status = is_job bytes status || status == 0
