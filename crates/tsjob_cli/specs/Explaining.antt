-- The word `explain`: the fault of a description, or of a plan after it.
use Rattle.std.specs.Prelude.{◌≡◌, ◌⊎◌, ℕ, ◌==◌, Bool, false, List, [], ◌∷◌, length, if◌then◌else◌, codes}
use Rattle.std.specs.Str.{bytes_eq}
use Rattle.clap.specs.Words.{Text}
use Rattle.devices.specs.Devices.{Device, IsUntouched}
use Rattle.devices.specs.Files.{Files}
use Rattle.devices.specs.Lines.{Reports}
use Rattle.devices.specs.Outcomes.{Outcome, halt_line, printed}
use Rattle.devices.specs.declared.halt.Halt.TheVariants.{Memory}
use Rattle.job_run.specs.Outcomes.{IsWritten}
use Rattle.tsjob_cli.specs.ReadFiles.{HaveBytes, StopsAtOne}
use Rattle.explained_jobs.specs.JobWords.{IsJobExplained}

-- the word alone
unfoldable pub is_explain : List Text → Bool
is_explain (word ∷ []) = bytes_eq word (codes "explain")
is_explain _ = false

-- the status 1 if there is a line
abbrev pub status_of : List ℕ → ℕ
status_of lines = if length lines == 0 then 0 else 1

pub record ExplainLeads (bytes : List ℕ) (o : Outcome) : Type 0 where
  pub lines : List ℕ
  pub explained : IsJobExplained bytes lines
  pub is : o ≡ printed lines (status_of lines)

-- files were read, and the outcome for their bytes is written
pub record ExplainsBytes (files : Files) (names : List Text) (output faults : Device) (status : ℕ) : Type 0 where
  pub bytes : List ℕ
  pub have : HaveBytes files names bytes
  pub outcome : Outcome
  pub leads : ExplainLeads bytes outcome
  pub written : IsWritten outcome output faults status

-- or a file can't be read, or memory runs out: nothing is written
pub record ExplainsNothing (files : Files) (names : List Text) (output faults : Device) (status : ℕ) : Type 0 where
  pub unwritten : IsUntouched output
  pub why : StopsAtOne files names faults status ⊎ Reports faults (halt_line Memory)
  pub status_is : status ≡ 3

abbrev pub ExplainsFiles : Files → List Text → Device → Device → ℕ → Type 0
ExplainsFiles files names output faults status = ExplainsBytes files names output faults status ⊎ ExplainsNothing files names output faults status
