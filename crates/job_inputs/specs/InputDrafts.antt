-- What a job is made of before the bytes of its units are taken.
use Rattle.std.specs.Prelude.{ℕ, List, map, Result}
use Rattle.pid_findings.specs.Views.{FindingView}
use Rattle.job_programs.specs.declared.refusal.JobRefusal.{JobRefusal}
use Rattle.job_programs.specs.declared.warning.Warning.{Warning}
use Rattle.job_programs.specs.Information.{JobInformationView}
use Rattle.job_inputs.specs.JobInput.{JobInputView, with_moved}
use Rattle.job_programs.specs.JobOptions.{JobOptionsView}
use Rattle.job_programs.specs.JobPrograms.{JobProgramView}
use Rattle.job_programs.specs.JobTables.{JobTableView}
use Rattle.job_units.specs.Moments.{StreamMomentsView, timed_stream}

-- a draft of an input: of its streams' units only the moments are kept
pub record InputDraftView : Type 0 where
  pub information : JobInformationView
  pub base0 : ℕ
  pub programs : List JobProgramView
  pub streams : List StreamMomentsView
  pub tables : List JobTableView
  pub warnings : List Warning

-- the steps that are left
unfoldable pub finished : JobOptionsView → List FindingView → InputDraftView → Result JobInputView JobRefusal
finished options findings d = with_moved options d.information d.base0 d.programs d.tables d.warnings (map (timed_stream findings) d.streams)
