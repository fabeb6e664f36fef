-- What a call of `tsjob` asks for.
use Rattle.std.specs.Prelude.{ℕ, List, Option}
use Rattle.job_programs.specs.JobOptions.{JobOptionsView}
use Rattle.job_run.specs.declared.reporting.Reporting.{Reporting}
use Rattle.job_run.specs.declared.job_arguments.Subcommand.{Subcommand}

-- what to write, the file of a description for units of a running stream, which lines to report, and the options of the job
pub record JobArgumentsView : Type 0 where
  pub subcommand : Subcommand
  pub stream : Option (List ℕ)
  pub reporting : Reporting
  pub options : JobOptionsView
