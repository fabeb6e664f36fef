-- Transport streams in files whose names are words of the command line.
use Rattle.std.specs.Prelude.{ℕ, List}
use Rattle.clap.specs.Words.{Text}
use Rattle.devices.specs.Devices.{Device, IsUntouched}
use Rattle.devices.specs.Files.{Files}
use Rattle.job_run.specs.JobArguments.{JobArgumentsView}
use Rattle.job_run.specs.StreamFiles.{PerformsFiles}

-- the input is not read
pub record ReadsFiles (a : JobArgumentsView) (files : Files) (names : List Text) (input output faults : Device) (status : ℕ) : Type 0 where
  pub unread : IsUntouched input
  pub performs : PerformsFiles a files names output faults status
