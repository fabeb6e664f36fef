-- Streams to a job, and the job to its packets: `tsjob`, and then `tsmux mux`.
use Rattle.std.specs.Prelude.{◌≡◌, ◌⊎◌, ℕ, true, false, List, Ok, Err}
use Rattle.word_faults.specs.CommandLine.{Text}
use Rattle.devices.specs.Devices.{Device, IsUntouched, Port, between}
use Rattle.devices.specs.Files.{Files}
use Rattle.tsjob_cli.specs.MadeJobs.{MakesJob, is_job}
use Rattle.tsremux_cli.specs.Muxing.{MuxesBytes}
use Rattle.tsremux_cli.specs.declared.figures.Figures.{Figures}
use Rattle.tsremux_cli.specs.declared.figures.Remuxed.{Remuxed}
use Rattle.tsremux_cli.specs.declared.figures.Remuxed.TheVariants.{Whole, Ended}

-- 1. Its packets, if it is a job

-- there is none: nothing is written, and nothing more is reported
pub record StopsThere (bytes : List ℕ) (job_status : ℕ) (packets faults : Device) (status : ℕ) : Type 0 where
  pub none : is_job bytes job_status ≡ false
  pub unwritten : IsUntouched packets
  pub silent : IsUntouched faults
  pub status_is : status ≡ job_status

-- there is one, and `tsmux mux` does not write all its packets
pub record FailsThen (bytes : List ℕ) (job_status : ℕ) (packets faults : Device) (status : ℕ) : Type 0 where
  pub is : is_job bytes job_status ≡ true
  pub muxed : MuxesBytes bytes packets faults (Err status)

-- all packets are written
pub record WritesAll (bytes : List ℕ) (job_status : ℕ) (packets faults : Device) (figures : Figures) (status : ℕ) : Type 0 where
  pub is : is_job bytes job_status ≡ true
  pub muxed : MuxesBytes bytes packets faults (Ok figures)
  pub status_is : status ≡ job_status

abbrev pub GoesOn : List ℕ → ℕ → Device → Device → Remuxed → Type 0
GoesOn bytes job_status packets faults (Whole figures status) = WritesAll bytes job_status packets faults figures status
GoesOn bytes job_status packets faults (Ended status) = StopsThere bytes job_status packets faults status ⊎ FailsThen bytes job_status packets faults status

-- 2. Both

pub record Remuxes (words : List Text) (files : Files) (input packets faults : Device) (result : Remuxed) : Type 0 where
  pub bytes : List ℕ
  pub job_status : ℕ
  -- the second writer between both
  pub so_far : Port
  pub makes : MakesJob words files input (between faults.before so_far) bytes job_status
  pub goes_on : GoesOn bytes job_status packets (between so_far faults.after) result
