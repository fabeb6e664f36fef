-- A job to all its packets, as `tsmux mux` writes them.
use Rattle.std.specs.Prelude.{◌≡◌, ℕ, false, List, Some, None, Result, Ok, Err}
use Rattle.devices.specs.Devices.{Device, IsClean, IsUntouched, Takes}
use Rattle.devices.specs.Runs.{Performs}
use Rattle.devices.specs.WholeInput.{ReadsInput}
use Rattle.checked_jobs.specs.MuxJobs.{MuxJobView, mux_job_of}
use Rattle.checked_jobs.specs.Multiplexing.{IsKept, Muxes, packets_of, slots_of}
use Rattle.checked_jobs.specs.declared.multiplexing.MuxOptions.{MuxOptions}
use Rattle.tsremux_cli.specs.UnkeptFrames.{unkept_of}
use Rattle.tsremux_cli.specs.declared.figures.Figures.{Figures}

-- the options of `tsmux mux` without words after it
abbrev pub plain : MuxOptions
plain = record { hex = false; slots = None; periods = None }

-- the rate of a job, the number of its packets, and its streams of sound that leave their main buffers in units with several frames
abbrev pub figures_of : MuxJobView → Figures
figures_of view = record { rate = view.description.rate; packets = slots_of plain view; unkept = unkept_of view }

-- a job was read, and all its packets are written: they keep every promise, measuring them finds no late unit and no buffer over its size, and nothing is
-- reported
pub record MuxesAll (figures : Figures) (job packets faults : Device) : Type 0 where
  pub bytes : List ℕ
  pub read : ReadsInput job (Ok bytes)
  pub view : MuxJobView
  pub view_is : Ok view ≡ mux_job_of false bytes
  pub figures_are : figures ≡ figures_of view
  pub written : Takes packets (packets_of plain view)
  pub clean : IsClean packets
  pub kept : IsKept plain view
  pub silent : IsUntouched faults

-- or `tsmux mux` ends otherwise, with this status
abbrev pub IsMuxed : Device → Device → Device → Result Figures ℕ → Type 0
IsMuxed job packets faults (Ok figures) = MuxesAll figures job packets faults
IsMuxed job packets faults (Err status) = Performs (Muxes plain) job packets faults status

-- the job is these bytes
pub record MuxesBytes (bytes : List ℕ) (packets faults : Device) (result : Result Figures ℕ) : Type 0 where
  pub job : Device
  pub begins : job.before.bytes ≡ Some bytes
  pub muxed : IsMuxed job packets faults result
