-- One job, multiplexed whole by `tsmux mux`, and on air by `tsair`.
use Rattle.std.specs.Prelude.{◌≡◌, ℕ, false, List, Some, None, Ok, is_some}
use Rattle.devices.specs.Devices.{Device, Takes, between}
use Rattle.on_air.specs.Airing.{Run, HasRoom}
use Rattle.on_air.specs.Laws.{ComeInOrder, without_ticks}
use Rattle.checked_jobs.specs.declared.multiplexing.MuxOptions.{MuxOptions}
use Rattle.checked_jobs.specs.MuxJobs.{MuxJobView, mux_job_of}
use Rattle.checked_jobs.specs.Multiplexing.{cause_of, packets_of}
use Rattle.tsair_cli.specs.declared.arguments.AirOptions.{AirOptions}
use Rattle.tsair_cli.specs.AirRuns.{AirsJob, EndsRun, GoesOnAir, run_of}
use Rattle.tsair_cli.specs.States.{Saving}

-- both command lines ask for the same output of a whole job: lines of digits or bytes, all slots, the periods of a first plan
pub record AskTheSame (m : MuxOptions) (o : AirOptions) : Type 0 where
  pub hex : o.hex ≡ m.hex
  pub slots : m.slots ≡ None
  pub all_slots : o.terms.slots ≡ None
  pub periods : o.periods ≡ m.periods

-- these bytes are a job that `mux` takes: it refuses no number of the command line and no unit
pub record TakesJob (m : MuxOptions) (bytes : List ℕ) (j : MuxJobView) : Type 0 where
  pub job : mux_job_of (is_some m.periods) bytes ≡ Ok j
  pub taken : cause_of m j ≡ None

-- a run that ends with status 0 wrote the bytes that `mux` writes
abbrev pub AirsWhatMuxWrites : Type 0
AirsWhatMuxWrites = (m : MuxOptions) (saving : Saving) (o : AirOptions) (bytes : List ℕ) (j : MuxJobView) (input output faults : Device) → AskTheSame m o → TakesJob m bytes j →
    input.before.bytes ≡ Some bytes → AirsJob saving o input output faults 0 → Takes output (packets_of m j)

-- a job without the ticks among its records
abbrev pub units_alone : MuxJobView → MuxJobView
units_alone j = record j { units = without_ticks j.units }

-- these bytes are a job, with ticks among its records or none; `mux` takes it without them
pub record TakesUnits (m : MuxOptions) (bytes : List ℕ) (j : MuxJobView) : Type 0 where
  pub job : mux_job_of (is_some m.periods) bytes ≡ Ok j
  pub taken : cause_of m (units_alone j) ≡ None

-- the records of a job come in order: each unit is due no earlier than the run waits before each unit and each tick before it, and no record is further
-- ahead than it allows. There is room for all units that wait
pub record AreInOrder (run : Run) (j : MuxJobView) : Type 0 where
  pub in_order : ComeInOrder run j.units
  pub room : HasRoom run j.description.streams

-- a run over such a job that came to its end refused no record, neither a unit nor a tick
abbrev pub RefusesNone : Type 0
RefusesNone = (m : MuxOptions) (saving : Saving) (o : AirOptions) (bytes : List ℕ) (j : MuxJobView) (input output faults : Device) (status : ℕ) → AskTheSame m o →
    TakesUnits m bytes j →
    input.before.bytes ≡ Some bytes → (air : GoesOnAir saving o input output faults status) → AreInOrder (run_of o air.job) j →
    (ends : EndsRun saving o (run_of o air.job) (between air.left input.after) output faults status) → ends.end.has_refused ≡ false
