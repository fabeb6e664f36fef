-- A job with its units: the input of `mux`.
use Rattle.std.specs.Prelude.{◌≡◌, ◌+◌, ◌*◌, ◌/◌, ◌^◌, ℕ, min, max, Bool, List, [], Option, Result, Ok, Err}
use Rattle.std.specs.List.{fold}
use Rattle.pes_packet.specs.AccessUnits.{AccessUnit}
use Rattle.description_parts.specs.Described.{Described}
use Rattle.slot_plan.specs.Planned.{Planned}
use Rattle.unit_records.specs.declared.reading.UnitFileError.{UnitFileError}
use Rattle.devices.specs.Devices.{Device}
use Rattle.devices.specs.WholeInput.{IsReadAs, ReadsInput}
use Rattle.checked_jobs.specs.FaultLines.{record_outcome}
use Rattle.checked_jobs.specs.JobFaults.{fault_line, fault_view, plans_view}
use Rattle.checked_jobs.specs.Jobs.{JobFaultView, JobView, job_of}
use Rattle.checked_jobs.specs.UnitList.{Units, units_in}
use Rattle.checked_jobs.specs.declared.mux_jobs.MuxFault.{MuxFault}
use Rattle.checked_jobs.specs.declared.mux_jobs.MuxFault.TheVariants.{Job, Record}
use Rattle.checked_jobs.specs.declared.mux_jobs.MuxJob.{MuxJob}
use Rattle.checked_jobs.specs.declared.mux_jobs.MuxJobError.{MuxJobError}
use Rattle.checked_jobs.specs.declared.mux_jobs.MuxJobError.TheVariants.{Fault, Stopped}

-- 1. What the bytes are

-- a description, a plan that serves it, on request a second plan that may follow the first, and the units of all records
-- after these, with the numbers of their streams
pub record MuxJobView : Type 0 where
  pub description : Described
  pub plan : Planned
  pub second : Option Planned
  pub units : List (ℕ × AccessUnit)

-- the first fault in it
pub data MuxFaultView : Type 0 where
  InJob : JobFaultView → MuxFaultView
  InRecord : ℕ → UnitFileError → MuxFaultView

abbrev pub served : JobView → List (ℕ × AccessUnit) → MuxJobView
served j units = record { description = j.description; plan = j.plan; second = j.second; units = units }

unfoldable pub with_units : JobView → Units → Result MuxJobView MuxFaultView
with_units j (Ok units) = Ok (served j units)
with_units j (Err at) = Err (InRecord at.0 at.1)

unfoldable pub with_records : Result JobView JobFaultView → Result MuxJobView MuxFaultView
with_records (Ok j) = with_units j (units_in j.rest)
with_records (Err fault) = Err (InJob fault)

-- the job with its units in these bytes, or the first fault in it: the plans come before the records
abbrev pub mux_job_of : Bool → List ℕ → Result MuxJobView MuxFaultView
mux_job_of switch bytes = with_records (job_of switch bytes)

-- 2. The number of its slots

-- the greatest DTS, 0 without units
abbrev pub greatest_dts : List (ℕ × AccessUnit) → ℕ
greatest_dts units = fold (λ greatest entry. max greatest entry.1.dts) 0 units

-- the slots up to the greatest DTS: at rate R a slot is 135,360,000 / R units of 90 kHz; 2^40 at most
abbrev pub default_slots : ℕ → List (ℕ × AccessUnit) → ℕ
default_slots rate units = min ((greatest_dts units * rate + 135_359_999) / 135_360_000) (2 ^ 40)

-- 3. The values in memory

abbrev pub mux_fault_view : MuxFault → MuxFaultView
mux_fault_view (Job f) = InJob (fault_view f)
mux_fault_view (Record index fault) = InRecord index fault

abbrev pub mux_job_view : MuxJob → MuxJobView
mux_job_view j = served (plans_view j.plans []) j.units.items

-- a job with its units is returned, or its fault
abbrev pub IsMuxJob : Result MuxJobView MuxFaultView → Result MuxJob MuxFault → Type 0
IsMuxJob wanted (Ok j) = Ok (mux_job_view j) ≡ wanted
IsMuxJob wanted (Err f) = Err (mux_fault_view f) ≡ wanted

-- the job in the input with its units, or its fault; or why the input was not read to its end
abbrev pub ReadsMuxJob : Bool → Device → Result MuxJob MuxJobError → Type 0
ReadsMuxJob switch input (Ok j) = IsReadAs input (λ bytes. IsMuxJob (mux_job_of switch bytes) (Ok j))
ReadsMuxJob switch input (Err (Fault f)) = IsReadAs input (λ bytes. IsMuxJob (mux_job_of switch bytes) (Err f))
ReadsMuxJob switch input (Err (Stopped halt)) = ReadsInput input (Err halt)

-- 4. The line of a fault

abbrev pub mux_fault_line : MuxFaultView → List ℕ
mux_fault_line (InJob fault) = fault_line fault
mux_fault_line (InRecord index fault) = (record_outcome index fault).report
