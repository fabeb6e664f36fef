-- `mux`: a job and its units to packets.
use Rattle.std.specs.Prelude.{◌≡◌, ℕ, List, [], length, Option, Some, None, Result, Ok, Err, codes, is_some, unwrap_or, ⊤}
use Rattle.pes_packet.specs.Units.{units_of}
use Rattle.slot_plan.specs.Planned.{Planned}
use Rattle.plan_checker.specs.Served.{Served}
use Rattle.mux_core.specs.Headline.{Headline}
use Rattle.mux_core.specs.MeasuredRuns.{MeasuresWell}
use Rattle.mux_core.specs.Histories.{bytes_of}
use Rattle.mux_core.specs.WholeJobs.{job_cause, job_history, or_cause, output_of, periods_cause, slots_cause}
use Rattle.mux_core.specs.Scheduled.{Scheduled}
use Rattle.mux_core.specs.declared.multiplexing.MuxError.{MuxError}
use Rattle.mux_core.specs.declared.multiplexing.MuxError.TheVariants.{TooManySlots, Periods, Feed, Device as AtWriter, Memory}
use Rattle.checked_jobs.specs.FaultLines.{unit_outcome}
use Rattle.checked_jobs.specs.JobSchedules.{schedule_by}
use Rattle.devices.specs.Lines.{line_text}
use Rattle.checked_jobs.specs.MuxJobs.{MuxFaultView, MuxJobView, mux_fault_line, mux_job_of, default_slots}
use Rattle.devices.specs.Outcomes.{Outcome, printed, reported, halted}
use Rattle.checked_jobs.specs.declared.multiplexing.MuxOptions.{MuxOptions}
use Rattle.devices.specs.declared.halt.Halt.TheVariants.{Write, Memory as NoMemory}

-- 1. The run that a job asks for

-- the number of slots: the option's, otherwise the slots up to the greatest DTS of all records
abbrev pub slots_of : MuxOptions → MuxJobView → ℕ
slots_of o j = unwrap_or o.slots (default_slots j.description.rate j.units)

-- the number of periods of the first plan, if there are two plans
abbrev pub periods_of : MuxOptions → ℕ
periods_of o = unwrap_or o.periods 0

abbrev pub first_of : MuxJobView → Served
first_of j = record { description = j.description; plan = j.plan }

abbrev pub schedule_of : MuxOptions → MuxJobView → Scheduled
schedule_of o j = schedule_by (first_of j) j.second (periods_of o)

-- a number out of range: too many slots; with two plans, too many periods, or none
abbrev pub range_cause_of : Served → Option Planned → ℕ → ℕ → Option MuxError
range_cause_of first None periods slots = slots_cause slots
range_cause_of first (Some second) periods slots = or_cause (slots_cause slots) (periods_cause (length first.plan.slots) periods)

abbrev pub range_cause : MuxOptions → MuxJobView → Option MuxError
range_cause o j = range_cause_of (first_of j) j.second (periods_of o) (slots_of o j)

-- why nothing is written: a number out of range, otherwise the first unit that is refused
abbrev pub cause_of : MuxOptions → MuxJobView → Option MuxError
cause_of o j = job_cause (range_cause o j) (schedule_of o j) j.units

-- the packets of its slots, as bytes or as lines of digits
abbrev pub packets_of : MuxOptions → MuxJobView → List ℕ
packets_of o j = output_of o.hex (schedule_of o j) (job_history j.units (slots_of o j))

-- the bytes of its packets
abbrev pub run_bytes_of : MuxOptions → MuxJobView → List ℕ
run_bytes_of o j = bytes_of (schedule_of o j) (job_history j.units (slots_of o j))

-- the promises for these packets: every promise of the multiplexer's slot call, and that measuring them with these units is not refused and finds no
-- late unit and no buffer over its size
pub record IsKept (o : MuxOptions) (j : MuxJobView) : Type 0 where
  pub headline : Headline (schedule_of o j) (λ k. units_of k j.units) (slots_of o j) (run_bytes_of o j)
  pub measured : MeasuresWell (schedule_of o j) j.units (run_bytes_of o j)

-- 2. The outcome

-- the line and the status of an error
unfoldable pub error_outcome : MuxError → Outcome
error_outcome TooManySlots = reported (line_text (codes "slots") [])
error_outcome Periods = reported (line_text (codes "periods") [])
error_outcome (Feed index cause) = unit_outcome index cause
error_outcome (AtWriter sent) = halted Write
error_outcome Memory = halted NoMemory

unfoldable pub unless_refused : Option MuxError → List ℕ → Outcome
unless_refused None packets = printed packets 0
unless_refused (Some cause) packets = reported (error_outcome cause).report

unfoldable pub with_job : MuxOptions → Result MuxJobView MuxFaultView → Outcome
with_job o (Ok j) = unless_refused (cause_of o j) (packets_of o j)
with_job o (Err fault) = reported (mux_fault_line fault)

-- the outcome for the bytes of an input
abbrev pub multiplexed : MuxOptions → List ℕ → Outcome
multiplexed o bytes = with_job o (mux_job_of (is_some o.periods) bytes)

abbrev pub KeptUnlessRefused : Option MuxError → Type 0 → Type 0
KeptUnlessRefused None kept = kept
KeptUnlessRefused (Some cause) kept = ⊤

abbrev pub KeepsPromises : MuxOptions → Result MuxJobView MuxFaultView → Type 0
KeepsPromises o (Ok j) = KeptUnlessRefused (cause_of o j) (IsKept o j)
KeepsPromises o (Err fault) = ⊤

-- the outcome is the outcome of `multiplexed`, and its packets keep every promise
pub record Muxes (o : MuxOptions) (bytes : List ℕ) (outcome : Outcome) : Type 0 where
  pub is : outcome ≡ multiplexed o bytes
  pub kept : KeepsPromises o (mux_job_of (is_some o.periods) bytes)
