-- The work of the program: a front of its input, a run over its plans, and the records after it.
use Rattle.std.specs.Prelude.{◌≡◌, ◌≤◌, ◌⊎◌, ℕ, Bool, true, if◌then◌else◌, List, [], length, map, Option, Some, None, Result, Ok, Err, codes}
use Rattle.std.specs.Prelude.{is_some, unwrap_or}
use Rattle.std.specs.Io.KnownBytes.{Appends, Consumes}
use Rattle.slot_plan.specs.Planned.{Planned}
use Rattle.plan_checker.specs.Served.{Served}
use Rattle.mux_core.specs.NewMux.{is_periods}
use Rattle.mux_core.specs.declared.done.NewError.{NewError}
use Rattle.mux_core.specs.declared.done.NewError.TheVariants.{Capacity, Periods, Memory as NoRoom}
use Rattle.devices.specs.Devices.{Device, Port, HasFailed, IsClean, IsUntouched, between}
use Rattle.devices.specs.Lines.{Reports, line_text}
use Rattle.devices.specs.Outcomes.{Outcome, halt_line, halted, reported}
use Rattle.devices.specs.Runs.{LacksMemory}
use Rattle.devices.specs.declared.halt.Halt.TheVariants.{Read, Write, Memory}
use Rattle.checked_jobs.specs.Jobs.{JobView, job_of}
use Rattle.checked_jobs.specs.JobSchedules.{schedule_by}
use Rattle.on_air.specs.declared.answers.Ending.{Ending}
use Rattle.on_air.specs.Airing.{Run, ended}
use Rattle.on_air.specs.AirStates.{KeepsHeadline, LineUpsFit, Promises, run_with}
use Rattle.on_air.specs.Courses.{Course, course_ended, output_at}
use Rattle.on_air.specs.Hearing.{FailsIn, HeardOn}
use Rattle.tsair_cli.specs.declared.arguments.AirOptions.{AirOptions}
use Rattle.tsair_cli.specs.declared.front.FrontError.{FrontError}
use Rattle.tsair_cli.specs.declared.hearing.RecordsEnd.{RecordsEnd}
use Rattle.tsair_cli.specs.Fronts.{ReadsFront, front_outcome}
use Rattle.tsair_cli.specs.HeardRecords.{Airs, EndsBy, NamesReader, StopsAtFirst, all_lines, changes_of, changed_among, has_refused, lines_among, lost_among}
use Rattle.tsair_cli.specs.States.{Saving}
use Rattle.tsair_cli.specs.Endings.{end_outcome}

-- 1. The run that a job asks for

-- the number of periods of the first plan, if there are two plans
abbrev pub periods_of : AirOptions → ℕ
periods_of o = unwrap_or o.periods 0

abbrev pub first_of : JobView → Served
first_of j = record { description = j.description; plan = j.plan }

abbrev pub run_of : AirOptions → JobView → Run
run_of o j = run_with (schedule_by (first_of j) j.second (periods_of o)) o.terms o.hex

-- why none is begun but out of memory: with two plans, too many periods, or none
abbrev pub cause_by : ℕ → ℕ → Option Planned → Option NewError
cause_by period periods None = None
cause_by period periods (Some second) = if is_periods period periods then None else Some Periods

abbrev pub begin_cause : AirOptions → JobView → Option NewError
begin_cause o j = cause_by (length j.plan.slots) (periods_of o) j.second

abbrev pub begin_outcome : NewError → Outcome
begin_outcome Capacity = halted Memory
begin_outcome Periods = reported (line_text (codes "periods") [])
begin_outcome NoRoom = halted Memory

-- 2. Its records

-- the run ended: the writer took the output of all its slots, every promise holds for them, and the last report is why it ended; the versions of its texts are in
-- the file that is asked for, or the status is 3
pub record EndsRun (saving : Saving) (o : AirOptions) (run : Run) (input output faults : Device) (status : ℕ) : Type 0 where
  pub rest : Option (List ℕ)
  pub so_far : Port
  pub airs : Airs saving run input.before.bytes rest (between faults.before so_far)
  pub end : RecordsEnd
  pub ends : EndsBy airs.came o.stop rest input.after.bytes end.why
  pub stops : o.stop ≡ true → StopsAtFirst airs.came end.why
  pub lines : lines_among airs.reported ≡ all_lines airs.came.air.refused
  pub changed : changed_among airs.reported ≡ changes_of airs.came
  pub refused : end.has_refused ≡ has_refused airs.came
  pub lost : end.has_lost ≡ lost_among airs.begun_lost airs.reported
  pub reader : NamesReader input end.why
  pub written : Appends output.before.bytes output.after.bytes (output_at (course_ended airs.came))
  pub clean : IsClean output
  pub line_ups : LineUpsFit airs.came.run (ended airs.came.run airs.came.air)
  pub headline : KeepsHeadline airs.came.run (ended airs.came.run airs.came.air)
  pub reports : Reports (between so_far faults.after) (end_outcome o.terms.slots airs.came.air.records end).report
  pub status_is : status ≡ (end_outcome o.terms.slots airs.came.air.records end).status

-- the writer failed: it took exactly the first bytes of the output that the records so far settle, or of all slots of the run, and every promise holds for
-- these slots
pub record FailsToAir (saving : Saving) (o : AirOptions) (run : Run) (input output faults : Device) (status : ℕ) : Type 0 where
  pub rest : Option (List ℕ)
  pub so_far : Port
  pub airs : Airs saving run input.before.bytes rest (between faults.before so_far)
  pub stops : o.stop ≡ true → length airs.came.air.refused ≤ 1
  pub course : Course
  pub course_is : (course ≡ airs.came) ⊎ (course ≡ course_ended airs.came)
  pub sent : ℕ
  pub fails : FailsIn course output.before.bytes output.after.bytes sent
  pub failed : HasFailed output
  pub reports : Reports (between so_far faults.after) (halt_line Write)
  pub status_is : status ≡ 3

abbrev pub AirsRecords : Saving → AirOptions → Run → Device → Device → Device → ℕ → Type 0
AirsRecords saving o run input output faults status =
    EndsRun saving o run input output faults status ⊎ FailsToAir saving o run input output faults status

-- 3. The whole

-- the front of the input was read as a job before its records, and `left` is the reader after it
pub record Begins (o : AirOptions) (before left : Port) (job : JobView) : Type 0 where
  pub front : List ℕ
  pub read : Consumes before.bytes left.bytes front
  pub clean : left.failed ≡ before.failed
  pub job_is : Ok job ≡ job_of (is_some o.periods) front
  pub no_rest : job.rest ≡ []

-- no front was read, and nothing is written
pub record ReadsNoFront (o : AirOptions) (input output faults : Device) (status : ℕ) : Type 0 where
  pub error : FrontError
  pub front : ReadsFront (is_some o.periods) input (Err error)
  pub unwritten : IsUntouched output
  pub reports : Reports faults (front_outcome error).report
  pub status_is : status ≡ (front_outcome error).status

-- no run was begun for the number of periods, and nothing is written
pub record HasBadPeriods (o : AirOptions) (input output faults : Device) (status : ℕ) : Type 0 where
  pub job : JobView
  pub begins : Begins o input.before input.after job
  pub cause : begin_cause o job ≡ Some Periods
  pub unwritten : IsUntouched output
  pub reports : Reports faults (line_text (codes "periods") [])
  pub status_is : status ≡ 1

-- it went on air, over plans that promise what the checker asks of them
pub record GoesOnAir (saving : Saving) (o : AirOptions) (input output faults : Device) (status : ℕ) : Type 0 where
  pub left : Port
  pub job : JobView
  pub begins : Begins o input.before left job
  pub promises : Promises (run_of o job).scheduled
  pub records : AirsRecords saving o (run_of o job) (between left input.after) output faults status

abbrev pub AirsJob : Saving → AirOptions → Device → Device → Device → ℕ → Type 0
AirsJob saving o input output faults status =
    GoesOnAir saving o input output faults status ⊎ (ReadsNoFront o input output faults status
    ⊎ (HasBadPeriods o input output faults status ⊎ LacksMemory input output faults status))
