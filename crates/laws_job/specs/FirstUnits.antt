-- The first units of a job: none is due earlier than 2 s after the run's begin, so that PAT and PMT come before each packet of a stream.
use Rattle.std.specs.Prelude.{◌≡◌, ◌<◌, ℕ, ◌+◌, ◌*◌, ◌%◌, ◌^◌, false, List, [], ◌∷◌, take, slice_get, Some, Ok, All}
use Rattle.pes_packet.specs.AccessUnits.{AccessUnit}
use Rattle.pes_packet.specs.Units.{units_of}
use Rattle.ts_packet.specs.PidList.{Entry, pid_list}
use Rattle.description_parts.specs.Described.{Described, DescribedStream}
use Rattle.description_parts.specs.Ranges.{IsInRange}
use Rattle.slot_plan.specs.Planned.{Planned}
use Rattle.slot_plan.specs.Conditions.{IsServing}
use Rattle.pid_findings.specs.Views.{FindingView}
use Rattle.mux_core.specs.WholeJobs.{job_history, output_of}
use Rattle.laws_run.specs.FollowedTables.{IsFollowed}
use Rattle.laws_run.specs.TablesFirst.{DueLate}
use Rattle.job_inputs.specs.JobInput.{JobInputView, job_input}
use Rattle.job_programs.specs.JobOptions.{JobOptionsView}
use Rattle.job_programs.specs.JobPrograms.{JobProgramView, clock_in}
use Rattle.stream_jobs.specs.Jobs.{AreUnits, IsJob}
use Rattle.job_programs.specs.JobStreams.{WireStreamView}
use Rattle.job_units.specs.Moments.{earliest, first_dts, firsts, stamps_of, moved_streams}
use Rattle.laws_job.specs.Laws.{schedule_for}
use Rattle.es_moments.specs.Stamps.{after_half}

-- ---- when the first units are due

-- the first DTS of the first of some streams
unfoldable pub head_stamp : List ℕ → ℕ
head_stamp [] = 0
head_stamp (stamp ∷ stamps) = stamp

-- the first DTS of the streams on the clock of a stream's program
abbrev pub stamps_beside : List JobProgramView → List WireStreamView → WireStreamView → List ℕ
stamps_beside programs streams s = stamps_of (clock_in programs s.program) (firsts programs streams)

-- the first DTS of a stream on the wire lies within half the range of 33 bits before and after the first DTS of the first stream on its clock,
-- but not in the last 2.5 s of that range: otherwise it is not known which of the two comes first
abbrev pub BeginsNear : List JobProgramView → List WireStreamView → WireStreamView → Type 0
BeginsNear programs streams s = after_half (head_stamp (stamps_beside programs streams s) % 2 ^ 33) (first_dts s.units) + 225000 < 2 ^ 33

-- ---- what comes before them

-- the bytes before a packet of a stream whose units are due late name each program and its streams to a decoder that follows PAT and PMT
abbrev pub TablesFirstLaw : Type 0
TablesFirstLaw = (d : Described) (p : Planned) (findings : List FindingView) (units : List (ℕ × AccessUnit)) (n k j : ℕ) (s : DescribedStream) (e : Entry) →
    IsInRange d → IsServing d p → AreUnits false findings d units → slice_get d.streams k ≡ Some s → DueLate (units_of k units) →
    slice_get (pid_list s.pid (output_of false (schedule_for d p) (job_history units n))) j ≡ Some e →
    IsFollowed d (take (188 * e.index) (output_of false (schedule_for d p) (job_history units n)))

-- ---- both of a job

-- this holds for each job from this input, before each packet of each stream
abbrev pub TablesComeFirst : JobOptionsView → List FindingView → JobInputView → Type 0
TablesComeFirst options findings input =
    (d : Described) (p : Planned) (text : List ℕ) (units : List (ℕ × AccessUnit)) (n k j : ℕ) (s : DescribedStream) (e : Entry) →
    IsJob options input d text units → AreUnits false findings d units → IsInRange d → IsServing d p → slice_get d.streams k ≡ Some s →
    slice_get (pid_list s.pid (output_of false (schedule_for d p) (job_history units n))) j ≡ Some e →
    IsFollowed d (take (188 * e.index) (output_of false (schedule_for d p) (job_history units n)))

-- the streams on the wire from which a job is made, and the job's streams; if these begin near one another, their units are due late, and the
-- tables come before them
pub record MadeOf (options : JobOptionsView) (findings : List FindingView) (input : JobInputView) : Type 0 where
  pub streams : List WireStreamView
  pub moved : moved_streams findings (earliest input.programs input.tables streams) input.programs streams ≡ Ok input.streams
  pub late : All (BeginsNear input.programs streams) streams → All (λ t. DueLate t.units) input.streams
  pub tables_first : All (BeginsNear input.programs streams) streams → TablesComeFirst options findings input

abbrev pub FirstUnitsLaw : Type 0
FirstUnitsLaw = (options : JobOptionsView) (count : ℕ) (findings : List FindingView) (input : JobInputView) → job_input options count findings ≡ Ok input →
    MadeOf options findings input
