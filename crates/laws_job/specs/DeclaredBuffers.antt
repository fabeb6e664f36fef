-- What a job keeps of the buffers that its description declares, as they are chosen for the streams of its input.
use Rattle.std.specs.Prelude.{◌≡◌, ◌≤◌, ℕ, ◌^◌, false, List, map, zip, slice_get, option_map, Some, All}
use Rattle.pes_packet.specs.AccessUnits.{AccessUnit}
use Rattle.pes_packet.specs.Units.{units_of}
use Rattle.unit_timing.specs.declared.framing.FrameDeclaration.{FrameDeclaration}
use Rattle.unit_timing.specs.declared.framing.LastBytes.TheVariants.{Sums}
use Rattle.unit_timing.specs.declared.multiplexing_buffer.MultiplexingBuffer.{MultiplexingBuffer}
use Rattle.description_keys.specs.StreamKeys.{padded}
use Rattle.description_parts.specs.Described.{Described, DescribedStream}
use Rattle.description_parts.specs.Ranges.{IsInRange}
use Rattle.slot_plan.specs.Planned.{Planned}
use Rattle.slot_plan.specs.Conditions.{IsServing}
use Rattle.pid_findings.specs.Views.{FindingView}
use Rattle.mux_core.specs.Scheduled.{Scheduled}
use Rattle.mux_core.specs.Headline.{VideoKept}
use Rattle.mux_core.specs.FramesKept.{FramesKept}
use Rattle.mux_core.specs.WholeJobs.{job_history, output_of}
use Rattle.job_text.specs.DescriptionParts.{FramingPartView, ProgramPartView, StreamPartView, TablePartView}
use Rattle.job_text.specs.Laws.{FitsHeading, FitsEvent, FitsNetwork, FitsProgram, FitsStream, FitsTable}
use Rattle.job_inputs.specs.JobInput.{JobInputView}
use Rattle.job_programs.specs.JobOptions.{JobOptionsView}
use Rattle.job_programs.specs.JobTables.{table_part}
use Rattle.stream_jobs.specs.Jobs.{AreUnits}
use Rattle.stream_jobs.specs.Rates.{IsText}
use Rattle.stream_jobs.specs.SharedClocks.{sharing}
use Rattle.stream_jobs.specs.Texts.{description_text, heading_of, program_part, stream_part}
use Rattle.laws_job.specs.Laws.{schedule_for}

-- ---- the text of a description

-- its parts
abbrev pub program_parts : JobOptionsView → JobInputView → List ProgramPartView
program_parts options input = map (program_part options.pcr_limit (sharing options.clock input)) (zip input.programs input.information.services)

abbrev pub stream_parts : JobInputView → List StreamPartView
stream_parts input = map stream_part (zip input.streams (zip input.unit_counts input.choices))

abbrev pub table_parts : JobInputView → List TablePartView
table_parts input = map (table_part input.streams) input.tables

-- their numbers are numbers of TOML, which have 63 bits beside their sign
pub record HasTomlNumbers (options : JobOptionsView) (input : JobInputView) (rate : ℕ) : Type 0 where
  pub heading : FitsHeading (heading_of (sharing options.clock input) input rate)
  pub events : All FitsEvent input.information.events
  pub network : FitsNetwork input.information.network
  pub programs : All FitsProgram (program_parts options input)
  pub streams : All FitsStream (stream_parts input)
  pub tables : All FitsTable (table_parts input)

-- ---- what it is read with

-- access units as a description declares them
abbrev pub declared_framing : FramingPartView → FrameDeclaration
declared_framing f = record { frames = f.frames; frame = f.frame; rest = f.rest; left = Sums (padded f.left) }

-- a stream is described with the multiplexing buffer and the access units of this part
pub record HasBuffersOf (part : StreamPartView) (s : DescribedStream) : Type 0 where
  pub multiplexing : s.multiplexing ≡ part.multiplexing
  pub framing : s.framing ≡ option_map declared_framing part.framing

-- each stream of a description is described with the choice made for it
abbrev pub DeclaredLaw : Type 0
DeclaredLaw = (options : JobOptionsView) (input : JobInputView) (rate : ℕ) (d : Described) → HasTomlNumbers options input rate →
    IsText d (description_text options input rate) →
    (k : ℕ) (s : DescribedStream) (part : StreamPartView) → slice_get d.streams k ≡ Some s → slice_get (stream_parts input) k ≡ Some part → HasBuffersOf part s

-- ---- what a job keeps

pub record BuffersKept (schedule : Scheduled) (part : StreamPartView) (s : DescribedStream) (units : List AccessUnit) (n : ℕ) (bytes : List ℕ) : Type 0 where
  -- with a multiplexing buffer neither it nor the elementary stream buffer overflows, and each unit that is due is whole in the second by its DTS
  pub video : (b : MultiplexingBuffer) → part.multiplexing ≡ Some b → VideoKept schedule s b units n bytes
  -- with several access units in a unit the main buffer does not overflow, and each of them is removed at its own decoding time
  pub frames : (f : FramingPartView) → part.framing ≡ Some f → FramesKept schedule s (declared_framing f) units bytes

-- this holds for each stream, with the choice made for it
abbrev pub BuffersKeptLaw : Type 0
BuffersKeptLaw = (options : JobOptionsView) (input : JobInputView) (rate : ℕ) (d : Described) (p : Planned) (findings : List FindingView)
    (units : List (ℕ × AccessUnit)) (n : ℕ) →
    HasTomlNumbers options input rate → IsText d (description_text options input rate) → IsInRange d → IsServing d p → AreUnits false findings d units →
    n ≤ 2 ^ 40 →
    (k : ℕ) (s : DescribedStream) (part : StreamPartView) → slice_get d.streams k ≡ Some s → slice_get (stream_parts input) k ≡ Some part →
    BuffersKept (schedule_for d p) part s (units_of k units) n (output_of false (schedule_for d p) (job_history units n))
