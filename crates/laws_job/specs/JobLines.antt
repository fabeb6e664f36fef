-- The lines of a job say all that is left out of its input's streams.
use Rattle.std.specs.Prelude.{◌≡◌, ◌⊎◌, ℕ, ◌==◌, Bool, true, false, List, map, Contains, Some, Ok}
use Rattle.pid_findings.specs.Views.{FindingView}
use Rattle.program_tables.specs.Association.{AssociationView, association}
use Rattle.stream_programs.specs.Programs.{programs_of}
use Rattle.stream_programs.specs.Streams.{FoundStreamView}
use Rattle.es_units.specs.UnitWarnings.{unit_warnings}
use Rattle.es_units.specs.declared.unit_warning.UnitWarning.{UnitWarning}
use Rattle.job_inputs.specs.JobInput.{JobInputView, job_input, named_of}
use Rattle.job_programs.specs.JobOptions.{JobOptionsView}
use Rattle.job_programs.specs.Warnings.{packet_warning}
use Rattle.job_programs.specs.declared.warning.Warning.{Warning}
use Rattle.job_programs.specs.declared.warning.Warning.TheVariants as warnings
use Rattle.job_units.specs.WireStreams.{selected}

-- a line says that the stream of this PID is left out: for a reason, because it has no unit, or because its stream_id can't be written
unfoldable pub is_about : ℕ → Warning → Bool
is_about pid (warnings.LeftOut stream why) = stream.pid == pid
is_about pid (warnings.NoUnit program other) = other == pid
is_about pid (warnings.StreamId stream packet id) = stream.pid == pid
is_about pid _ = false

pub record IsNamed (pid : ℕ) (lines : List Warning) : Type 0 where
  pub line : Warning
  pub among : Contains lines line
  pub about : is_about pid line ≡ true

-- the PIDs of a job's streams
abbrev pub pids_of : JobInputView → List ℕ
pids_of input = map (λ s. s.pid) input.streams

pub record SaysAll (options : JobOptionsView) (count : ℕ) (findings : List FindingView) (input : JobInputView) : Type 0 where
  -- each line of each of its streams
  pub units : (pid : ℕ) (w : UnitWarning) → Contains (pids_of input) pid → Contains (unit_warnings pid count findings) w →
      Contains input.warnings (warnings.Units pid w)
  -- each packet that is damaged, and so has no PID, has its warning
  pub packets : (f : FindingView) (w : Warning) → Contains findings f → Contains (packet_warning f) w → Contains input.warnings w
  -- each stream in the PMTs of the selected programs, except streams that options leave out, is a stream of the job, or a line names it
  pub named_by : AssociationView
  pub in_force : association findings ≡ Some named_by
  pub streams : (s : FoundStreamView) → Contains (selected options.without (programs_of (named_of options named_by) findings).streams) s →
      Contains (pids_of input) s.pid ⊎ IsNamed s.pid input.warnings

abbrev pub JobLinesLaw : Type 0
JobLinesLaw = (options : JobOptionsView) (count : ℕ) (findings : List FindingView) (input : JobInputView) → job_input options count findings ≡ Ok input →
    SaysAll options count findings input
