-- Each finding on a stream's PID is found again in the bytes of the job, or a line says why not.
use Rattle.std.specs.Prelude.{◌≡◌, ◌≤◌, ◌⊎◌, ℕ, ◌^◌, Bool, true, false, List, ◌∷◌, ◌++◌, slice_get, Some, Contains}
use Rattle.pes_packet.specs.AccessUnits.{AccessUnit}
use Rattle.pes_packet.specs.Units.{units_of}
use Rattle.pes_packet.specs.declared.reading.PesHeader.{PesHeader}
use Rattle.description_parts.specs.Described.{Described, DescribedStream}
use Rattle.description_parts.specs.Ranges.{IsInRange}
use Rattle.slot_plan.specs.Planned.{Planned}
use Rattle.slot_plan.specs.Conditions.{IsServing}
use Rattle.pid_findings.specs.Views.{IsPes, FindingView}
use Rattle.demux.specs.Laws.{has_pid}
use Rattle.mux_core.specs.WholeJobs.{job_history, output_of}
use Rattle.es_moments.specs.WireUnits.{CarriedUnit}
use Rattle.es_units.specs.CarriedUnits.{wire_units, apart_wire_units}
use Rattle.laws_run.specs.PidLaws.{all_found}
use Rattle.job_inputs.specs.JoinedInputs.{AreUnitsIn}
use Rattle.job_inputs.specs.declared.joined_inputs.Origin.{Origin}
use Rattle.job_programs.specs.FoundUnits.{AreMoved}
use Rattle.stream_jobs.specs.Jobs.{AreUnits}
use Rattle.laws_job.specs.Laws.{AllDue, schedule_for}
use Rattle.laws_job.specs.LeftOut.{IsNamedUnit, PesAccounted}

-- a unit among these has the marks and the bytes of the unit u
pub record IsAgain (found : List AccessUnit) (u : CarriedUnit) : Type 0 where
  pub again : AccessUnit
  pub among : Contains found again
  pub marks : again.marks ≡ u.unit.marks
  pub bytes : again.bytes ≡ u.unit.bytes

-- the units of a stream that a demultiplexer finds in the bytes of a job
abbrev pub units_again : Described → Planned → DescribedStream → List (ℕ × AccessUnit) → ℕ → List AccessUnit
units_again d p s units n = wire_units s.pid (all_found (output_of false (schedule_for d p) (job_history units n)))

-- if the run ends no earlier than the DTS of each unit of a stream, each PES packet on its PID is padding_stream, or a part of a unit that is
-- found again, or a line with its first packet or its unit's first packet says why not
abbrev pub FoundOrNamedLaw : Type 0
FoundOrNamedLaw = (d : Described) (p : Planned) (before : List FindingView) (f : FindingView) (later : List FindingView) (units : List (ℕ × AccessUnit))
    (n k : ℕ) (s : DescribedStream) (base count : ℕ) (header : PesHeader) (unended : Bool) (body : List ℕ) →
    IsInRange d → IsServing d p → AreUnits false (before ++ f ∷ later) d units → n ≤ 2 ^ 40 → slice_get d.streams k ≡ Some s →
    AreMoved (apart_wire_units s.pid (before ++ f ∷ later)) base (units_of k units) → AllDue d.rate n (units_of k units) →
    has_pid s.pid f.pid ≡ true → f.what ≡ IsPes header unended body →
    PesAccounted s.pid count before f later header body
    (λ u. IsAgain (units_again d p s units n) u ⊎ IsNamedUnit s.pid count (before ++ f ∷ later) u)

-- the same for a job of several inputs, where a stream's PID in its own input may differ
abbrev pub JoinedOrNamedLaw : Type 0
JoinedOrNamedLaw = (d : Described) (p : Planned) (inputs : List (List FindingView)) (origins : List Origin) (pid : ℕ) (before : List FindingView)
    (f : FindingView) (later : List FindingView) (units : List (ℕ × AccessUnit)) (n k : ℕ) (s : DescribedStream) (base count : ℕ) (header : PesHeader)
    (unended : Bool) (body : List ℕ) →
    IsInRange d → IsServing d p → AreUnitsIn false inputs origins d units → n ≤ 2 ^ 40 → slice_get d.streams k ≡ Some s →
    AreMoved (apart_wire_units pid (before ++ f ∷ later)) base (units_of k units) → AllDue d.rate n (units_of k units) →
    has_pid pid f.pid ≡ true → f.what ≡ IsPes header unended body →
    PesAccounted pid count before f later header body
    (λ u. IsAgain (units_again d p s units n) u ⊎ IsNamedUnit pid count (before ++ f ∷ later) u)
