-- The counts of a view on what a multiplexer wrote go by buffers and units alone: its packets, counters, clock references and tables are good. The
-- verdict also needs that no event is a fault: `LeftFaults` says which faults are left.
use Rattle.std.specs.Prelude.{◌≡◌, ℕ, ◌%◌, ◌≤◌, ◌&&◌, false, List, [], length, None}
use Rattle.ts_packet.specs.PidList.{cut_packets}
use Rattle.slot_contents.specs.Contents.{run_bytes}
use Rattle.pes_packet.specs.AccessUnits.{AccessUnit}
use Rattle.description_parts.specs.Ranges.{IsInRange}
use Rattle.slot_plan.specs.Promised.{Promised}
use Rattle.mux_core.specs.Scheduled.{Scheduled}
use Rattle.mux_core.specs.Headline.{UnitsKept}
use Rattle.mux_core.specs.Histories.{content_at}
use Rattle.mux_core.specs.WholeJobs.{capacity_for, first_refused, job_history, output_of}
use Rattle.arrival.specs.declared.arrival.Arrival.TheVariants.{AtRate}
use Rattle.system_tables.specs.Programs.{known}
use Rattle.ts_watch.specs.Choices.{RequestView}
use Rattle.ts_watch.specs.SystemEvents.{all_fit}
use Rattle.ts_report.specs.StreamTables as streams
use Rattle.ts_report.specs.Views.{after_all, is_good, start}
use Rattle.laws_view.specs.StreamPackets.{most_packets}
pub use Rattle.laws_view.specs.ViewedSections.{HasNoReadyMade}
use Rattle.laws_view.specs.ViewedTables.{AreBytes}

-- the counts are good at the end exactly if the buffers of programs' tables fit and each stream is good: its buffers, and its units
abbrev pub GoesByBuffers : RequestView → List ℕ → Type 0
GoesByBuffers request bytes = is_good (after_all (start request) (cut_packets bytes)) (length bytes % 188)
    ≡ (all_fit (after_all (start request) (cut_packets bytes)).table.choice (known (after_all (start request) (cut_packets bytes)).seen.systems)
    && streams.is_good (after_all (start request) (cut_packets bytes)).table)

-- so of every run over a plan that keeps its conditions, or over two in turn, viewed at its rate
abbrev pub RunVerdictLaw : Type 0
RunVerdictLaw = (d : Scheduled) (units : ℕ → List AccessUnit) (slots : ℕ) (request : RequestView) → IsInRange d.description →
    Promised d.description d.schedule → UnitsKept d units → slots ≤ most_packets → request.options.arrival ≡ AtRate d.description.rate →
    AreBytes (run_bytes (content_at d units) 0 slots) → HasNoReadyMade d.description → GoesByBuffers request (run_bytes (content_at d units) 0 slots)

-- and of a whole job, if no unit of it is refused
abbrev pub JobVerdictLaw : Type 0
JobVerdictLaw = (d : Scheduled) (units : List (ℕ × AccessUnit)) (slots : ℕ) (request : RequestView) → IsInRange d.description →
    Promised d.description d.schedule → first_refused d (capacity_for units) [] units ≡ None → slots ≤ most_packets →
    request.options.arrival ≡ AtRate d.description.rate → AreBytes (output_of false d (job_history units slots)) → HasNoReadyMade d.description →
    GoesByBuffers request (output_of false d (job_history units slots))
