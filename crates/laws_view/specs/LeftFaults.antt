-- Which faults are left to decide the verdict of a view on what a multiplexer wrote: without ready-made tables its packets give no other fault.
use Rattle.std.specs.Prelude.{◌≡◌, ℕ, ◌≤◌, not, Bool, true, false, List, [], filter, Option, Some, None}
use Rattle.ts_packet.specs.PidList.{cut_packets}
use Rattle.slot_contents.specs.Contents.{run_bytes}
use Rattle.pes_packet.specs.AccessUnits.{AccessUnit}
use Rattle.description_parts.specs.Ranges.{IsInRange}
use Rattle.slot_plan.specs.Promised.{Promised}
use Rattle.mux_core.specs.Scheduled.{Scheduled}
use Rattle.mux_core.specs.Headline.{UnitsKept}
use Rattle.mux_core.specs.Histories.{content_at}
use Rattle.mux_core.specs.WholeJobs.{capacity_for, first_refused, job_history, output_of}
use Rattle.arrival.specs.declared.arrival.Arrival.TheVariants.{AtRate}
use Rattle.events.specs.Faults.{fault_of}
use Rattle.events.specs.declared.event.Event.{Event}
use Rattle.events.specs.declared.fault.Fault.{Fault}
use Rattle.events.specs.declared.fault_kind.FaultKind.{FaultKind}
use Rattle.events.specs.declared.fault_kind.FaultKind.TheVariants as kinds
use Rattle.ts_watch.specs.Choices.{RequestView}
use Rattle.ts_report.specs.Views.{events_all, start}
use Rattle.laws_view.specs.StreamPackets.{most_packets}
use Rattle.laws_view.specs.ViewedTables.{AreBytes}
use Rattle.laws_view.specs.ViewedVerdicts.{HasNoReadyMade}

-- of buffers and of units; a PTS or a packet of a PID that comes too late, a section that comes too soon, and a table that is scrambled
unfoldable pub is_left : FaultKind → Bool
is_left kinds.Excess = true
is_left kinds.MainExcess = true
is_left kinds.MultiplexingExcess = true
is_left kinds.ElementaryExcess = true
is_left kinds.SystemExcess = true
is_left kinds.SystemMainExcess = true
is_left kinds.Late = true
is_left kinds.ElementaryLate = true
is_left kinds.Ahead = true
is_left kinds.NotEmpty = true
is_left kinds.Delayed = true
is_left kinds.PtsRepetition = true
is_left kinds.PidRepetition = true
is_left kinds.SectionDistance = true
is_left kinds.ScrambledTable = true
is_left _ = false

-- a fault of another kind
unfoldable pub is_other : Option Fault → Bool
is_other None = false
is_other (Some fault) = not (is_left fault.kind)

abbrev pub is_other_fault : Event → Bool
is_other_fault e = is_other (fault_of e None)

-- no event that these packets settle is a fault of another kind
abbrev pub NoOtherFault : RequestView → List ℕ → Type 0
NoOtherFault request bytes = filter is_other_fault (events_all (start request) (cut_packets bytes)) ≡ []

-- so of every run over a plan that keeps its conditions, or over two in turn, viewed at its rate
abbrev pub RunFaultsLaw : Type 0
RunFaultsLaw = (d : Scheduled) (units : ℕ → List AccessUnit) (slots : ℕ) (request : RequestView) → IsInRange d.description →
    Promised d.description d.schedule → UnitsKept d units → slots ≤ most_packets → request.options.arrival ≡ AtRate d.description.rate →
    AreBytes (run_bytes (content_at d units) 0 slots) → HasNoReadyMade d.description → NoOtherFault request (run_bytes (content_at d units) 0 slots)

-- and of a whole job, if no unit of it is refused
abbrev pub JobFaultsLaw : Type 0
JobFaultsLaw = (d : Scheduled) (units : List (ℕ × AccessUnit)) (slots : ℕ) (request : RequestView) → IsInRange d.description →
    Promised d.description d.schedule → first_refused d (capacity_for units) [] units ≡ None → slots ≤ most_packets →
    request.options.arrival ≡ AtRate d.description.rate → AreBytes (output_of false d (job_history units slots)) → HasNoReadyMade d.description →
    NoOtherFault request (output_of false d (job_history units slots))
