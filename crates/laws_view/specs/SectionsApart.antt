-- No section of what a multiplexer wrote for a whole transponder comes too soon after the section before it of its PID, table_id and table_id_extension
-- (ETSI EN 300 468, 5.1.4.1; ETSI TR 101 290, 5.2.3, 3.1.a, 3.5.a, 3.6.a and 3.8).
use Rattle.std.specs.Prelude.{◌≡◌, ℕ, ◌-◌, ◌^◌, ◌<◌, ◌≤◌, Bool, true, false, List, [], filter, None}
use Rattle.ts_packet.specs.PidList.{cut_packets}
use Rattle.slot_contents.specs.Contents.{run_bytes}
use Rattle.pes_packet.specs.AccessUnits.{AccessUnit}
use Rattle.description_parts.specs.Ranges.{IsInRange}
use Rattle.slot_plan.specs.Promised.{Promised}
use Rattle.mux_core.specs.Scheduled.{Scheduled}
use Rattle.mux_core.specs.Headline.{UnitsKept}
use Rattle.mux_core.specs.Histories.{content_at}
use Rattle.mux_core.specs.WholeJobs.{capacity_for, first_refused, job_history, output_of}
use Rattle.arrival.specs.declared.arrival.Arrival.TheVariants.{AtRate}
use Rattle.events.specs.declared.event.Event.{Event}
use Rattle.events.specs.declared.event.Event.TheVariants as found
use Rattle.events.specs.declared.fault_kind.FaultKind.TheVariants as kinds
use Rattle.ts_watch.specs.Choices.{RequestView}
use Rattle.ts_report.specs.Views.{start}
use Rattle.laws_view.specs.ViewedSections.{HasNoReadyMade, sections_in}

-- of such a section
unfoldable pub is_soon : Event → Bool
is_soon (found.TableFault kinds.SectionDistance fault) = true
is_soon _ = false

-- a run has no such event, whatever is viewed, at its rate
abbrev pub RunDistancesLaw : Type 0
RunDistancesLaw = (d : Scheduled) (units : ℕ → List AccessUnit) (slots : ℕ) (request : RequestView) → IsInRange d.description →
    Promised d.description d.schedule → UnitsKept d units → slots < 2 ^ 64 - 1 → request.options.arrival ≡ AtRate d.description.rate →
    d.description.is_transponder ≡ true → HasNoReadyMade d.description →
    filter is_soon (sections_in (start request) (cut_packets (run_bytes (content_at d units) 0 slots))) ≡ []

-- nor has a whole job in which every unit is accepted
abbrev pub JobDistancesLaw : Type 0
JobDistancesLaw = (d : Scheduled) (units : List (ℕ × AccessUnit)) (slots : ℕ) (request : RequestView) → IsInRange d.description →
    Promised d.description d.schedule → first_refused d (capacity_for units) [] units ≡ None → slots ≤ 2 ^ 40 →
    request.options.arrival ≡ AtRate d.description.rate → d.description.is_transponder ≡ true → HasNoReadyMade d.description →
    filter is_soon (sections_in (start request) (cut_packets (output_of false d (job_history units slots)))) ≡ []
