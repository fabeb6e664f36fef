-- No section of what a multiplexer wrote is of a table that does not belong on its PID (ETSI TR 101 290, 5.2.1, 1.3.a; 5.2.2, 2.6; 5.2.3, 3.1, 3.5,
-- 3.6, 3.7 and 3.8).
use Rattle.std.specs.Prelude.{◌≡◌, ℕ, ◌-◌, ◌^◌, ◌<◌, ◌≤◌, Bool, true, false, List, [], filter, None}
use Rattle.ts_packet.specs.PidList.{cut_packets}
use Rattle.slot_contents.specs.Contents.{run_bytes}
use Rattle.pes_packet.specs.AccessUnits.{AccessUnit}
use Rattle.description_parts.specs.Ranges.{IsInRange}
use Rattle.mux_core.specs.Scheduled.{Scheduled}
use Rattle.mux_core.specs.Headline.{UnitsKept}
use Rattle.mux_core.specs.Histories.{content_at}
use Rattle.mux_core.specs.WholeJobs.{capacity_for, first_refused, job_history, output_of}
use Rattle.events.specs.declared.event.Event.{Event}
use Rattle.events.specs.declared.event.Event.TheVariants as found
use Rattle.events.specs.declared.rule_event.RuleEvent.TheVariants as rules
use Rattle.ts_watch.specs.Choices.{RequestView}
use Rattle.ts_report.specs.Views.{start}
use Rattle.laws_view.specs.ViewedSections.{sections_in}

-- of such a section
unfoldable pub is_other_table : Event → Bool
is_other_table (found.Rule (rules.OtherTable fault)) = true
is_other_table _ = false

-- a run has no such event, whatever is viewed and however packets arrive
abbrev pub RunHomesLaw : Type 0
RunHomesLaw = (d : Scheduled) (units : ℕ → List AccessUnit) (slots : ℕ) (request : RequestView) → IsInRange d.description → UnitsKept d units →
    slots < 2 ^ 64 - 1 → filter is_other_table (sections_in (start request) (cut_packets (run_bytes (content_at d units) 0 slots))) ≡ []

-- nor has a whole job in which every unit is accepted
abbrev pub JobHomesLaw : Type 0
JobHomesLaw = (d : Scheduled) (units : List (ℕ × AccessUnit)) (slots : ℕ) (request : RequestView) → IsInRange d.description →
    first_refused d (capacity_for units) [] units ≡ None → slots ≤ 2 ^ 40 →
    filter is_other_table (sections_in (start request) (cut_packets (output_of false d (job_history units slots)))) ≡ []
