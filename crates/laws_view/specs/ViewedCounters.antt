-- The events `continuity` of a view are the errors of continuity_counter in the bytes (ETSI TR 101 290, 5.2.1, 1.4), and of what a multiplexer
-- wrote a view has none.
use Rattle.std.specs.Prelude.{◌≡◌, ℕ, ◌-◌, ◌/◌, ◌^◌, ◌<◌, ◌≤◌, false, List, [], ◌∷◌, ◌++◌, length, map, None}
use Rattle.ts_packet.specs.Reading.{packet_at}
use Rattle.ts_packet.specs.PidList.{cut_packets}
use Rattle.slot_contents.specs.Contents.{run_bytes}
use Rattle.pes_packet.specs.AccessUnits.{AccessUnit}
use Rattle.description_parts.specs.Ranges.{IsInRange}
use Rattle.mux_core.specs.Scheduled.{Scheduled}
use Rattle.mux_core.specs.Headline.{UnitsKept}
use Rattle.mux_core.specs.Histories.{content_at}
use Rattle.mux_core.specs.WholeJobs.{capacity_for, first_refused, job_history, output_of}
use Rattle.tr101290.specs.Continuity.{errors_from}
use Rattle.tr101290.specs.declared.continuity.ContinuityError.{ContinuityError}
use Rattle.laws_view.specs.Continuity.{sound_packets}
use Rattle.events.specs.declared.event.Event.{Event}
use Rattle.events.specs.declared.event.Event.TheVariants as found
use Rattle.ts_watch.specs.Choices.{RequestView}
use Rattle.ts_report.specs.Views.{ViewState, after_packet, after_read, counter_events_at, start}

-- the events of continuity_counters that these packets settle: the last events at each packet
unfoldable pub counters_in : ViewState → List (List ℕ) → List Event
counters_in s [] = []
counters_in s (bytes ∷ packets) = counter_events_at (after_read s (packet_at bytes)) bytes ++ counters_in (after_packet s bytes) packets

-- an error as a view names it
abbrev pub counter_event : ContinuityError → Event
counter_event e = found.Continuity (record { pid = e.pid; packet = e.packet; expected = e.expected; found = e.found })

-- for any stream these events are the errors of its packets, whatever else is viewed
abbrev pub ViewedCountersLaw : Type 0
ViewedCountersLaw = (request : RequestView) (bytes : List ℕ) → length bytes / 188 < 2 ^ 64 - 1 →
    counters_in (start request) (cut_packets bytes) ≡ map counter_event (errors_from [] (sound_packets bytes))

-- the bytes of a run have no such event
abbrev pub RunCountersLaw : Type 0
RunCountersLaw = (d : Scheduled) (units : ℕ → List AccessUnit) (slots : ℕ) (request : RequestView) → IsInRange d.description → UnitsKept d units →
    slots < 2 ^ 64 - 1 → counters_in (start request) (cut_packets (run_bytes (content_at d units) 0 slots)) ≡ []

-- nor has a whole job in which every unit is accepted
abbrev pub JobCountersLaw : Type 0
JobCountersLaw = (d : Scheduled) (units : List (ℕ × AccessUnit)) (slots : ℕ) (request : RequestView) → IsInRange d.description →
    first_refused d (capacity_for units) [] units ≡ None → slots ≤ 2 ^ 40 →
    counters_in (start request) (cut_packets (output_of false d (job_history units slots))) ≡ []
