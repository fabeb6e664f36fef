-- The events of sections in a view; a view of a multiplexer's output has none of a wrong CRC_32 (ETSI TR 101 290, 5.2.2, 2.2).
use Rattle.std.specs.Prelude.{◌≡◌, ℕ, ◌-◌, ◌^◌, ◌<◌, ◌≤◌, Bool, true, false, List, [], ◌∷◌, ◌++◌, filter, Some, None}
use Rattle.ts_packet.specs.Reading.{packet_at}
use Rattle.ts_packet.specs.PidList.{cut_packets}
use Rattle.slot_contents.specs.Contents.{run_bytes}
use Rattle.pes_packet.specs.AccessUnits.{AccessUnit}
use Rattle.description_parts.specs.Described.{Described}
use Rattle.description_parts.specs.Ranges.{IsInRange}
use Rattle.description_parts.specs.Tables.{table_kind}
use Rattle.description_parts.specs.declared.table_kind.TableKind.TheVariants.{Private}
use Rattle.mux_core.specs.Scheduled.{Scheduled}
use Rattle.mux_core.specs.Headline.{UnitsKept}
use Rattle.mux_core.specs.Histories.{content_at}
use Rattle.mux_core.specs.WholeJobs.{capacity_for, first_refused, job_history, output_of}
use Rattle.events.specs.declared.event.Event.{Event}
use Rattle.events.specs.declared.event.Event.TheVariants as found
use Rattle.ts_watch.specs.Choices.{RequestView}
use Rattle.ts_report.specs.Views.{ViewState, after_packet, after_read, start, table_events_at}

-- the events that these packets settle by the sections in them
unfoldable pub sections_in : ViewState → List (List ℕ) → List Event
sections_in s [] = []
sections_in s (bytes ∷ packets) = table_events_at (after_read s (packet_at bytes)) bytes ++ sections_in (after_packet s bytes) packets

-- whether an event is of a section with a wrong CRC_32
unfoldable pub is_check_word : Event → Bool
is_check_word (found.CheckWord fault) = true
is_check_word _ = false

-- no table of the description is ready-made
abbrev pub HasNoReadyMade : Described → Type 0
HasNoReadyMade d = (t i : ℕ) → table_kind d t ≡ Some (Private i) → ⊥

-- a run without ready-made tables, whose short sections may have a wrong one, has no such event, whatever is viewed
abbrev pub RunCheckWordsLaw : Type 0
RunCheckWordsLaw = (d : Scheduled) (units : ℕ → List AccessUnit) (slots : ℕ) (request : RequestView) → IsInRange d.description → UnitsKept d units →
    slots < 2 ^ 64 - 1 → HasNoReadyMade d.description → filter is_check_word (sections_in (start request) (cut_packets (run_bytes (content_at d units) 0 slots))) ≡ []

-- nor has a whole job in which every unit is accepted
abbrev pub JobCheckWordsLaw : Type 0
JobCheckWordsLaw = (d : Scheduled) (units : List (ℕ × AccessUnit)) (slots : ℕ) (request : RequestView) → IsInRange d.description →
    first_refused d (capacity_for units) [] units ≡ None → slots ≤ 2 ^ 40 → HasNoReadyMade d.description →
    filter is_check_word (sections_in (start request) (cut_packets (output_of false d (job_history units slots)))) ≡ []
