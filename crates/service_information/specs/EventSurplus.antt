-- Present and following event information that is not taken as events (EN 300 468, 5.2.4).
use Rattle.std.specs.Prelude.{ℕ, ◌==◌, ◌&&◌, not, Bool, true, false, List, Option, Some, None}
use Rattle.std.specs.List.{list_all, list_any}
use Rattle.std.specs.Str.{bytes_eq}
use Rattle.dvb_tables.specs.EventEntries.{EventView}
use Rattle.pid_findings.specs.Views.{FindingView}
use Rattle.service_information.specs.EventSections.{EventSectionView, event_section_found}
use Rattle.service_information.specs.Events.{FoundEventView, event_in, is_among}
use Rattle.service_information.specs.FirstFindings.{first_packet, has_table_id}

unfoldable pub is_same : FoundEventView → FoundEventView → Bool
is_same e f =
    ((e.program == f.program && e.id == f.id) && (e.start == f.start && e.duration == f.duration)) && bytes_eq e.descriptors f.descriptors

unfoldable pub is_taken : List FoundEventView → Option FoundEventView → Bool
is_taken taken None = false
is_taken taken (Some e) = list_any (is_same e) taken

-- an event is among the events that are taken
unfoldable pub is_said : ℕ → List FoundEventView → EventView → Bool
is_said program taken v = is_taken taken (event_in program v)

-- a section that can't be read as a section in force, or a section of one among these programs with an event that is not taken
unfoldable pub says_more : List ℕ → List FoundEventView → Option EventSectionView → Bool
says_more numbers taken None = true
says_more numbers taken (Some s) = is_among s.program numbers && not (list_all (is_said s.program taken) s.events)

unfoldable pub is_surplus : List ℕ → List FoundEventView → FindingView → Bool
is_surplus numbers taken finding = has_table_id 0x4E finding.what && says_more numbers taken (event_section_found finding)

unfoldable pub event_surplus : List ℕ → List FoundEventView → List FindingView → Option ℕ
event_surplus numbers taken findings = first_packet (is_surplus numbers taken) findings
