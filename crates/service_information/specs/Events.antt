-- The events of a stream's programs, by its present and following event information (EN 300 468, 5.2.4).
use Rattle.std.specs.Prelude.{ℕ, ◌+◌, ◌==◌, ◌&&◌, nat_le, nat_lt, not, Bool, if◌then◌else◌, List, [], ◌∷◌, length, filter, insert, Option, Some, None, option_map}
use Rattle.std.specs.Prelude.{option_and_then}
use Rattle.std.specs.List.{list_any}
use Rattle.dvb_tables.specs.DescriptorLoops.{are_whole_descriptors}
use Rattle.dvb_tables.specs.EventEntries.{EventView}
use Rattle.pid_findings.specs.Views.{FindingView}
use Rattle.service_information.specs.CodedTimes.{moment_in, seconds_in}
use Rattle.service_information.specs.EventSections.{EventSectionView, event_section_found}

-- 1. What a section says of an event

-- the program's number and event_id; start in seconds since 1 January 1970, duration in seconds; all descriptors of the event
pub record FoundEventView : Type 0 where
  pub program : ℕ
  pub id : ℕ
  pub start : ℕ
  pub duration : ℕ
  pub descriptors : List ℕ

-- a description can say it: its descriptors are whole and no more bytes than a description has, and it lasts
unfoldable pub can_be_said : FoundEventView → Bool
can_be_said e = (nat_le (length e.descriptors) 4000 && are_whole_descriptors e.descriptors) && nat_lt 0 e.duration

unfoldable pub if_said : FoundEventView → Option FoundEventView
if_said e = if can_be_said e then Some e else None

unfoldable pub timed_event : ℕ → EventView → ℕ → ℕ → FoundEventView
timed_event program v start duration =
    record { program = program; id = v.event_id; start = start; duration = duration; descriptors = v.descriptors }

unfoldable pub event_in : ℕ → EventView → Option FoundEventView
event_in program v =
    option_and_then (λ start. option_and_then (λ duration. if_said (timed_event program v start duration)) (seconds_in v.duration)) (moment_in v.start_time)

-- 2. The events of sections, in the order of their findings, without an event that overlaps an earlier event of the same program, 1,024 at most; in the
-- order of their starts

unfoldable pub overlaps : FoundEventView → FoundEventView → Bool
overlaps e f = e.program == f.program && (nat_lt e.start (f.start + f.duration) && nat_lt f.start (e.start + e.duration))

unfoldable pub is_free : List FoundEventView → FoundEventView → Bool
is_free taken e = nat_lt (length taken) 1024 && not (list_any (overlaps e) taken)

-- how many begin before it
unfoldable pub place_of : List FoundEventView → FoundEventView → ℕ
place_of taken e = length (filter (λ f. nat_lt f.start e.start) taken)

unfoldable pub with_event : List FoundEventView → FoundEventView → List FoundEventView
with_event taken e = if is_free taken e then insert taken (place_of taken e) e else taken

unfoldable pub with_if_said : List FoundEventView → Option FoundEventView → List FoundEventView
with_if_said taken None = taken
with_if_said taken (Some e) = with_event taken e

-- the events of a section
unfoldable pub with_entries : ℕ → List FoundEventView → List EventView → List FoundEventView
with_entries program taken [] = taken
with_entries program taken (v ∷ vs) = with_entries program (with_if_said taken (event_in program v)) vs

unfoldable pub is_among : ℕ → List ℕ → Bool
is_among number numbers = list_any (λ other. other == number) numbers

-- with the events of a section, if it is for a program among these
unfoldable pub with_section : List ℕ → List FoundEventView → Option EventSectionView → List FoundEventView
with_section numbers taken None = taken
with_section numbers taken (Some s) = if is_among s.program numbers then with_entries s.program taken s.events else taken

unfoldable pub with_findings : List ℕ → List FoundEventView → List FindingView → List FoundEventView
with_findings numbers taken [] = taken
with_findings numbers taken (finding ∷ findings) = with_findings numbers (with_section numbers taken (event_section_found finding)) findings

unfoldable pub stream_events : List ℕ → List FindingView → List FoundEventView
stream_events numbers findings = with_findings numbers [] findings
