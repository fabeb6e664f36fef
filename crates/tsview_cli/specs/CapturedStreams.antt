-- A capture that is viewed: its packets are viewed one after another, and each slip among them is an event.
use Rattle.std.specs.Prelude.{◌≡◌, ◌<◌, ℕ, ◌+◌, ◌-◌, ◌/◌, ◌==◌, ◌&&◌, ◌||◌, not, nat_lt, Bool, if◌then◌else◌, List, [], ◌∷◌, ◌++◌, length, flat_map, Option}
use Rattle.std.specs.Prelude.{Some, None}
use Rattle.arrival.specs.declared.arrival.Arrival.{Arrival}
use Rattle.arrival.specs.declared.arrival.Arrival.TheVariants.{Unknown, AtRate, OnLines}
use Rattle.capture.specs.Captures.{Capture, IsPacket, IsSize, IsSlip, IsStamped, Part, capture_of, with_parts}
use Rattle.packet_sync.specs.OtherPackets.{size_of}
use Rattle.capture.specs.Reading.{capture_left}
use Rattle.packet_sync.specs.declared.packet_sizes.OtherPackets.{OtherPackets}
use Rattle.packet_sync.specs.declared.slip.Slip.{Slip}
use Rattle.events.specs.declared.event.ClockTotals.{ClockTotals}
use Rattle.events.specs.declared.event.Event.{Event}
use Rattle.events.specs.declared.event.Event.TheVariants as events
use Rattle.events.specs.declared.event.ReportEnd.{ReportEnd}
use Rattle.packet_sync.specs.declared.file_form.FileForm.{FileForm}
use Rattle.events.specs.declared.input_event.InputEvent.{InputEvent}
use Rattle.events.specs.declared.input_event.InputEvent.TheVariants as inputs
use Rattle.events.specs.declared.timed_event.TimedEvent.{TimedEvent}
use Rattle.ts_watch.specs.Choices.{RequestView}
use Rattle.analysis.specs.Analysis.{AnalysisState, IsAnalysed, after_packet, after_stamped, all_timed, conclusion, ended, events_at, is_faultless}
use Rattle.analysis.specs.Analysis.{is_good, stamped_events, start, timed, with_event, with_events}
use Rattle.analysis.specs.Analysis as ending
use Rattle.tsview_cli.specs.declared.captured.CapturedView.{CapturedView}
use Rattle.tsview_cli.specs.declared.captured.ViewedParts.{ViewedParts}

-- 1. Parts one after another

abbrev pub slip_event : Slip → Event
slip_event s = events.Input (inputs.Slip (record { packet = s.packet; place = s.start; bytes = s.size }))

abbrev pub size_event : OtherPackets → Event
size_event other = events.Input (inputs.PacketSize (size_of other))

-- the events that a part settles, and the state of the stream after it
unfoldable pub part_events : AnalysisState → Part → List TimedEvent
part_events s (IsPacket bytes) = events_at s bytes
part_events s (IsStamped head bytes) = stamped_events s head bytes
part_events s (IsSlip slip) = timed s (slip_event slip)
part_events s (IsSize other) = timed s (size_event other)

unfoldable pub after_part : AnalysisState → Part → AnalysisState
after_part s (IsPacket bytes) = after_packet s bytes
after_part s (IsStamped head bytes) = after_stamped s head bytes
after_part s (IsSlip slip) = with_event s (slip_event slip)
after_part s (IsSize other) = with_event s (size_event other)

unfoldable pub after_parts : AnalysisState → List Part → AnalysisState
after_parts s [] = s
after_parts s (part ∷ parts) = after_parts (after_part s part) parts

unfoldable pub events_of : AnalysisState → List Part → List TimedEvent
events_of s [] = []
events_of s (part ∷ parts) = part_events s part ++ events_of (after_part s part) parts

-- 2. Notes at the end of the input

-- the rate that is given
unfoldable pub given_rate : Arrival → Option ℕ
given_rate (AtRate rate) = Some rate
given_rate Unknown = None
given_rate (OnLines lines) = None

-- clock references give another rate if theirs is more than a hundredth of the given one away from it
abbrev pub is_other : ℕ → ℕ → Bool
is_other given references = not (references == 0) && (nat_lt references (given - given / 100) || nat_lt (given + given / 100) references)

unfoldable pub clock_note : Option ℕ → ClockTotals → Option InputEvent
clock_note None clock = None
clock_note (Some given) clock =
    if is_other given clock.rate then Some (inputs.OtherRate (record { pid = clock.pid; given = given; references = clock.rate })) else None

-- the input is empty, or more than half of what would be its packets are refused, or bytes come after its last whole packet
abbrev pub end_note : FileForm → ReportEnd → Option InputEvent
end_note form end =
    if end.packets == 0 && end.left == 0 then Some inputs.Empty
    else (if end.packets == 0 || nat_lt (end.packets / 2) end.refused then Some (inputs.NoStream form)
    else (if end.left == 0 then None else Some (inputs.Rest (record { packet = end.packets; bytes = end.left }))))

unfoldable pub note_of : Option ℕ → FileForm → Event → Option InputEvent
note_of rate form (events.Clock clock) = clock_note rate clock
note_of rate form (events.End end) = end_note form end
note_of rate form _ = None

unfoldable pub noted : Option InputEvent → List Event
noted None = []
noted (Some note) = events.Input note ∷ []

abbrev pub notes_on : Option ℕ → FileForm → TimedEvent → List Event
notes_on rate form event = noted (note_of rate form event.event)

abbrev pub notes : Option ℕ → FileForm → List TimedEvent → List Event
notes rate form found = flat_map (notes_on rate form) found

-- 3. A whole input

abbrev pub parts_in : List ℕ → List Part
parts_in bytes = (capture_of bytes).parts

abbrev pub kept_of : RequestView → List ℕ → AnalysisState
kept_of request bytes = after_parts (start request) (parts_in bytes)

-- the bytes that are left after the last part
abbrev pub left_in : List ℕ → ℕ
left_in bytes = length (capture_of bytes).rest

-- the notes on the input, by the last events of a stream in this state
abbrev pub notes_at : Option ℕ → FileForm → AnalysisState → ℕ → List Event
notes_at rate form s left = notes rate form (ending.last_events s left)

-- the state with these notes
abbrev pub noted_at : Option ℕ → FileForm → AnalysisState → ℕ → AnalysisState
noted_at rate form s left = with_events (ended s left) (notes_at rate form s left)

-- nothing is wrong: no event is a fault, and no note is
abbrev pub is_whole : Option ℕ → FileForm → AnalysisState → ℕ → Bool
is_whole rate form s left = is_good s left && is_faultless (noted_at rate form s left)

-- the last events, the notes on the input before them, and the totals of all events after them
abbrev pub last_events : Option ℕ → FileForm → AnalysisState → ℕ → List TimedEvent
last_events rate form s left = all_timed (ended s left) (notes_at rate form s left)
    ++ (ending.last_events s left ++ conclusion (noted_at rate form s left) (is_whole rate form s left))

abbrev pub rate_in : RequestView → Option ℕ
rate_in request = given_rate request.options.arrival

abbrev pub events_before : RequestView → List ℕ → List TimedEvent
events_before request bytes = events_of (start request) (parts_in bytes)

abbrev pub events_last : RequestView → List ℕ → List TimedEvent
events_last request bytes = last_events (rate_in request) (capture_of bytes).form (kept_of request bytes) (left_in bytes)

abbrev pub is_good_input : RequestView → List ℕ → Bool
is_good_input request bytes = is_whole (rate_in request) (capture_of bytes).form (kept_of request bytes) (left_in bytes)

-- 4. As its bytes come

-- the effect of parts on a view
pub record HasParts (first now : ViewedParts) (s : AnalysisState) (parts : List Part) : Type 0 where
  pub view : IsAnalysed now.view (after_parts s parts)
  pub events : now.events.items ≡ first.events.items ++ events_of s parts

abbrev pub TakesParts : List Part → ViewedParts → ViewedParts → Type 0
TakesParts parts first now = (s : AnalysisState) → IsAnalysed first.view s → HasParts first now s parts

-- these parts of the first bytes of an input were viewed, except parts within less than 1,128 bytes, whatever bytes follow
pub record IsSoFar (first : AnalysisState) (now : CapturedView) (bytes : List ℕ) (found : List Part) : Type 0 where
  pub left : (more : List ℕ) → capture_of (bytes ++ more) ≡ with_parts found (capture_left now.reader more)
  pub few : length now.reader.kept < 1128
  pub view : IsAnalysed now.parts.view (after_parts first found)

-- more parts were viewed, and the events that they settle are there
pub record IsMore (first : AnalysisState) (now : CapturedView) (bytes : List ℕ) (found : List Part) : Type 0 where
  pub more : List Part
  pub so_far : IsSoFar first now bytes (found ++ more)
  pub events : now.parts.events.items ≡ events_of (after_parts first found) more

-- the rest of the input was viewed, and its events are there, and the events at the end
pub record IsEnded (rate : Option ℕ) (first : AnalysisState) (now : CapturedView) (bytes : List ℕ) (found : List Part) (good : Bool) : Type 0 where
  pub more : List Part
  pub parts_are : parts_in bytes ≡ found ++ more
  pub events : now.parts.events.items ≡ events_of (after_parts first found) more
      ++ last_events rate (capture_of bytes).form (after_parts first (parts_in bytes)) (left_in bytes)
  pub good_is : good ≡ is_whole rate (capture_of bytes).form (after_parts first (parts_in bytes)) (left_in bytes)
