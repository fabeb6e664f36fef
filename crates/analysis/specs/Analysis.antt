-- A stream, packet by packet: its view, the events that each packet settles with their moments, and their totals.
use Rattle.std.specs.Prelude.{◌≡◌, ℕ, ◌+◌, ◌-◌, ◌*◌, ◌&&◌, nat_le, Bool, true, if◌then◌else◌, List, [], ◌∷◌, ◌++◌, map, Option, Some, None}
use Rattle.events.specs.declared.event.Event.{Event}
use Rattle.events.specs.declared.event.Event.TheVariants.{Input, Window, Held, Units, Rule}
use Rattle.events.specs.declared.input_event.InputEvent.TheVariants as inputs
use Rattle.events.specs.declared.fault.Fault.{Fault}
use Rattle.events.specs.declared.rule_event.RuleEvent.{RuleEvent}
use Rattle.events.specs.declared.rule_event.RuleEvent.TheVariants as rules
use Rattle.events.specs.declared.timed_event.TimedEvent.{TimedEvent}
use Rattle.events.specs.Faults.{fault_of}
use Rattle.arrival.specs.Clock.{longest_interval}
use Rattle.arrival.specs.StampClocks.{StampState, is_new, no_stamp, step_at}
use Rattle.arrival.specs.StampClocks as clock
use Rattle.arrival.specs.declared.stamp_clock.StampStep.{StampStep}
use Rattle.ts_watch.specs.declared.view_request.ViewSpan.{ViewSpan}
use Rattle.ts_watch.specs.Choices.{RequestView}
use Rattle.ts_report.specs.ClockedViews.{ClockedState, IsClocked, is_clocked, moment_in}
use Rattle.ts_report.specs.ClockedViews as views
use Rattle.ts_report.specs.Crowding as crowding
use Rattle.fault_summary.specs.Summaries.{SummaryState, nothing}
use Rattle.fault_summary.specs.Summaries as summaries
use Rattle.analysis.specs.declared.analyser.Analyser.{Analyser}

-- the view, the totals of its events, the part of the stream whose faults and windows are asked for, the length of a window in ms, and the clock of the
-- stamps by which the stream arrives, if they are asked for
pub record AnalysisState : Type 0 where
  pub view : ClockedState
  pub summary : SummaryState
  pub span : ViewSpan
  pub window : ℕ
  pub stamps : Option StampState

pub record IsAnalysed (analyser : Analyser) (s : AnalysisState) : Type 0 where
  pub view : IsClocked analyser.view s.view
  pub summary : analyser.summary ≡ s.summary
  pub span : analyser.span ≡ s.span
  pub window : analyser.window ≡ s.window
  pub stamps : analyser.stamps ≡ s.stamps

-- before the first packet: packets that arrive by stamps have no constant rate
abbrev pub first_stamps : Bool → Option StampState
first_stamps asked = if asked then Some no_stamp else None

abbrev pub start : RequestView → AnalysisState
start request = record {
  view = views.start request;
  summary = nothing request.stamps;
  span = request.span;
  window = request.options.window;
  stamps = first_stamps request.stamps;
}

-- 1. An event, and its fault with the moment of its packet, as packets arrive when the event is found

unfoldable pub at_of : ClockedState → Option Fault → Option ℕ
at_of v None = None
at_of v (Some fault) = moment_in v fault.packet

abbrev pub fault_at : ClockedState → Event → Option Fault
fault_at v event = fault_of event (at_of v (fault_of event None))

-- an interval between two moments, in ticks, reaches into the part that is asked for, whose moments are in ms
unfoldable pub ends_after : Option ℕ → ℕ → Bool
ends_after None end = true
ends_after (Some ms) end = nat_le (27000 * ms) end

unfoldable pub begins_before : Option ℕ → ℕ → Bool
begins_before None begin = true
begins_before (Some ms) begin = nat_le begin (27000 * ms)

abbrev pub overlaps : ViewSpan → ℕ → ℕ → Bool
overlaps span begin end = ends_after span.from end && begins_before span.to begin

-- a fault without a moment is not elsewhere
unfoldable pub lasts_in : ViewSpan → Option ℕ → Option ℕ → Bool
lasts_in span None to = true
lasts_in span (Some begin) None = true
lasts_in span (Some begin) (Some end) = overlaps span begin end

unfoldable pub fault_in : ViewSpan → Option Fault → Bool
fault_in span None = true
fault_in span (Some fault) = lasts_in span fault.from fault.to

-- the number of the window that an event is about
unfoldable pub rule_window : RuleEvent → Option ℕ
rule_window (rules.ClockWindow c) = Some c.number
rule_window _ = None

unfoldable pub window_of : Event → Option ℕ
window_of (Window w) = Some w.number
window_of (Held h) = Some h.number
window_of (Units u) = Some u.number
window_of (Rule e) = rule_window e
window_of _ = None

-- a window of `window` ms reaches from its first tick to its last one
unfoldable pub window_in : ViewSpan → ℕ → Option ℕ → Bool
window_in span window None = true
window_in span window (Some number) = overlaps span (27000 * window * number) (27000 * window * (number + 1) - 1)

-- an event is kept if its window, and its fault, reach into that part: all other windows and faults are left out
abbrev pub is_kept : AnalysisState → Event → Bool
is_kept s event = window_in s.span s.window (window_of event) && fault_in s.span (fault_at s.view event)

-- an event is written with its fault, and counted
abbrev pub timed : AnalysisState → Event → List TimedEvent
timed s event = if is_kept s event then record { event = event; fault = fault_at s.view event } ∷ [] else []

abbrev pub counted : AnalysisState → Event → AnalysisState
counted s event = record s { summary = summaries.with_event s.summary event (fault_at s.view event) }

abbrev pub with_event : AnalysisState → Event → AnalysisState
with_event s event = if is_kept s event then counted s event else s

unfoldable pub with_events : AnalysisState → List Event → AnalysisState
with_events s [] = s
with_events s (event ∷ events) = with_events (with_event s event) events

unfoldable pub all_timed : AnalysisState → List Event → List TimedEvent
all_timed s [] = []
all_timed s (event ∷ events) = timed s event ++ all_timed (with_event s event) events

-- 2. A packet, and the events that it settles

abbrev pub viewed : AnalysisState → List ℕ → AnalysisState
viewed s bytes = record s { view = views.after_packet s.view bytes }

abbrev pub events_at : AnalysisState → List ℕ → List TimedEvent
events_at s bytes = all_timed (viewed s bytes) (views.events_at s.view bytes)

abbrev pub after_packet : AnalysisState → List ℕ → AnalysisState
after_packet s bytes = with_events (viewed s bytes) (views.events_at s.view bytes)

-- after packets
unfoldable pub after_all : AnalysisState → List (List ℕ) → AnalysisState
after_all s [] = s
after_all s (bytes ∷ packets) = after_all (after_packet s bytes) packets

unfoldable pub events_all : AnalysisState → List (List ℕ) → List TimedEvent
events_all s [] = []
events_all s (bytes ∷ packets) = events_at s bytes ++ events_all (after_packet s bytes) packets

-- 3. The same of a packet before which four bytes come: by the stamp in them, where stamps are asked for

-- stamps that do not go on are an event
unfoldable pub jump_events : ℕ → Option ℕ → List Event
jump_events packet None = []
jump_events packet (Some ticks) = Input (inputs.StampJump (record { packet = packet; value = ticks; limit = longest_interval })) ∷ []

abbrev pub viewed_by : AnalysisState → StampState → StampStep → List ℕ → AnalysisState
viewed_by s stamps step bytes = record s { view = views.after_sampled s.view step.sample bytes; stamps = Some stamps }

abbrev pub found_by : AnalysisState → StampStep → List ℕ → List Event
found_by s step bytes = views.sampled_events s.view step.sample bytes ++ jump_events step.packet step.jump

unfoldable pub stamped_in : Option StampState → AnalysisState → ℕ → List ℕ → AnalysisState
stamped_in None s head bytes = after_packet s bytes
stamped_in (Some c) s head bytes = with_events (viewed_by s (clock.after c head) (step_at c head) bytes) (found_by s (step_at c head) bytes)

unfoldable pub stamped_events_in : Option StampState → AnalysisState → ℕ → List ℕ → List TimedEvent
stamped_events_in None s head bytes = events_at s bytes
stamped_events_in (Some c) s head bytes = all_timed (viewed_by s (clock.after c head) (step_at c head) bytes) (found_by s (step_at c head) bytes)

abbrev pub after_stamped : AnalysisState → ℕ → List ℕ → AnalysisState
after_stamped s head bytes = stamped_in s.stamps s head bytes

abbrev pub stamped_events : AnalysisState → ℕ → List ℕ → List TimedEvent
stamped_events s head bytes = stamped_events_in s.stamps s head bytes

-- 4. At the end: an event if no packet has the stamps that are asked for, the last events, and then the totals of all events

unfoldable pub missing_events : Option StampState → List Event
missing_events None = []
missing_events (Some c) = if is_new c then Input inputs.NoStamps ∷ [] else []

abbrev pub last_found : AnalysisState → ℕ → List Event
last_found s left = missing_events s.stamps ++ views.end_events s.view left

abbrev pub view_ended : AnalysisState → AnalysisState
view_ended s = record s { view = views.ended s.view }

abbrev pub last_events : AnalysisState → ℕ → List TimedEvent
last_events s left = all_timed (view_ended s) (last_found s left)

abbrev pub ended : AnalysisState → ℕ → AnalysisState
ended s left = with_events (view_ended s) (last_found s left)

abbrev pub is_faultless : AnalysisState → Bool
is_faultless s = summaries.is_good s.summary

-- totals and the verdict are no faults
abbrev pub all_untimed : List Event → List TimedEvent
all_untimed events = map (λ event. record { event = event; fault = None }) events

abbrev pub conclusion : AnalysisState → Bool → List TimedEvent
conclusion s good = all_untimed (summaries.end_events s.summary good (is_clocked s.view))

-- too many units of a stream wait: no more is viewed
abbrev pub is_crowded : Analyser → Bool
is_crowded analyser = crowding.is_crowded analyser.view

-- nothing is wrong
abbrev pub is_good : AnalysisState → ℕ → Bool
is_good s left = views.is_good s.view left
