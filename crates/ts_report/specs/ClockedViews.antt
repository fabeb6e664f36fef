-- A stream packet by packet. Without a rate its packets wait until the line of their arrival is known, and are viewed then.
use Rattle.std.specs.Prelude.{◌≡◌, ℕ, Bool, List, [], ◌∷◌, ◌++◌, length, Option, Some, None}
use Rattle.arrival.specs.declared.arrival.Arrival.{Arrival}
use Rattle.arrival.specs.declared.arrival.Arrival.TheVariants.{Unknown, AtRate, OnLines}
use Rattle.arrival.specs.declared.clock.PcrSample.{PcrSample}
use Rattle.packet_times.specs.Waiting.{QueueState, last_arrival, no_packet, released, released_with, stepped, stepped_with, with_held}
use Rattle.packet_times.specs.declared.packet_queue.ClockPid.{ClockPid}
use Rattle.packet_times.specs.declared.packet_queue.ClockPid.TheVariants.{OfFirst, OfProgram}
use Rattle.events.specs.declared.event.Event.{Event}
use Rattle.ts_watch.specs.Choices.{RequestView}
use Rattle.ts_report.specs.Moments.{has_moments, moment_at}
use Rattle.ts_report.specs.Seen.{arrival_events}
use Rattle.ts_report.specs.Views.{IsView, ViewState, arriving}
use Rattle.ts_report.specs.Views as views
use Rattle.ts_report.specs.declared.clocked_view.ClockedView.{ClockedView}

-- the state after the viewed packets, and the packets that wait, if any do
pub record ClockedState : Type 0 where
  pub view : ViewState
  pub queue : Option QueueState

pub record IsClocked (clocked : ClockedView) (s : ClockedState) : Type 0 where
  pub view : IsView clocked.view s.view
  pub queue : clocked.queue ≡ s.queue

-- before the first packet: if the streams of these programs are viewed, a stream arrives by the clock of the first of them, otherwise by the clock of
-- the first reference
unfoldable pub clock_for : List ℕ → ClockPid
clock_for [] = OfFirst
clock_for (number ∷ numbers) = OfProgram number

unfoldable pub queue_of : Arrival → List ℕ → Option QueueState
queue_of Unknown programs = Some (no_packet (clock_for programs))
queue_of (AtRate rate) programs = None
queue_of (OnLines lines) programs = None

abbrev pub start : RequestView → ClockedState
start request = record { view = views.start request; queue = queue_of request.options.arrival request.choice.programs }

-- 1. Waiting packets are viewed, as they arrive

abbrev pub view_with : ViewState → QueueState → Arrival → ViewState
view_with v q arrival = views.after_all (arriving v arrival (length q.held)) q.held

abbrev pub events_with : ViewState → QueueState → Arrival → List Event
events_with v q arrival = arrival_events v.seen arrival (length q.held) ++ views.events_all (arriving v arrival (length q.held)) q.held

-- if they do
unfoldable pub view_after : ViewState → QueueState → Option Arrival → ViewState
view_after v q None = v
view_after v q (Some arrival) = view_with v q arrival

unfoldable pub events_after : ViewState → QueueState → Option Arrival → List Event
events_after v q None = []
events_after v q (Some arrival) = events_with v q arrival

unfoldable pub held_after : QueueState → Option Arrival → List (List ℕ)
held_after q None = q.held
held_after q (Some arrival) = []

-- 2. A packet comes, and waits if packets wait

abbrev pub queue_after : QueueState → List ℕ → QueueState
queue_after q bytes = with_held (stepped q bytes) (held_after (stepped q bytes) (released q bytes) ++ bytes ∷ [])

unfoldable pub after_in : ViewState → Option QueueState → List ℕ → ClockedState
after_in v None bytes = record { view = views.after_packet v bytes; queue = None }
after_in v (Some q) bytes = record { view = view_after v (stepped q bytes) (released q bytes); queue = Some (queue_after q bytes) }

unfoldable pub events_in : ViewState → Option QueueState → List ℕ → List Event
events_in v None bytes = views.events_at v bytes
events_in v (Some q) bytes = events_after v (stepped q bytes) (released q bytes)

abbrev pub after_packet : ClockedState → List ℕ → ClockedState
after_packet s bytes = after_in s.view s.queue bytes

abbrev pub events_at : ClockedState → List ℕ → List Event
events_at s bytes = events_in s.view s.queue bytes

-- after packets
unfoldable pub after_all : ClockedState → List (List ℕ) → ClockedState
after_all s [] = s
after_all s (bytes ∷ packets) = after_all (after_packet s bytes) packets

unfoldable pub events_all : ClockedState → List (List ℕ) → List Event
events_all s [] = []
events_all s (bytes ∷ packets) = events_at s bytes ++ events_all (after_packet s bytes) packets

-- the same for a packet with a sample of another clock, used for arrival in place of clock references, or without a sample
abbrev pub queue_with : QueueState → Option PcrSample → List ℕ → QueueState
queue_with q sample bytes = with_held (stepped_with q sample) (held_after (stepped_with q sample) (released_with q sample) ++ bytes ∷ [])

unfoldable pub sampled_in : ViewState → Option QueueState → Option PcrSample → List ℕ → ClockedState
sampled_in v None sample bytes = record { view = views.after_packet v bytes; queue = None }
sampled_in v (Some q) sample bytes = record {
  view = view_after v (stepped_with q sample) (released_with q sample);
  queue = Some (queue_with q sample bytes);
}

unfoldable pub sampled_events_in : ViewState → Option QueueState → Option PcrSample → List ℕ → List Event
sampled_events_in v None sample bytes = views.events_at v bytes
sampled_events_in v (Some q) sample bytes = events_after v (stepped_with q sample) (released_with q sample)

abbrev pub after_sampled : ClockedState → Option PcrSample → List ℕ → ClockedState
after_sampled s sample bytes = sampled_in s.view s.queue sample bytes

abbrev pub sampled_events : ClockedState → Option PcrSample → List ℕ → List Event
sampled_events s sample bytes = sampled_events_in s.view s.queue sample bytes

-- 3. At the end: waiting packets are viewed, and then the last events follow

unfoldable pub last_view : ViewState → Option QueueState → ViewState
last_view v None = v
last_view v (Some q) = view_with v q (last_arrival q)

unfoldable pub last_events : ViewState → Option QueueState → List Event
last_events v None = []
last_events v (Some q) = events_with v q (last_arrival q)

unfoldable pub queue_ended : Option QueueState → Option QueueState
queue_ended None = None
queue_ended (Some q) = Some (with_held q [])

abbrev pub ended : ClockedState → ClockedState
ended s = record { view = last_view s.view s.queue; queue = queue_ended s.queue }

abbrev pub end_events : ClockedState → ℕ → List Event
end_events s left = last_events s.view s.queue ++ views.end_events (last_view s.view s.queue) left

-- when the packet at an index arrives, as packets arrive now
abbrev pub moment_in : ClockedState → ℕ → Option ℕ
moment_in s index = moment_at s.view.seen.options index

abbrev pub is_clocked : ClockedState → Bool
is_clocked s = has_moments s.view.seen.options.arrival

-- nothing is wrong
abbrev pub is_good : ClockedState → ℕ → Bool
is_good s left = views.is_good (last_view s.view s.queue) left
