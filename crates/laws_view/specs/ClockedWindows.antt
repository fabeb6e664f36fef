-- A report on packets that arrive by clock references: the streams that it has once each of them has been viewed, and what its lines `held` say.
use Rattle.std.specs.Prelude.{◌≡◌, ℕ, ◌^◌, ◌<◌, ◌==◌, true, false, List, [], ◌∷◌, ◌++◌, length, slice_get, Option, Some, None}
use Rattle.arrival.specs.declared.arrival.Arrival.{Arrival}
use Rattle.arrival.specs.declared.arrival.Arrival.TheVariants.{Unknown}
use Rattle.packet_times.specs.Waiting.{QueueState, last_arrival, released, stepped}
use Rattle.laws_view.specs.TimedPackets.{Timed, timed_packets}
use Rattle.ts_watch.specs.Choices.{RequestView}
use Rattle.ts_report.specs.ClockedViews.{ClockedState, clock_for}
use Rattle.ts_report.specs.ClockedViews as clocked
use Rattle.es_view.specs.Entries.{EntryState}
use Rattle.ts_report.specs.StreamTables.{TableState}
use Rattle.ts_report.specs.Views.{ViewState, after_packet, arriving, start}
use Rattle.laws_view.specs.HeldWindows.{BeginIn, HasHeld, options_then, window_entering}
use Rattle.laws_view.specs.TimedStreams.{view_by}
use Rattle.laws_view.specs.WindowLows.{HasPayload, SaysLow}

-- 1. The streams of a view after each of these packets

unfoldable pub tables_after : ViewState → List (List ℕ) → List TableState
tables_after s [] = []
tables_after s (bytes ∷ packets) = (after_packet s bytes).table ∷ tables_after (after_packet s bytes) packets

-- where they waited, as they arrive
abbrev pub tables_with : ViewState → QueueState → Arrival → List TableState
tables_with v q arrival = tables_after (arriving v arrival (length q.held)) q.held

-- if they do
unfoldable pub tables_released : ViewState → QueueState → Option Arrival → List TableState
tables_released v q None = []
tables_released v q (Some arrival) = tables_with v q arrival

unfoldable pub tables_in : ViewState → Option QueueState → List ℕ → List TableState
tables_in v None bytes = (after_packet v bytes).table ∷ []
tables_in v (Some q) bytes = tables_released v (stepped q bytes) (released q bytes)

-- the packets that still wait at the end of the stream arrive then
unfoldable pub last_tables : ViewState → Option QueueState → List TableState
last_tables v None = []
last_tables v (Some q) = tables_with v q (last_arrival q)

unfoldable pub tables_all : ClockedState → List (List ℕ) → List TableState
tables_all s [] = last_tables s.view s.queue
tables_all s (bytes ∷ packets) = tables_in s.view s.queue bytes ++ tables_all (clocked.after_packet s bytes) packets

-- the tables of streams in a report, to its end: the element at index i is the table after i packets have been viewed
abbrev pub report_tables : RequestView → List (List ℕ) → List TableState
report_tables request packets = (start request).table ∷ tables_all (clocked.start request) packets

-- 2. These are the tables after its packets one by one, each as it arrives

abbrev pub timed_in : RequestView → List (List ℕ) → List Timed
timed_in request packets = timed_packets (clock_for request.choice.programs) packets

abbrev pub ClockedTablesLaw : Type 0
ClockedTablesLaw = (request : RequestView) (packets : List (List ℕ)) (before later : List Timed) → request.options.arrival ≡ Unknown →
    timed_in request packets ≡ before ++ later → slice_get (report_tables request packets) (length before) ≡ Some (view_by (start request) before).table

-- 3. A stream in a window of it

-- a stream whose buffers have begun before the window, and whose last packet before it lies in an earlier window: e is its state after all
-- packets before the window, e' its state after the packets `now` as well
pub record OfClockedWindow (request : RequestView) (packets : List (List ℕ)) (before now later : List Timed) (window place : ℕ) (e e' : EntryState) : Type 0
  where
    pub unknown : request.options.arrival ≡ Unknown
    pub few : length packets < 2 ^ 64
    pub split : timed_in request packets ≡ before ++ (now ++ later)
    pub t : TableState
    pub before_it : slice_get (report_tables request packets) (length before) ≡ Some t
    pub begun : slice_get t.entries place ≡ Some e
    pub t' : TableState
    pub after_it : slice_get (report_tables request packets) (length (before ++ now)) ≡ Some t'
    pub come : slice_get t'.entries place ≡ Some e'
    pub other : (e.tally.window == window) ≡ false
    pub all : BeginIn (options_then request e before) window (length before) now

-- once the packets of the window have been viewed, its line `held` has the main buffer's least fullness while they come
abbrev pub ClockedWindowLaw : Type 0
ClockedWindowLaw = (request : RequestView) (packets : List (List ℕ)) (before now later : List Timed) (window place : ℕ) (e e' : EntryState) →
    OfClockedWindow request packets before now later window place e e' → HasPayload e.held (window_entering request before e now) →
    SaysLow e'.tally e.held (window_entering request before e now)

-- and if no byte of these enters the main buffer, what it still holds
abbrev pub ClockedWithoutLaw : Type 0
ClockedWithoutLaw = (request : RequestView) (packets : List (List ℕ)) (before now later : List Timed) (window place : ℕ) (e e' : EntryState) →
    OfClockedWindow request packets before now later window place e e' → (e'.tally.window == window) ≡ true →
    (HasPayload e.held (window_entering request before e now) → ⊥) → HasHeld e e' (window_entering request before e now)
