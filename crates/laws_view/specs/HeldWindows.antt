-- A line `held` of a whole window in a report: what its `main_least` is.
use Rattle.std.specs.Prelude.{◌≡◌, ℕ, ◌+◌, ◌^◌, ◌<◌, ◌≤◌, ◌==◌, true, false, List, [], ◌∷◌, ◌++◌, length, slice_get, Some, None}
use Rattle.arrival.specs.declared.arrival.Arrival.TheVariants.{AtRate}
use Rattle.tstd_rows.specs.declared.arriving.Arriving.{Arriving}
use Rattle.laws_view.specs.TimedPackets.{Timed}
use Rattle.es_events.specs.declared.view_options.ViewOptions.{ViewOptions}
use Rattle.ts_watch.specs.Choices.{RequestView}
use Rattle.es_events.specs.Clocks.{clock_of}
use Rattle.es_view.specs.Entries.{EntryState}
use Rattle.es_view.specs.HeldEvents.{main_held}
use Rattle.ts_report.specs.Seen.{with_arrival}
use Rattle.ts_report.specs.Views.{ViewState, after_all, start}
use Rattle.ts_watch.specs.WindowEvents.{window_of}
use Rattle.laws_view.specs.StreamPackets.{Before, seen_among}
use Rattle.laws_view.specs.TimedStreams.{Entering, entering, entering_among, followed_by, view_by}
use Rattle.laws_view.specs.WholeStreams.{followed}
use Rattle.laws_view.specs.WindowLows.{HasPayload, SaysLow, still_held}

-- what a view knows of a stream before the packets that come next
abbrev pub known_then : ViewState → EntryState → Before
known_then s e = record { index = s.seen.packets; clock = clock_of s.seen.clocks e.clock_pid; last = e.last }

-- 1. Packets that arrive in any way

-- the stream's packets among these, as its buffers see them
abbrev pub window_entering : RequestView → List Timed → EntryState → List Timed → List Entering
window_entering request before e packets = entering_among (followed_by (followed request e) before) (known_then (view_by (start request) before) e) packets

-- each of these packets begins in one window, by how it arrives; the first of them has this index
unfoldable pub BeginIn : ViewOptions → ℕ → ℕ → List Timed → Type 0
BeginIn options window index [] = Unit {0}
BeginIn options window index (p ∷ packets) =
    (window_of (with_arrival options p.arrival) index ≡ window) × BeginIn (with_arrival options p.arrival) window (index + 1) packets

-- how a stream is viewed after these packets
abbrev pub options_then : RequestView → EntryState → List Timed → ViewOptions
options_then request e before = (followed_by (followed request e) before).options

-- a stream whose buffers have begun before a window's first packet, and whose last packet before it lies in an earlier window: e is its state
-- after all packets before the window, e' its state after the window's packets `packets` as well
pub record OfWindow (request : RequestView) (before packets : List Timed) (window place : ℕ) (e e' : EntryState) : Type 0 where
  pub few : length before + length packets < 2 ^ 64
  pub begun : slice_get (view_by (start request) before).table.entries place ≡ Some e
  pub come : slice_get (view_by (start request) (before ++ packets)).table.entries place ≡ Some e'
  pub other : (e.tally.window == window) ≡ false
  pub all : BeginIn (options_then request e before) window (length before) packets

-- if one of the stream's packets among these carries payload, the line `held` has the least fullness of the main buffer while these packets come
abbrev pub TimedWindowLaw : Type 0
TimedWindowLaw = (request : RequestView) (before packets : List Timed) (window place : ℕ) (e e' : EntryState) →
    OfWindow request before packets window place e e' → 0 < e.held.rate → HasPayload e.held (window_entering request before e packets) →
    SaysLow e'.tally e.held (window_entering request before e packets)

-- the line has as its most and as its least the earlier bytes that the main buffer still holds when the last of these packets has left the
-- transport buffer
abbrev pub HasHeld : EntryState → EntryState → List Entering → Type 0
HasHeld e e' xs = main_held e'.tally.window_main e'.held e'.tally.window_least ≡ (still_held e.held xs, still_held e.held xs)

-- this holds if none of the stream's packets carries payload
abbrev pub TimedWithoutLaw : Type 0
TimedWithoutLaw = (request : RequestView) (before packets : List Timed) (window place : ℕ) (e e' : EntryState) →
    OfWindow request before packets window place e e' → (e'.tally.window == window) ≡ true →
    (HasPayload e.held (window_entering request before e packets) → ⊥) → HasHeld e e' (window_entering request before e packets)

-- the line for the window where a stream's buffers begin says 0: the buffers are empty before their first payload byte
abbrev pub FirstWindowLaw : Type 0
FirstWindowLaw = (request : RequestView) (before packets : List Timed) (window place : ℕ) (e : EntryState) → length before + length packets < 2 ^ 64 →
    slice_get (view_by (start request) before).table.entries place ≡ None →
    slice_get (view_by (start request) (before ++ packets)).table.entries place ≡ Some e →
    BeginIn (options_then request e before) window (length before) packets →
    (main_held e.tally.window_main e.held e.tally.window_least).1 ≡ 0

-- 2. At a constant rate

abbrev pub window_packets : RequestView → List (List ℕ) → EntryState → List (List ℕ) → List Arriving
window_packets request before e packets = seen_among (followed request e) (known_then (after_all (start request) before) e) packets

-- all packets of these indices lie in one window
abbrev pub LieIn : RequestView → ℕ → ℕ → ℕ → Type 0
LieIn request window first count = (i : ℕ) → first ≤ i → i < first + count → window_of request.options i ≡ window

-- the same of a stream and a window of packets that arrive so
pub record OfRateWindow (request : RequestView) (before packets : List (List ℕ)) (window place : ℕ) (e e' : EntryState) : Type 0 where
  pub few : length before + length packets < 2 ^ 64
  pub begun : slice_get (after_all (start request) before).table.entries place ≡ Some e
  pub come : slice_get (after_all (start request) (before ++ packets)).table.entries place ≡ Some e'
  pub other : (e.tally.window == window) ≡ false
  pub all : LieIn request window (length before) (length packets)

abbrev pub HeldWindowLaw : Type 0
HeldWindowLaw = (request : RequestView) (before packets : List (List ℕ)) (window place : ℕ) (e e' : EntryState) →
    OfRateWindow request before packets window place e e' → 0 < e.held.rate →
    HasPayload e.held (entering request.options.arrival (window_packets request before e packets)) →
    SaysLow e'.tally e.held (entering request.options.arrival (window_packets request before e packets))

abbrev pub RateWithoutLaw : Type 0
RateWithoutLaw = (request : RequestView) (rate : ℕ) (before packets : List (List ℕ)) (window place : ℕ) (e e' : EntryState) →
    OfRateWindow request before packets window place e e' → (e'.tally.window == window) ≡ true → request.options.arrival ≡ AtRate rate →
    (HasPayload e.held (entering (AtRate rate) (window_packets request before e packets)) → ⊥) →
    HasHeld e e' (entering (AtRate rate) (window_packets request before e packets))
