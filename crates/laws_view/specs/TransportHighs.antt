-- The greatest that a line `held` says of a transport buffer: over the packets of a window, the greatest fullness of the buffer from their first
-- byte that arrives on. What the buffer holds before that byte arrives may be more, and is not counted.
use Rattle.std.specs.Prelude.{◌≡◌, ℕ, ◌+◌, ◌<◌, ◌≤◌, ◌==◌, max, Bool, true, map, List, [], ◌∷◌, ◌++◌, length, All}
use Rattle.clock27.specs.Departure.{departures}
use Rattle.clock27.specs.Fullness.{fullness}
use Rattle.tstd_rows.specs.TransportLaws.{Rises}
use Rattle.arrival.specs.declared.arrival.Arrival.TheVariants.{AtRate}
use Rattle.tstd_rows.specs.Held.{Held}
use Rattle.tstd_rows.specs.Entering.{EnteredView}
use Rattle.tstd_rows.specs.History.{arrivals_of}
use Rattle.laws_view.specs.TimedPackets.{Timed}
use Rattle.ts_watch.specs.Choices.{RequestView}
use Rattle.es_view.specs.Entries.{EntryState}
use Rattle.es_events.specs.Tallies.{in_window}
use Rattle.es_events.specs.declared.tally.Tally.{Tally}
use Rattle.laws_view.specs.ClockedWindows.{OfClockedWindow}
use Rattle.laws_view.specs.HeldWindows.{OfRateWindow, OfWindow, window_entering, window_packets}
use Rattle.laws_view.specs.StreamPackets.{most_packets}
use Rattle.laws_view.specs.TimedStreams.{Entering, after_entering, entered_by, entering}
use Rattle.laws_view.specs.WindowHighs.{IsGreatestFrom}
use Rattle.laws_view.specs.WindowLows.{counted_each}

-- 1. Packets of a window

-- the greatest fullness of the transport buffer at the arrival of any byte of these packets, or `most` if that is greater
unfoldable pub transport_after : ℕ → List EnteredView → ℕ
transport_after most [] = most
transport_after most (v ∷ vs) = transport_after (max most v.transport_most) vs

-- the greatest fullness of a window is the greatest over its packets, from the first packet on
abbrev pub WindowTransportLaw : Type 0
WindowTransportLaw = (t : Tally) (window : ℕ) (v : Bool × EnteredView) (vs : List (Bool × EnteredView)) → (in_window t window).window_transport ≡ 0 →
    (counted_each t window (v ∷ vs)).window_transport ≡ transport_after 0 (map (λ w. w.1) (v ∷ vs))

-- bytes arrive at the times `all`, which begin with the times `before`, and n is the greatest fullness of the buffer, over all bytes, from the
-- first arrival after `before` on
pub record IsFull (step : ℕ) (before all : List ℕ) (n : ℕ) : Type 0 where
  pub arrived : List ℕ
  pub follow : all ≡ before ++ arrived
  pub greatest : IsGreatestFrom (λ x. fullness x all (departures step 0 all)) arrived n

-- the same for the bytes of packets, after all packets before them
abbrev pub IsFullWith : Held → List Entering → ℕ → Type 0
IsFullWith h xs n = IsFull h.rate (arrivals_of h.parts) (arrivals_of (after_entering h xs).parts) n

-- however packets arrive, if no byte arrives before an earlier byte. Without this premise the law is false: if two bytes arrive at 10 and then
-- at 0, and take 5 to leave, the second finds 4 bytes in the buffer, itself counted, which never holds more than 2
abbrev pub TransportHighLaw : Type 0
TransportHighLaw = (h : Held) (xs : List Entering) → 0 < h.rate → Rises 0 (arrivals_of (after_entering h xs).parts) →
    0 < transport_after 0 (entered_by h xs) → IsFullWith h xs (transport_after 0 (entered_by h xs))

-- if it is 0, no byte of these packets arrives
abbrev pub TransportWithoutLaw : Type 0
TransportWithoutLaw = (h : Held) (xs : List Entering) → transport_after 0 (entered_by h xs) ≡ 0 → arrivals_of (after_entering h xs).parts ≡ arrivals_of h.parts

-- 2. In a report, at the end of a window after the begin of the stream's buffers, if the window has a packet of the stream: otherwise the number
-- is an earlier window's, and this window has no line `held`

-- for packets that arrive in any way, if no byte arrives before an earlier byte
abbrev pub TimedTransportLaw : Type 0
TimedTransportLaw = (request : RequestView) (before packets : List Timed) (window place : ℕ) (e e' : EntryState) →
    OfWindow request before packets window place e e' → (e'.tally.window == window) ≡ true → 0 < e.held.rate →
    Rises 0 (arrivals_of (after_entering e.held (window_entering request before e packets)).parts) → 0 < e'.tally.window_transport →
    IsFullWith e.held (window_entering request before e packets) e'.tally.window_transport

-- packets arrive so at a constant rate, in the first 2^40 bytes; no later packet enters a buffer
abbrev pub RateTransportLaw : Type 0
RateTransportLaw = (request : RequestView) (rate : ℕ) (before packets : List (List ℕ)) (window place : ℕ) (e e' : EntryState) →
    OfRateWindow request before packets window place e e' → (e'.tally.window == window) ≡ true → request.options.arrival ≡ AtRate rate → 0 < rate →
    length before + length packets ≤ most_packets → 0 < e'.tally.window_transport →
    IsFullWith e.held (entering (AtRate rate) (window_packets request before e packets)) e'.tally.window_transport

-- and by clock references, for packets of 188 bytes: the payload of a longer packet could begin before the clock reference where the next line
-- of arrivals begins, and would arrive whole by the line before, after later packets
abbrev pub ClockedTransportLaw : Type 0
ClockedTransportLaw = (request : RequestView) (packets : List (List ℕ)) (before now later : List Timed) (window place : ℕ) (e e' : EntryState) →
    OfClockedWindow request packets before now later window place e e' → (e'.tally.window == window) ≡ true →
    All (λ bytes. length bytes ≡ 188) packets → length before + length now ≤ most_packets → 0 < e'.tally.window_transport →
    IsFullWith e.held (window_entering request before e now) e'.tally.window_transport
