-- The greatest that a line `held` says of a main buffer: over the packets of a window, the greatest fullness of the buffer from their first
-- payload byte that enters it on. What the buffer holds before that byte enters may be more, and is not counted.
use Rattle.std.specs.Prelude.{◌≡◌, ℕ, ◌<◌, ◌≤◌, max, Bool, map, List, [], ◌∷◌, ◌++◌, None, All}
use Rattle.tstd_rows.specs.Held.{Held}
use Rattle.tstd_rows.specs.Entering.{EnteredView}
use Rattle.tstd_rows.specs.History.{Part, main_fullness, payload_left}
use Rattle.laws_view.specs.TimedPackets.{Timed}
use Rattle.ts_watch.specs.Choices.{RequestView}
use Rattle.es_view.specs.Entries.{EntryState}
use Rattle.es_events.specs.Tallies.{in_window}
use Rattle.es_events.specs.declared.tally.Tally.{Tally}
use Rattle.laws_view.specs.ClockedWindows.{OfClockedWindow}
use Rattle.laws_view.specs.HeldWindows.{OfRateWindow, OfWindow, window_entering, window_packets}
use Rattle.laws_view.specs.TimedStreams.{Entering, after_entering, entered_by, entering}
use Rattle.laws_view.specs.WindowLows.{HasPayload, SaysHeld, counted_each}

-- 1. Packets of a window

-- the greatest fullness of the main buffer at the entry of any byte of these packets, or `most` if that is greater
unfoldable pub most_after : ℕ → List EnteredView → ℕ
most_after most [] = most
most_after most (v ∷ vs) = most_after (max most v.main_most) vs

-- the greatest fullness of a window is the greatest over its packets, from the first packet on: before it, the window has none
abbrev pub WindowMostLaw : Type 0
WindowMostLaw = (t : Tally) (window : ℕ) (v : Bool × EnteredView) (vs : List (Bool × EnteredView)) → (in_window t window).window_main ≡ 0 →
    (counted_each t window (v ∷ vs)).window_main ≡ most_after 0 (map (λ w. w.1) (v ∷ vs))

-- n is the greatest value of f from the first of these moments on: no later value is greater, and f is n at one of the moments
pub record IsGreatestFrom (f : ℕ → ℕ) (moments : List ℕ) (n : ℕ) : Type 0 where
  pub never_more : (x : ℕ) → (All (λ t. x < t) moments → ⊥) → f x ≤ n
  pub first : List ℕ
  pub moment : ℕ
  pub others : List ℕ
  pub among : moments ≡ first ++ moment ∷ others
  pub reached : f moment ≡ n

-- n is the greatest fullness of the buffer, over all bytes, from the entry of the first payload byte of the parts `recent`, which come after the
-- parts `before`
pub record IsHigh (step : ℕ) (recent before : List Part) (n : ℕ) : Type 0 where
  -- the entries of the payload bytes of `recent`: all other bytes have entered before
  pub entries : List ℕ
  pub follow : payload_left step (recent ++ before) ≡ payload_left step before ++ entries
  pub later : All (λ e. All (λ d. d < e) (payload_left step before)) entries
  pub greatest : IsGreatestFrom (main_fullness step (recent ++ before)) entries n

-- packets bring the parts `recent`, and n is the greatest fullness of the main buffer from the first payload byte of these parts on
pub record IsHighWith (h : Held) (xs : List Entering) (n : ℕ) : Type 0 where
  pub recent : List Part
  pub come : (after_entering h xs).parts ≡ recent ++ h.parts
  pub high : IsHigh h.rate recent h.parts n

-- however packets arrive, if one of them has a payload byte that enters the main buffer
abbrev pub WindowHighLaw : Type 0
WindowHighLaw = (h : Held) (xs : List Entering) → 0 < h.rate → HasPayload h xs → IsHighWith h xs (most_after 0 (entered_by h xs))

-- a line says so for all packets of a window, if nothing of the window was counted before them and one of them carries payload
abbrev pub WholeHighLaw : Type 0
WholeHighLaw = (t : Tally) (window : ℕ) (h : Held) (xs : List Entering) (vs : List (Bool × EnteredView)) → 0 < h.rate →
    (in_window t window).window_main ≡ 0 → map (λ w. w.1) vs ≡ entered_by h xs → HasPayload h xs →
    IsHighWith h xs (counted_each t window vs).window_main

-- if no byte of these packets enters the main buffer, the window has no greatest fullness, and the line has the earlier bytes still in the buffer
abbrev pub HighWithoutLaw : Type 0
HighWithoutLaw = (t : Tally) (window : ℕ) (h : Held) (xs : List Entering) (v : Bool × EnteredView) (vs : List (Bool × EnteredView)) →
    (in_window t window).window_main ≡ 0 → (in_window t window).window_least ≡ None → map (λ w. w.1) (v ∷ vs) ≡ entered_by h xs →
    (HasPayload h xs → ⊥) → ((counted_each t window (v ∷ vs)).window_main ≡ 0) × SaysHeld (counted_each t window (v ∷ vs)) h xs

-- 2. In a report, at the end of a window before which the stream's buffers have begun

-- of packets that arrive in any way
abbrev pub TimedHighLaw : Type 0
TimedHighLaw = (request : RequestView) (before packets : List Timed) (window place : ℕ) (e e' : EntryState) →
    OfWindow request before packets window place e e' → 0 < e.held.rate → HasPayload e.held (window_entering request before e packets) →
    IsHighWith e.held (window_entering request before e packets) e'.tally.window_main

-- where all arrive alike, as at a constant rate
abbrev pub RateHighLaw : Type 0
RateHighLaw = (request : RequestView) (before packets : List (List ℕ)) (window place : ℕ) (e e' : EntryState) →
    OfRateWindow request before packets window place e e' → 0 < e.held.rate →
    HasPayload e.held (entering request.options.arrival (window_packets request before e packets)) →
    IsHighWith e.held (entering request.options.arrival (window_packets request before e packets)) e'.tally.window_main

-- and by clock references
abbrev pub ClockedHighLaw : Type 0
ClockedHighLaw = (request : RequestView) (packets : List (List ℕ)) (before now later : List Timed) (window place : ℕ) (e e' : EntryState) →
    OfClockedWindow request packets before now later window place e e' → HasPayload e.held (window_entering request before e now) →
    IsHighWith e.held (window_entering request before e now) e'.tally.window_main
