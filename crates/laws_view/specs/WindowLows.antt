-- The least fullness of a main buffer in the line `held` of a window. If a packet of the window carries payload: the least fullness while the
-- window's packets come. If none does: the line's most and least are the fullness when the window's last packet has left the transport buffer.
use Rattle.std.specs.Prelude.{◌≡◌, ◌⊎◌, ℕ, ◌<◌, Bool, true, map, List, [], ◌∷◌, ◌++◌, Option, Some, None}
use Rattle.tstd_rows.specs.Held.{Held}
use Rattle.tstd_rows.specs.Entering.{EnteredView, after, size_of, takes_in}
use Rattle.tstd_rows.specs.History.{Part, last_of, main_fullness}
use Rattle.tstd_rows.specs.Lows.{IsLow, least_of_both}
use Rattle.es_view.specs.HeldEvents.{main_held}
use Rattle.es_events.specs.Tallies.{tally_after}
use Rattle.es_events.specs.Tallies.{in_window}
use Rattle.es_events.specs.declared.tally.Tally.{Tally}
use Rattle.laws_view.specs.TimedStreams.{Entering, after_entering, entered_by}

-- the least fullness of the main buffer at the entry of any byte of these packets, or `least` if that is less
unfoldable pub least_after : Option ℕ → List EnteredView → Option ℕ
least_after least [] = least
least_after least (v ∷ vs) = least_after (least_of_both least v.main_least) vs

-- the counts of a stream after packets of one window have entered, each with whether its PES header could not be read
unfoldable pub counted_each : Tally → ℕ → List (Bool × EnteredView) → Tally
counted_each t window [] = t
counted_each t window (v ∷ vs) = counted_each (tally_after t window v.0 v.1) window vs

-- the least fullness of a window is the least over its packets, from the first packet on: before it, the window has none
abbrev pub WindowLeastLaw : Type 0
WindowLeastLaw = (t : Tally) (window : ℕ) (v : Bool × EnteredView) (vs : List (Bool × EnteredView)) → (in_window t window).window_least ≡ None →
    (counted_each t window (v ∷ vs)).window_least ≡ least_after None (map (λ w. w.1) (v ∷ vs))

-- packets bring the parts `recent`, and n is the least fullness of the main buffer while these packets come
pub record IsLowWith (h : Held) (xs : List Entering) (n : ℕ) : Type 0 where
  pub recent : List Part
  pub come : (after_entering h xs).parts ≡ recent ++ h.parts
  pub low : IsLow h.rate recent h.parts n

-- however packets arrive
abbrev pub WindowLowLaw : Type 0
WindowLowLaw = (h : Held) (xs : List Entering) (n : ℕ) → 0 < h.rate → least_after None (entered_by h xs) ≡ Some n → IsLowWith h xs n

-- one of the packets has a payload byte that enters the main buffer
unfoldable pub HasPayload : Held → List Entering → Type 0
HasPayload h [] = ⊥
HasPayload h (x ∷ xs) =
    ((takes_in h x.arrival x.packet ≡ true) × (x.packet.enters ≡ true) × (0 < size_of x.packet)) ⊎ HasPayload (after h x.arrival x.packet) xs

-- what a line with `main_least` n says about the packets of a window: n is the least fullness of the buffer while these packets come
pub record SaysLow (t : Tally) (h : Held) (xs : List Entering) : Type 0 where
  pub n : ℕ
  pub said : t.window_least ≡ Some n
  pub low : IsLowWith h xs n

-- a line says so for all packets of a window, if nothing of the window was counted before them and one of them carries payload
abbrev pub WholeWindowLaw : Type 0
WholeWindowLaw = (t : Tally) (window : ℕ) (h : Held) (xs : List Entering) (vs : List (Bool × EnteredView)) → 0 < h.rate →
    (in_window t window).window_least ≡ None → map (λ w. w.1) vs ≡ entered_by h xs → HasPayload h xs → SaysLow (counted_each t window vs) h xs

-- how many of the bytes before these packets a main buffer still holds when the last byte of these packets has left the transport buffer
abbrev pub still_held : Held → List Entering → ℕ
still_held h xs = main_fullness h.rate h.parts (last_of h.rate (after_entering h xs).parts)

-- a line has this fullness as its most and as its least
abbrev pub SaysHeld : Tally → Held → List Entering → Type 0
SaysHeld t h xs = main_held t.window_main (after_entering h xs) t.window_least ≡ (still_held h xs, still_held h xs)

-- this holds if no byte of these packets enters the main buffer
abbrev pub WindowWithoutLaw : Type 0
WindowWithoutLaw = (t : Tally) (window : ℕ) (h : Held) (xs : List Entering) (v : Bool × EnteredView) (vs : List (Bool × EnteredView)) →
    (in_window t window).window_least ≡ None → map (λ w. w.1) (v ∷ vs) ≡ entered_by h xs → least_after None (entered_by h xs) ≡ None →
    SaysHeld (counted_each t window (v ∷ vs)) h xs
