-- Which slots a curve has, by the values that have come and nothing else.
--
-- Lists of values have the last one first.
use Rattle.std.specs.Prelude.{◌≡◌, ℕ, ◌+◌, ◌*◌, ◌/◌, ◌^◌, ◌==◌, ◌<◌, ◌≤◌, ◌⊎◌, max, List, [], ◌∷◌, Option, None}
use Rattle.page_curves.specs.declared.bounds.Bounds.{Bounds}
use Rattle.page_curves.specs.Bounds.{joined, value_if}
use Rattle.page_curves.specs.Slots.{CurveView, slot_at}

-- a value of a window, by the window's number
pub record Sample : Type 0 where
  pub number : ℕ
  pub value : ℕ

abbrev pub sample : ℕ → ℕ → Sample
sample number value = record { number = number; value = value }

-- the bounds of the values in a slot of `span` windows
unfoldable pub bounds_in : ℕ → ℕ → List Sample → Option Bounds
bounds_in span slot [] = None
bounds_in span slot (s ∷ earlier) = joined (value_if (s.number / span == slot) s.value) (bounds_in span slot earlier)

-- the number after the last window's
unfoldable pub next_of : List Sample → ℕ
next_of [] = 0
next_of (s ∷ earlier) = max (s.number + 1) (next_of earlier)

-- a slot has 1, 2, 4, .. windows: as few as needed for the windows below `next` to lie in 512 slots
pub record IsSpan (span next : ℕ) : Type 0 where
  pub power : (k : ℕ) × (span ≡ 2 ^ k)
  pub room : next ≤ 512 * span
  pub needed : (span ≡ 1) ⊎ (512 * span < 2 * next)

-- each slot has the bounds of its windows' values
pub record HasSlots (curve : CurveView) (samples : List Sample) (next : ℕ) : Type 0 where
  pub span : IsSpan curve.span next
  pub each : (slot : ℕ) → slot_at curve.slots slot ≡ bounds_in curve.span slot samples

-- the curve of these values
abbrev pub IsCurve : CurveView → List Sample → Type 0
IsCurve curve samples = HasSlots curve samples (next_of samples)
