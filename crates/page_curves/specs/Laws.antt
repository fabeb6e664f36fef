-- What the slots of a curve say of its values.
use Rattle.std.specs.Prelude.{◌≡◌, ℕ, ◌/◌, ◌≤◌, ◌⊎◌, List, [], ◌∷◌, Option, Some, None}
use Rattle.page_curves.specs.declared.bounds.Bounds.{Bounds}
use Rattle.page_curves.specs.Slots.{CurveView, slot_at}
use Rattle.page_curves.specs.Curves.{IsCurve, Sample}

-- a value is among the values
unfoldable pub IsAmong : List Sample → Sample → Type 0
IsAmong [] s = ⊥
IsAmong (first ∷ earlier) s = (first ≡ s) ⊎ IsAmong earlier s

unfoldable pub IsWithin : ℕ → Option Bounds → Type 0
IsWithin value None = ⊥
IsWithin value (Some b) = (b.least ≤ value) × (value ≤ b.greatest)

-- each value lies within the bounds of the slot of its window
abbrev pub ValueLaw : Type 0
ValueLaw = (curve : CurveView) (samples : List Sample) → IsCurve curve samples → (s : Sample) → IsAmong samples s →
    IsWithin s.value (slot_at curve.slots (s.number / curve.span))

-- a value of a window in a slot
pub record TakesOn (samples : List Sample) (span slot value : ℕ) : Type 0 where
  pub one : Sample
  pub among : IsAmong samples one
  pub here : one.number / span ≡ slot
  pub value_is : one.value ≡ value

-- both bounds of a slot are values of its windows
abbrev pub BoundLaw : Type 0
BoundLaw = (curve : CurveView) (samples : List Sample) → IsCurve curve samples → (slot : ℕ) (b : Bounds) → slot_at curve.slots slot ≡ Some b →
    TakesOn samples curve.span slot b.least × TakesOn samples curve.span slot b.greatest
