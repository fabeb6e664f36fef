-- The slots of a curve: each has the bounds of the values in its successive windows, the same number in each slot.
use Rattle.std.specs.Prelude.{ℕ, max, List, [], ◌∷◌, Option, Some, None}
use Rattle.std.specs.List.{slice_index_or}
use Rattle.page_curves.specs.declared.bounds.Bounds.{Bounds}

pub record CurveView : Type 0 where
  pub span : ℕ
  pub slots : List (Option Bounds)

-- a slot; past the last one there are no values
abbrev pub slot_at : List (Option Bounds) → ℕ → Option Bounds
slot_at slots i = slice_index_or slots i None

-- the greatest value of a slot, and of all slots; 0 if there is no value
unfoldable pub greatest_in : Option Bounds → ℕ
greatest_in None = 0
greatest_in (Some b) = b.greatest

unfoldable pub greatest_of : List (Option Bounds) → ℕ
greatest_of [] = 0
greatest_of (b ∷ slots) = max (greatest_in b) (greatest_of slots)
