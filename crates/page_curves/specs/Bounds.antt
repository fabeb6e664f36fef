-- The least and the greatest of values, and their number.
use Rattle.std.specs.Prelude.{ℕ, ◌+◌, ◌-◌, ◌^◌, min, max, Bool, if◌then◌else◌, Option, Some, None}
use Rattle.page_curves.specs.declared.bounds.Bounds.{Bounds}

abbrev pub one_value : ℕ → Bounds
one_value value = record { count = 1; least = value; greatest = value }

-- their number stops at 2^64 - 1
abbrev pub both : Bounds → Bounds → Bounds
both a b = record { count = min (a.count + b.count) (2 ^ 64 - 1); least = min a.least b.least; greatest = max a.greatest b.greatest }

-- the bounds of all values of two sets, where either may have none
unfoldable pub joined : Option Bounds → Option Bounds → Option Bounds
joined None b = b
joined (Some a) None = Some a
joined (Some a) (Some b) = Some (both a b)

-- the bounds of one value, if it is in the set
abbrev pub value_if : Bool → ℕ → Option Bounds
value_if here value = if here then Some (one_value value) else None
