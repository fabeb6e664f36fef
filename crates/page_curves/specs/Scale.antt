-- Where a value and a slot lie in a picture, in its units.
use Rattle.std.specs.Prelude.{ℕ, ◌+◌, ◌-◌, ◌*◌, ◌/◌, ◌&&◌, min, max, nat_le, Bool, if◌then◌else◌, List, [], ◌∷◌}
use Rattle.page_curves.specs.declared.scale.TheConstants.{BOTTOM, GREATEST_VALUE, HEIGHT, LEFT, SCALES, WIDTH, ZERO}

-- the first of these that is not less, 10^15 at most
abbrev pub reaches : ℕ → ℕ → Bool
reaches scale greatest = nat_le greatest scale && nat_le scale GREATEST_VALUE

unfoldable pub scale_among : List ℕ → ℕ → ℕ
scale_among [] greatest = GREATEST_VALUE
scale_among (s ∷ scales) greatest = if reaches s greatest then min s GREATEST_VALUE else scale_among scales greatest

-- the least of 10, 20, 50, 100, .. that is not less
abbrev pub scale_for : ℕ → ℕ
scale_for greatest = scale_among SCALES greatest

-- how many slots of `span` windows it takes for all windows, 1 at least
abbrev pub slots_in : ℕ → ℕ → ℕ
slots_in windows span = (max windows 1 - 1) / span + 1

-- the middle of a slot among all slots
abbrev pub across : ℕ → ℕ → ℕ
across slots slot = LEFT + WIDTH * (2 * slot + 1) / (2 * slots)

-- how high a value lies on a scale that ends at `top`
abbrev pub height_of : ℕ → ℕ → ℕ
height_of top value = BOTTOM - HEIGHT * min value top / max top 1

-- a difference as a number: 5 * 10^14 is the difference 0
abbrev pub offset : ℕ → ℕ → ℕ
offset above below = ZERO + min above ZERO - below

abbrev pub above_zero : ℕ → ℕ
above_zero value = value - ZERO

abbrev pub below_zero : ℕ → ℕ
below_zero value = ZERO - value

-- how high it lies on a scale from `top` below 0 to `top` above 0
abbrev pub offset_height : ℕ → ℕ → ℕ
offset_height top value = BOTTOM - HEIGHT * min (top + min (above_zero value) top - below_zero value) (2 * top) / max (2 * top) 1

-- the value at a number of quarters of that scale above its bottom
abbrev pub quarter_of : ℕ → ℕ → ℕ
quarter_of top quarter = ZERO + top * min quarter 4 / 2 - top
