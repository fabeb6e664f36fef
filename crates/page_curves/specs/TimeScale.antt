-- A scale of times in round steps, in ms.
use Rattle.std.specs.Prelude.{ℕ, ◌*◌, ◌&&◌, min, nat_le, nat_lt, Bool, if◌then◌else◌, List, [], ◌∷◌, codes}
use Rattle.page_curves.specs.declared.time_scale.TimeUnit.{TimeUnit}
use Rattle.page_curves.specs.declared.time_scale.TimeUnit.TheVariants.{Millis, Seconds, Minutes, Hours}
use Rattle.page_curves.specs.declared.time_scale.TheConstants.{LONGEST_STEP, STEPS}

-- the first step whose sixfold reaches this length, a day at most; a day if no step does
abbrev pub reaches : ℕ → ℕ → Bool
reaches step length = nat_le step LONGEST_STEP && nat_le length (step * 6)

unfoldable pub step_among : List ℕ → ℕ → ℕ
step_among [] length = LONGEST_STEP
step_among (s ∷ steps) length = if reaches s length then min s LONGEST_STEP else step_among steps length

abbrev pub step_for : ℕ → ℕ
step_for length = step_among STEPS length

-- the unit of the multiples of a step: the greatest that is not greater
abbrev pub unit_of : ℕ → TimeUnit
unit_of step = if nat_lt step 1000 then Millis else (if nat_lt step 60000 then Seconds else (if nat_lt step 3600000 then Minutes else Hours))

unfoldable pub unit_millis : TimeUnit → ℕ
unit_millis Millis = 1
unit_millis Seconds = 1000
unit_millis Minutes = 60000
unit_millis Hours = 3600000

unfoldable pub unit_name : TimeUnit → List ℕ
unit_name Millis = codes "ms"
unit_name Seconds = codes "s"
unit_name Minutes = codes "min"
unit_name Hours = codes "h"
