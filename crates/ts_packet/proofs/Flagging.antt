-- The parts that an adaptation field has
use Rattle.std.proofs.Common.{◌≡◌, Option, Some, None, is_some, refl}
use Rattle.std.specs.Option.{option_map}

-- The view of a part is there exactly if the part is.
pub is_some-option_map : {A B : Type 0} (f : A → B) (o : Option A) → is_some (option_map f o) ≡ is_some o
is_some-option_map f None = refl
is_some-option_map f (Some x) = refl

pub ruleset announced = (is_some-option_map)
