-- Histories of things that come one after another, with the last one first.
use Rattle.std.specs.Prelude.{◌≡◌, true, Bool, List, [], ◌∷◌, ◌++◌, filter, Option}
use Rattle.std.specs.List.{cons_option}

-- `before` comes before `item`, is like it, and nothing between them is like it
pub record Follows {X : Type 0} (like : X → X → Bool) (history : List X) (before item : X) : Type 0 where
  pub later : List X
  pub between : List X
  pub earlier : List X
  pub parts : history ≡ later ++ item ∷ (between ++ before ∷ earlier)
  pub alike : like item before ≡ true
  pub none_between : filter (like item) between ≡ []

-- what the items give, if each gives something or nothing after the items before it
unfoldable pub given_by : {X Y : Type 0} → (List X → X → Option Y) → List X → List Y
given_by give [] = []
given_by give (item ∷ earlier) = cons_option (give earlier item) (given_by give earlier)
