-- Elements that move from one list to another by number.
use Rattle.std.specs.Prelude.{◌≡◌, ℕ, List, Option, Some, None, slice_get, option_map}
use Rattle.std.specs.Option.{option_or}

-- element k of a list, or, if it has a number in the other list, the element of that number there
abbrev pub taken_by : {X : Type 0} → List X → List X → ℕ → Option ℕ → Option X
taken_by to from k None = slice_get to k
taken_by to from k (Some i) = option_or (slice_get from i) (slice_get to k)

-- the same by a list of numbers
abbrev pub exchanged : {X : Type 0} → List X → List X → List (Option ℕ) → ℕ → Option X
exchanged to from numbers k = elim (slice_get numbers k) [ None ↦ slice_get to k | Some number ↦ taken_by to from k number ]

-- no number stands twice
abbrev pub IsOnce : List (Option ℕ) → Type 0
IsOnce numbers = (j k i : ℕ) → slice_get numbers j ≡ Some (Some i) → slice_get numbers k ≡ Some (Some i) → j ≡ k

-- each element of a list is what a function makes of the element of the other list with the same number
abbrev pub IsEach : {X Y : Type 0} → (ℕ → Y → X) → List Y → List X → Type 0
IsEach f ys xs = (k : ℕ) → slice_get xs k ≡ option_map (f k) (slice_get ys k)

-- each element that has a number by such a function is the one of that number
abbrev pub AreTaken : {X Y : Type 0} → (ℕ → Y → Option ℕ) → List Y → List X → List X → List X → Type 0
AreTaken before ys to from xs = (k : ℕ) → slice_get xs k ≡ elim (slice_get ys k) [ None ↦ slice_get to k | Some y ↦ taken_by to from k (before k y) ]
