-- The greatest fullness of a buffer over all moments.
use Rattle.std.specs.Prelude.{◌≡◌, ℕ, suc, ◌+◌, ◌-◌, ◌/◌, ◌<◌, ◌≤◌, max, List, [], ◌∷◌}
use Rattle.clock27.specs.Arrival.{arrivals}
use Rattle.clock27.specs.Departure.{departures}
use Rattle.clock27.specs.Fullness.{fullness}

-- n is the greatest f over all moments: none is greater, and it is reached
pub record IsPeak (f : ℕ → ℕ) (n : ℕ) : Type 0 where
  pub never_more : (x : ℕ) → f x ≤ n
  pub moment : ℕ
  pub reached : f moment ≡ n

-- these times rise, none is before `from`, and no two are equal
unfoldable pub Climbs : ℕ → List ℕ → Type 0
Climbs from [] = Unit {0}
Climbs from (t ∷ ts) = (from ≤ t) × Climbs (suc t) ts

-- the greatest f at these times
unfoldable pub greatest_at : (ℕ → ℕ) → List ℕ → ℕ
greatest_at f [] = 0
greatest_at f (t ∷ ts) = max (f t) (greatest_at f ts)

-- the bytes that are there when a byte arrives at t, where the one before it leaves at `prev`, and itself
abbrev pub found : ℕ → ℕ → ℕ → ℕ
found step prev t = ((prev - t) + (step - 1)) / step + 1

-- the most that any byte finds, in one pass over the arrivals
unfoldable pub most_found : ℕ → ℕ → List ℕ → ℕ
most_found step prev [] = 0
most_found step prev (t ∷ ts) = max (found step prev t) (most_found step (max t prev + step) ts)

-- that is the greatest fullness
abbrev pub PeakLaw : Type 0
PeakLaw = (step from : ℕ) (ts : List ℕ) → 0 < step → Climbs from ts → IsPeak (λ x. fullness x ts (departures step 0 ts)) (most_found step 0 ts)

-- the bytes of packets one after another arrive one after another
abbrev pub ArrivalsClimb : Type 0
ArrivalsClimb = (r : ℕ) (slots : List ℕ) → 0 < r → Climbs 0 slots → Climbs 0 (arrivals r slots)

-- and leave so
abbrev pub DeparturesClimb : Type 0
DeparturesClimb = (step prev : ℕ) (ts : List ℕ) → 0 < step → Climbs (suc prev) (departures step prev ts)
