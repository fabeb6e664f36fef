-- Properties of a device whose failed calls are counted.
use Rattle.std.specs.Prelude.{◌≡◌, ◌⊎◌, ℕ, ◌+◌, ◌-◌, ◌^◌, ◌<◌, ◌≤◌, min, List, length, take, drop, Option, Some, Result, Ok, Err, MatchResult}
use Rattle.counted_io.specs.declared.fault.DeviceFault.{DeviceFault}

-- where a count of 64 bits stops
abbrev pub last_count : ℕ
last_count = 2 ^ 64 - 1

-- one more failure: the count rises by one, or stays at its last value
abbrev pub CountsOne : ℕ → ℕ → Type 0
CountsOne old new = (new ≡ old + 1) ⊎ ((new ≡ old) × (old ≡ last_count))

-- a call that failed is counted, and a call that did not fail is not
abbrev pub CountsFailure : {V E : Type 0} → ℕ → ℕ → Result V E → Type 0
CountsFailure old new result = MatchResult result (λ _. new ≡ old) (λ _. CountsOne old new)

-- a call failed in between: the count rose, or it is at its last value
abbrev pub Failed : ℕ → ℕ → Type 0
Failed old new = (old < new) ⊎ ((new ≡ old) × (old ≡ last_count))

-- how many bytes of a part of this size were written
abbrev pub taken_of : {V : Type 0} → Result V DeviceFault → ℕ → ℕ
taken_of (Ok _) size = size
taken_of (Err fault) size = fault.taken

-- the first n bytes of the part are the first n bytes of xs, and the rest of xs is left
pub record IsFront (xs : List ℕ) (left : Option (List ℕ)) (part : List ℕ) (n : ℕ) : Type 0 where
  pub front : take n part ≡ take n xs
  pub rest : left ≡ Some (drop n xs)

-- what a read of a part of xs gave: as much as both have, or a front of it
abbrev pub ReadsPart : List ℕ → Option (List ℕ) → List ℕ → Result ℕ DeviceFault → Type 0
ReadsPart xs left part (Ok n) = (n ≡ min (length part) (length xs)) × IsFront xs left part n
ReadsPart xs left part (Err fault) = (fault.taken ≤ length xs) × IsFront xs left part fault.taken
