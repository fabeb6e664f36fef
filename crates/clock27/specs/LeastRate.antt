-- The least rate at which an output has slots enough for what it carries.
use Rattle.std.specs.Prelude.{◌≡◌, ℕ, ◌<◌, ◌≤◌, Bool, true, false}
use Rattle.clock27.specs.declared.rate.TheConstants.{GREATEST_RATE}

-- an output without slots enough has not enough at a lower rate either
abbrev pub IsMonotone : (ℕ → Bool) → Type 0
IsMonotone has_slots = (lower higher : ℕ) → 0 < lower → lower ≤ higher → has_slots higher ≡ false → has_slots lower ≡ false

-- the least rate from `from` on that has slots enough
pub record IsLeastRate (has_slots : ℕ → Bool) (from rate : ℕ) : Type 0 where
  pub low : from ≤ rate
  pub high : rate ≤ GREATEST_RATE
  pub enough : has_slots rate ≡ true
  pub least : (r : ℕ) → from ≤ r → r < rate → has_slots r ≡ false

-- no rate from `from` on has slots enough
abbrev pub HasNoRate : (ℕ → Bool) → ℕ → Type 0
HasNoRate has_slots from = (r : ℕ) → from ≤ r → r ≤ GREATEST_RATE → has_slots r ≡ false
