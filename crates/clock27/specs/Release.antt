-- Slots and the release of a unit: slot s of an output of R bits a second begins at s * slot_units_at_1bps / R units of 90
-- kHz.
use Rattle.std.specs.Prelude.{ℕ, ◌+◌, ◌-◌, ◌*◌, ◌/◌, ◌≤◌}
use Rattle.clock27.specs.Units.{slot_units_at_1bps}

-- the first slot that begins at `moment` units of 90 kHz or later
pub record IsReleaseSlot (rate moment slot : ℕ) : Type 0 where
  pub reached : moment * rate ≤ slot * slot_units_at_1bps
  pub first : (s : ℕ) → moment * rate ≤ s * slot_units_at_1bps → slot ≤ s

-- that slot for a unit due at `due`, which may be sent from `lead` before
abbrev pub release : ℕ → ℕ → ℕ → ℕ
release rate lead due = ((due - lead) * rate + (slot_units_at_1bps - 1)) / slot_units_at_1bps
