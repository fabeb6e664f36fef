-- When bytes leave a main buffer, or an elementary stream buffer.
use Rattle.std.specs.Prelude.{ℕ, ◌+◌, ◌-◌, ◌*◌, ◌/◌}
use Rattle.clock27.specs.Units.{byte_units_at_1bps}

-- the first moment, in units of 8 / (rate * rx) seconds, at which the bytes of a unit due at `due` units of 90 kHz are
-- removed
abbrev pub removal_time : ℕ → ℕ → ℕ → ℕ
removal_time rate rx due = (due * rate * rx + (byte_units_at_1bps - 1)) / byte_units_at_1bps

-- the last moment that is not after the stamp of such a unit
abbrev pub due_moment : ℕ → ℕ → ℕ → ℕ
due_moment rate rx due = due * rate * rx / byte_units_at_1bps
