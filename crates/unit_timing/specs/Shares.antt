-- Shares of the slots of an output.
use Rattle.std.specs.Prelude.{ℕ, ◌^◌}

-- shares are counted in this number of parts of all slots
abbrev pub parts : ℕ
parts = 2 ^ 40
