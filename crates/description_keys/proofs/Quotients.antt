-- A quotient is at most the number that is divided.
use Rattle.std.proofs.Common.{ℕ, ◌≤◌, ◌/◌}
use Rattle.std.proofs.Math.Nat.{div-le_self}

pub quotient_most : (a b : ℕ) → a / b ≤ a
quotient_most a b = div-le_self a b
