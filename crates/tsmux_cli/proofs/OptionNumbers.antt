-- The number of an option, in the range of a field.
use Rattle.std.proofs.Common.{◌≤◌, ◌<◌, ℕ, Option, Some, None, arith}
use Rattle.std.specs.Prelude.{IfSome}

pub fits_pid : (o : Option ℕ) → IfSome o (λ n. n ≤ 8190) → IfSome o (λ n. n < 8192)
fits_pid None h = tt
fits_pid (Some n) h = omega (arith, h)
