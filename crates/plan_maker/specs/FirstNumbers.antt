-- Tests of the first n numbers, in the shape of a loop.
use Rattle.std.specs.Prelude.{ℕ, zero, suc, ◌&&◌, Bool, true, Option, Some, None, if◌then◌else◌}

-- whether 0 .. n - 1 all pass
unfoldable pub every : ℕ → (ℕ → Bool) → Bool
every zero f = true
every (suc n) f = every n f && f n

-- the least of 0 .. n - 1 that passes
unfoldable pub first_of : ℕ → (ℕ → Bool) → Option ℕ
first_of zero f = None
first_of (suc n) f = elim (first_of n f) [
  | Some x ↦ Some x
  | None ↦ if f n then Some n else None
]
