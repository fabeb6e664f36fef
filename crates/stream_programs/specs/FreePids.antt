-- PIDs that are free.
use Rattle.std.specs.Prelude.{◌≡◌, ◌≤◌, ◌<◌, ◌-◌, ℕ, ◌==◌, not, Bool, true, false, List, Option}
use Rattle.std.specs.List.{list_any, find, range_with_len}

unfoldable pub is_taken : ℕ → List ℕ → Bool
is_taken pid taken = list_any (λ other. other == pid) taken

-- all PIDs from one to before another are taken
abbrev pub AreTaken : ℕ → ℕ → List ℕ → Type 0
AreTaken from to taken = (pid : ℕ) → from ≤ pid → pid < to → is_taken pid taken ≡ true

-- the first PID that is not taken, among the PIDs that a stream may have
pub record IsLeastFree (from : ℕ) (taken : List ℕ) (pid : ℕ) : Type 0 where
  pub after : from ≤ pid
  pub below : pid < 8191
  pub free : is_taken pid taken ≡ false
  pub least : AreTaken from pid taken

-- the same as a function: the first of 8,190 at most
unfoldable pub least_free : ℕ → List ℕ → Option ℕ
least_free from taken = find (λ pid. not (is_taken pid taken)) (range_with_len from (8191 - from))
