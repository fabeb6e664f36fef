-- A table of PIDs.
use Rattle.std.specs.Prelude.{◌≡◌, ◌<◌, ℕ, Bool, false, List, slice_index_or}
use Rattle.stream_programs.specs.FreePids.{is_taken}

-- it has true for the PIDs that are taken, and for no other number of 16 bits
unfoldable pub MarksTaken : List Bool → List ℕ → Type 0
MarksTaken table taken = (pid : ℕ) → pid < 65536 → slice_index_or table pid false ≡ is_taken pid taken
