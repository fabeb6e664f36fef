-- Masks by PID that say which fields are noted.
use Rattle.std.specs.Prelude.{◌≡◌, ◌≢◌, ◌⊎◌, ◌<◌, ℕ, ◌==◌, List, length, slice_index}
use Rattle.std.specs.Int.{bit_at}
use Rattle.packet_sync.specs.FieldsLeftOut.{has_field}
use Rattle.packet_sync.specs.declared.left_out.FieldLeftOut.{FieldLeftOut}

-- in the mask of each PID the bit at the number of a field says whether the field is noted; no masks are made before the first field
pub record AreMasks (masks : List ℕ) (found : List FieldLeftOut) : Type 0 where
  pub size : (length masks ≡ 0) ⊎ (length masks ≡ 8192)
  pub each : (pid number : ℕ) → pid < 8192 → (bit_at (slice_index masks pid) number == 1) ≡ has_field found pid number

-- a mask with the bit at this number, and all else as before
abbrev pub SetsBit : ℕ → ℕ → ℕ → Type 0
SetsBit old number new = (bit_at new number ≡ 1) × ((i : ℕ) → i ≢ number → bit_at new i ≡ bit_at old i)
