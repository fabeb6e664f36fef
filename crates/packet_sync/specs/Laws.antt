-- Laws of slips.
use Rattle.std.specs.Prelude.{◌≡◌, ◌<◌, ◌+◌, ◌*◌, ℕ, List, [], ◌∷◌, length, slice_get, Some}
use Rattle.packet_sync.specs.Slips.{slips, carried}
use Rattle.packet_sync.specs.declared.slip.Slip.{Slip}

-- a packet begins each 188 bytes, to the end
abbrev pub IsInStep : List ℕ → Type 0
IsInStep bs = (i : ℕ) → i * 188 < length bs → slice_get bs (i * 188) ≡ Some 71

abbrev pub CarriedInStep : Type 0
CarriedInStep = (bs : List ℕ) → IsInStep bs → (slips bs ≡ []) × (carried bs ≡ bs)

-- the bytes of slips
unfoldable pub slipped : List Slip → ℕ
slipped [] = 0
slipped (s ∷ ss) = s.size + slipped ss

abbrev pub NothingElseIsLeftOut : Type 0
NothingElseIsLeftOut = (bs : List ℕ) → length (carried bs) + slipped (slips bs) ≡ length bs
