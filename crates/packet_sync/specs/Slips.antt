-- Where the step of packets is lost: packets of 188 bytes, each with a sync byte at its front (ISO/IEC 13818-1, 2.4.3.2).
use Rattle.std.specs.Prelude.{◌≤◌, ℕ, zero, suc, ◌+◌, ◌-◌, ◌*◌, ◌%◌, ◌==◌, ◌&&◌, ◌||◌, not, nat_lt, Bool, true, false, if◌then◌else◌, List, [], ◌∷◌, ◌++◌, length, drop}
use Rattle.std.specs.Prelude.{slice_get, slice_range, Option, None, Some}
use Rattle.std.specs.Option.{option_map_or}
use Rattle.packet_sync.specs.declared.slip.Slip.{Slip}

-- 1. Sync bytes

-- there is a sync byte at this place
unfoldable pub is_sync : List ℕ → ℕ → Bool
is_sync bs at = option_map_or (λ b. b == 71) (slice_get bs at) false

-- there is a sync byte at this place, or the stream ends before it
unfoldable pub is_next : List ℕ → ℕ → Bool
is_next bs at = option_map_or (λ b. b == 71) (slice_get bs at) true

-- three sync bytes in a row, `step` bytes apart, the first one there
unfoldable pub are_apart : List ℕ → ℕ → ℕ → Bool
are_apart bs at step = is_sync bs at && is_sync bs (at + step) && is_sync bs (at + 2 * step)

-- three packets in a row begin there
abbrev pub is_in_step : List ℕ → ℕ → Bool
is_in_step bs at = are_apart bs at 188

-- 2. A slip, among packets whose sync bytes are `step` bytes apart

-- the step continues after the sync byte at this place: with the next packet, or, if only the next packet's sync byte is damaged,
-- with the packets after it
unfoldable pub goes_on : List ℕ → ℕ → ℕ → Bool
goes_on bs at step = is_next bs (at + step) || are_apart bs (at + 2 * step) step

-- a new step begins `size` bytes after the place
unfoldable pub is_new_step : List ℕ → ℕ → ℕ → ℕ → Bool
is_new_step bs at step size = not (size % step == 0) && are_apart bs (at + size) step

-- the first of n sizes, from one on, after which a new step begins
unfoldable pub new_step : List ℕ → ℕ → ℕ → ℕ → ℕ → Option ℕ
new_step bs at step size zero = None
new_step bs at step size (suc n) = if is_new_step bs at step size then Some size else new_step bs at step (size + 1) n

-- how many bytes are left out from this place on: none if the step continues, or if no new step begins within four packets
unfoldable pub slip_by : List ℕ → ℕ → ℕ → Option ℕ
slip_by bs at step = if goes_on bs at step then None else new_step bs at step 1 (4 * step - 1)

-- the same for packets of 188 bytes
abbrev pub slip_size : List ℕ → ℕ → Option ℕ
slip_size bs at = slip_by bs at 188

-- 3. All slips: from a place on, with this number of packets before it, in at most n steps

-- a packet, or a slip, and then the slips after it
unfoldable pub slip_then : Option ℕ → ℕ → ℕ → (ℕ → ℕ → List Slip) → List Slip
slip_then None packet at after = after (packet + 1) (at + 188)
slip_then (Some size) packet at after = record { packet = packet; start = at; size = size } ∷ after packet (at + size)

unfoldable pub slips_from : ℕ → List ℕ → ℕ → ℕ → List Slip
slips_from zero bs packet at = []
slips_from (suc n) bs packet at = if nat_lt (length bs) (at + 188) then [] else slip_then (slip_size bs at) packet at (slips_from n bs)

-- each step takes a byte at least
unfoldable pub slips : List ℕ → List Slip
slips bs = slips_from (length bs) bs 0 0

-- 4. The bytes that are carried: all bytes in no slip

unfoldable pub carried_from : List ℕ → ℕ → List Slip → List ℕ
carried_from bs at [] = drop at bs
carried_from bs at (s ∷ ss) = slice_range bs at s.start ++ carried_from bs (s.start + s.size) ss

abbrev pub carried : List ℕ → List ℕ
carried bs = carried_from bs 0 (slips bs)

-- from a place on, slips follow one another within the stream
unfoldable pub AreOrdered : List ℕ → ℕ → List Slip → Type 0
AreOrdered bs at [] = at ≤ length bs
AreOrdered bs at (s ∷ ss) = (at ≤ s.start) × (s.start + s.size ≤ length bs) × AreOrdered bs (s.start + s.size) ss
