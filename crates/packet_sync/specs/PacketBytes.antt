-- The packets of 188 bytes of a stream whose packets are of another size.
use Rattle.std.specs.Prelude.{◌≡◌, ℕ, zero, suc, ◌+◌, ◌-◌, ◌*◌, nat_lt, if◌then◌else◌, Bool, true, List, [], ◌∷◌, ◌++◌, length, drop, replicate}
use Rattle.std.specs.Prelude.{slice_range, Option, None, Some}
use Rattle.packet_sync.specs.OtherPackets.{front_of, other_packets, size_of}
use Rattle.packet_sync.specs.Slips.{slip_by}
use Rattle.packet_sync.specs.declared.packet_sizes.OtherPackets.{OtherPackets}

-- 1. The next bytes of such a stream

-- the bytes that are left out if the step is lost after the packet at the front
abbrev pub next_slip : OtherPackets → List ℕ → Option ℕ
next_slip other bs = slip_by bs (front_of other) (size_of other)

-- bytes that are left out: so many bytes with a sync byte at their front, which are no packet
abbrev pub blank : ℕ → List ℕ
blank size = 71 ∷ replicate (size - 1) 0

-- the 188 bytes of the packet at the front; or bytes that are left out
unfoldable pub next_bytes : Option ℕ → OtherPackets → List ℕ → List ℕ
next_bytes None other bs = slice_range bs (front_of other) (front_of other + 188)
next_bytes (Some size) other bs = blank size

-- how many bytes of the stream they are
unfoldable pub next_size : Option ℕ → OtherPackets → ℕ
next_size None other = size_of other
next_size (Some size) other = size

-- 2. All bytes

-- in at most n steps
unfoldable pub inner_in : ℕ → OtherPackets → List ℕ → List ℕ
inner_in zero other bs = drop (front_of other) bs
inner_in (suc n) other bs =
    if nat_lt (length bs) (front_of other + 188) then drop (front_of other) bs
    else next_bytes (next_slip other bs) other bs ++ inner_in n other (drop (next_size (next_slip other bs) other) bs)

-- each step takes a byte at least
abbrev pub inner_bytes : OtherPackets → List ℕ → List ℕ
inner_bytes other bs = inner_in (length bs) other bs

-- as packets of 188 bytes; of such packets all bytes
unfoldable pub packet_bytes : Option OtherPackets → List ℕ → List ℕ
packet_bytes None bs = bs
packet_bytes (Some other) bs = inner_bytes other bs

-- a stream as packets of 188 bytes
unfoldable pub packets_in : List ℕ → List ℕ
packets_in bytes = packet_bytes (other_packets bytes) bytes

-- 3. A stream whose bytes arrive piece by piece

-- these packets, whatever bytes follow: the stream's packets are these and those of the bytes after the first `used` ones
abbrev pub AreNext : Option OtherPackets → List ℕ → List ℕ → List ℕ → ℕ → Type 0
AreNext other bytes more packets used = packet_bytes other (bytes ++ more) ≡ packets ++ packet_bytes other (drop used bytes ++ more)

-- with `ended` no more bytes follow
abbrev pub AreInner : Option OtherPackets → List ℕ → Bool → List ℕ → ℕ → Type 0
AreInner other bytes ended packets used = (more : List ℕ) → (ended ≡ true → more ≡ []) → AreNext other bytes more packets used

-- the bytes that decide whether the step continues after the packet at the front
abbrev pub decisive : OtherPackets → Bool → ℕ
decisive other ended = front_of other + (if ended then 188 else 6 * size_of other)
