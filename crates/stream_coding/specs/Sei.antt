-- The SEI messages of ISO/IEC 14496-10 video, and the recovery point among them.
use Rattle.std.specs.Prelude.{ℕ, ◌+◌, ◌-◌, ◌%◌, ◌/◌, ◌^◌, ◌==◌, ◌&&◌, ◌||◌, nat_lt, min, Bool, true, false, if◌then◌else◌, List, [], ◌∷◌, fold, is_some}
use Rattle.stream_coding.specs.Rbsp.{rbsp_bytes}
use Rattle.stream_coding.specs.declared.sei.SeiPlace.{SeiPlace}
use Rattle.stream_coding.specs.declared.sei.SeiPlace.TheVariants.{AtType, InType, InSize, InPayload, AtRecoveryPoint}

-- 1. A NAL unit

-- no NAL unit has three bytes 00 00 00 or 00 00 01: the first such place is after its last byte (7.4.1, annex B)
unfoldable pub ends_nal : List ℕ → Bool
ends_nal (a ∷ b ∷ c ∷ rest) = a == 0 && b == 0 && nat_lt c 2
ends_nal _ = false

-- the bytes of the NAL unit that has the first of these
unfoldable pub nal_bytes : List ℕ → List ℕ
nal_bytes [] = []
nal_bytes (b ∷ bs) = if ends_nal (b ∷ bs) then [] else b ∷ nal_bytes bs

-- 2. The place of the next byte of messages

-- the place after payloadSize, or after a byte of the payload; after its last byte the next message begins
unfoldable pub in_payload : ℕ → SeiPlace
in_payload left = if left == 0 then AtType else InPayload left

-- a size in 64 bits at most
abbrev pub longer : ℕ → ℕ → ℕ
longer size more = min (size + more) (2 ^ 64 - 1)

-- the place after one more byte of an SEI RBSP (7.3.2.3.1): payloadType and payloadSize are each 255 for each byte FF and the byte
-- after these. payloadType of a recovery point is 6 (D.1.1)
unfoldable pub next_place : SeiPlace → ℕ → SeiPlace
next_place AtType byte = if byte == 6 then AtRecoveryPoint else (if byte == 255 then InType else InSize 0)
next_place InType byte = if byte == 255 then InType else InSize 0
next_place (InSize size) byte = if byte == 255 then InSize (longer size 255) else in_payload (longer size byte)
next_place (InPayload left) byte = in_payload (left - 1)
next_place AtRecoveryPoint byte = AtRecoveryPoint

unfoldable pub is_recovery_point : SeiPlace → Bool
is_recovery_point AtRecoveryPoint = true
is_recovery_point _ = false

-- the messages from a place on, of a NAL unit's bytes without its emulation prevention bytes
unfoldable pub place_after : SeiPlace → List ℕ → SeiPlace
place_after place bytes = fold next_place place (rbsp_bytes (nal_bytes bytes))

-- a recovery point is among the messages that begin with the first of these bytes
abbrev pub has_recovery_point : List ℕ → Bool
has_recovery_point bytes = is_recovery_point (place_after AtType bytes)
