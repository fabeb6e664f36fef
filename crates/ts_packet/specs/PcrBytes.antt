-- The place of a program clock reference in a packet, and comparing packets without it.
use Rattle.std.specs.Prelude.{◌≡◌, ℕ, ◌+◌, Bool, true, false, List, ◌++◌, take, drop, Option, Some, is_some}
use Rattle.clock27.specs.Reference.{Reference}
use Rattle.ts_packet.specs.Views.{FieldView, AdaptationView, WithFlags, PacketView}
use Rattle.ts_packet.specs.Syntax.{IsPacket, IsReference}

-- the number of bytes before it: the header, adaptation_field_length and the flags (ISO/IEC 13818-1, 2.4.3.2 and 2.4.3.4)
abbrev pub pcr_offset : ℕ
pcr_offset = 6

-- its own bytes: 33 bits, 6 reserved bits and 9 bits (2.4.3.4)
abbrev pub pcr_size : ℕ
pcr_size = 6

-- an adaptation field has a program clock reference
abbrev pub has_pcr : Option AdaptationView → Bool
has_pcr (Some (WithFlags parts)) = is_some parts.pcr
has_pcr _ = false

-- the bytes at its place
abbrev pub pcr_bytes : List ℕ → List ℕ
pcr_bytes bytes = take pcr_size (drop pcr_offset bytes)

-- the bytes of a packet without its program clock reference, if it has one: all that a duplicate repeats (2.4.3.3)
unfoldable pub without_pcr : Bool → List ℕ → List ℕ
without_pcr true bytes = take pcr_offset bytes ++ drop (pcr_offset + pcr_size) bytes
without_pcr false bytes = bytes

-- in a packet with a program clock reference the bytes at its place are it
abbrev pub PcrBytesLaw : Type 0
PcrBytesLaw = (bytes : List ℕ) (packet : PacketView) (parts : FieldView) (pcr : Reference) → IsPacket bytes packet →
    packet.adaptation ≡ Some (WithFlags parts) → parts.pcr ≡ Some pcr → IsReference (pcr_bytes bytes) pcr
