-- The parts of a section in transport packets (ISO/IEC 13818-1, 2.4.4.1): pointer_field 0 before it, bytes 0xFF from its end to the end of the packet.
use Rattle.std.specs.Prelude.{ℕ, ◌+◌, ◌*◌, ◌/◌, ◌==◌, nat_lt, cond, false, List, ◌∷◌, ◌++◌, length, take, drop, replicate, Option, Some, None}
use Rattle.ts_packet.specs.Beginnings.{start_by}
use Rattle.slot_contents.specs.Contents.{Content, PayloadContent, NullContent, Piece}

-- the number of packets that a section of `l` bytes takes
abbrev pub places_of : ℕ → ℕ
places_of l = (1 + l + 183) / 184

-- pointer_field, the section, and as many bytes 0xFF as a packet can need
abbrev pub filled : List ℕ → List ℕ
filled section = 0 ∷ (section ++ replicate 184 0xFF)

-- part number q of a section: 184 bytes, no part after the end of the section; the section begins with part 0
unfoldable pub part_of : List ℕ → ℕ → Option Piece
part_of section q =
    cond (nat_lt (184 * q) (1 + length section)) (Some (record { start = start_by (q == 0) false; bytes = take 184 (drop (184 * q) (filled section)) })) None

-- the content of a slot with a part, as the payload `number` on its PID
unfoldable pub part_content : ℕ → ℕ → Option Piece → Content
part_content pid number None = NullContent
part_content pid number (Some part) = PayloadContent pid number part.start part.bytes
