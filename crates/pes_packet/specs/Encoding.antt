-- The written bytes (ISO/IEC 13818-1, 2.4.3.6 and 2.4.3.7): the flags of a unit in the first flag byte, then 80 and a PTS, or C0, a
-- PTS and a DTS, and one more with a PES extension of PES_private_data; 45 bytes if the unit asks for a long header.
use Rattle.std.specs.Prelude.{ℕ, ◌+◌, ◌*◌, ◌/◌, ◌%◌, ◌^◌, ◌==◌, nat_le, if◌then◌else◌, is_some, List, [], ◌∷◌, ◌++◌, length}
use Rattle.bit_fields.specs.Fields.{bit}
use Rattle.pes_packet.specs.AccessUnits.{AccessUnit}
use Rattle.pes_packet.specs.Marks.{flag_bits, data_length, extension, extension_size, stuffing}
use Rattle.pes_packet.specs.declared.marks.Marks.{Marks}

-- the first six bytes: packet_start_code_prefix, stream_id, PES_packet_length
unfoldable pub pes_start_bytes : ℕ → ℕ → List ℕ
pes_start_bytes id len = 0x00 ∷ 0x00 ∷ 0x01 ∷ id ∷ (len / 256) ∷ (len % 256) ∷ []

-- PES_packet_length of a number of bytes, 0 if 16 bits can't count them
unfoldable pub packet_length : ℕ → ℕ
packet_length count = if nat_le count 65_535 then count else 0

-- a stamp after its four bits: 3, 15 and 15 bits, a marker bit 1 after each
unfoldable pub stamp_bytes : ℕ → ℕ → List ℕ
stamp_bytes mark stamp =
    (mark * 16 + (stamp / 2 ^ 30 * 2 + 1))
    ∷ (stamp / 2 ^ 22 % 256) ∷ (stamp / 2 ^ 15 % 128 * 2 + 1)
    ∷ (stamp / 2 ^ 7 % 256) ∷ (stamp % 128 * 2 + 1) ∷ []

-- a stamp on the wire
abbrev pub on_wire : ℕ → ℕ
on_wire stamp = stamp % 2 ^ 33

-- a header: its start, two flag bytes, PES_header_data_length, the bytes of the stamps, the PES extension and stuffing
unfoldable pub header_with : ℕ → ℕ → Marks → ℕ → List ℕ → List ℕ
header_with id size marks second stamps =
    pes_start_bytes id (packet_length (3 + data_length marks (length stamps) + size))
    ++ ((0x80 + flag_bits marks.flags) ∷ (second + bit (is_some marks.private_data)) ∷ data_length marks (length stamps) ∷ [])
    ++ (stamps ++ (extension marks.private_data ++ stuffing marks (length stamps)))

-- a header with a PTS alone
unfoldable pub pts_header : ℕ → ℕ → Marks → ℕ → List ℕ
pts_header id size marks pts = header_with id size marks 0x80 (stamp_bytes 2 pts)

-- a header with a PTS and a DTS
unfoldable pub pts_dts_header : ℕ → ℕ → Marks → ℕ → ℕ → List ℕ
pts_dts_header id size marks pts dts = header_with id size marks 0xC0 (stamp_bytes 3 pts ++ stamp_bytes 1 dts)

-- the header of a unit: a DTS exactly if the two stamps on the wire differ
unfoldable pub pes_header_bytes : ℕ → ℕ → Marks → ℕ → ℕ → List ℕ
pes_header_bytes id size marks pts dts =
    if on_wire pts == on_wire dts then pts_header id size marks (on_wire pts)
    else pts_dts_header id size marks (on_wire pts) (on_wire dts)

-- the size in bytes of the header of a unit
abbrev pub header_size : Marks → ℕ → ℕ → ℕ
header_size marks pts dts = if marks.long then 45 else ((if on_wire pts == on_wire dts then 14 else 19) + extension_size marks)

-- the PES packet of a unit, header and bytes, its stamps moved by the first value of the program clock reference
unfoldable pub pes_packet_bytes : ℕ → ℕ → AccessUnit → List ℕ
pes_packet_bytes id base0 unit =
    pes_header_bytes id (length unit.bytes) unit.marks (unit.pts + base0) (unit.dts + base0) ++ unit.bytes
