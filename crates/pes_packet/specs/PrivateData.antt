-- PES_private_data among the header data of a PES packet (ISO/IEC 13818-1, 2.4.3.6 and 2.4.3.7).
use Rattle.std.specs.Prelude.{ℕ, ◌+◌, ◌*◌, if◌then◌else◌, Option, None, List, [], ◌∷◌, drop}
use Rattle.bit_fields.specs.Fields.{bit, flag}
use Rattle.pes_packet.specs.Marks.{first_sixteen}

-- the bytes of header data before a PES extension, by the second flag byte: PTS 5, DTS 5, ESCR 6, ES_rate 3, trick mode 1, additional
-- copy information 1, previous_PES_packet_CRC 2
abbrev pub before_extension : ℕ → ℕ
before_extension flags =
    bit (flag flags 128) * 5 + bit (flag flags 64) * 5 + bit (flag flags 32) * 6 + bit (flag flags 16) * 3
    + bit (flag flags 8) + bit (flag flags 4) + bit (flag flags 2) * 2

-- the PES_private_data of a PES extension: 16 bytes after its flags, if PES_private_data_flag is set
unfoldable pub private_in : List ℕ → Option (List ℕ)
private_in [] = None
private_in (flags ∷ bytes) = if flag flags 128 then first_sixteen bytes else None

-- the PES_private_data of header data after this second flag byte, if PES_extension_flag is set
unfoldable pub private_at : ℕ → List ℕ → Option (List ℕ)
private_at flags bytes = if flag flags 1 then private_in (drop (before_extension flags) bytes) else None
