-- The meaning of stream_id (ISO/IEC 13818-1, 2.4.3.7, table 2-22).
use Rattle.std.specs.Prelude.{ℕ, ◌==◌, ◌&&◌, ◌||◌, not, nat_le, Bool, if◌then◌else◌}

-- flag bytes and stamps follow PES_packet_length, but not for program_stream_map, padding_stream, private_stream_2, ECM,
-- EMM, DSMCC_stream, ITU-T H.222.1 type E and program_stream_directory
unfoldable pub has_flags : ℕ → Bool
has_flags id = not (id == 0xBC || id == 0xBE || id == 0xBF || id == 0xF0 || id == 0xF1 || id == 0xF2 || id == 0xF8 || id == 0xFF)

-- a video stream, 1110 xxxx
abbrev pub is_video : ℕ → Bool
is_video id = nat_le 224 id && nat_le id 239

-- a stream whose units are written here: private_stream_1, audio, video
abbrev pub is_unit_id : ℕ → Bool
is_unit_id id = id == 189 || (nat_le 192 id && nat_le id 239)

-- the greatest size of a unit in bytes: a video unit may be longer than PES_packet_length counts
abbrev pub greatest_size : ℕ → ℕ
greatest_size id = if is_video id then 4_000_000 else 65_522

-- a unit of this size may be a PES packet of this stream_id
abbrev pub fits_packet : ℕ → ℕ → Bool
fits_packet id size = is_unit_id id && nat_le 1 size && nat_le size (greatest_size id)
