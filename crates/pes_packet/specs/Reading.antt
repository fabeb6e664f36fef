-- Reading a PES header from left to right: the value, or the first refusal (ISO/IEC 13818-1, 2.4.3.6 and 2.4.3.7).
use Rattle.std.specs.Prelude.{ℕ, ◌+◌, ◌*◌, ◌/◌, ◌%◌, ◌^◌, ◌==◌, ◌&&◌, ◌||◌, not, nat_lt, Bool, if◌then◌else◌, None, Result, Ok, Err, List, [], ◌∷◌, length}
use Rattle.std.specs.Prelude.{take, drop, slice_index}
use Rattle.std.specs.List.{zip, list_any}
use Rattle.bit_fields.specs.Reading.{◌>>=◌}
use Rattle.pes_packet.specs.StreamIds.{has_flags}
use Rattle.pes_packet.specs.Marks.{no_flags, flags_in}
use Rattle.pes_packet.specs.PrivateData.{private_at}
use Rattle.pes_packet.specs.declared.refusal.PesError.{PesError}
use Rattle.pes_packet.specs.declared.refusal.PesError.TheVariants.{Short, Prefix, BadFlags, Marker, Length}
use Rattle.pes_packet.specs.declared.time_stamps.Stamps.{Stamps}
use Rattle.pes_packet.specs.declared.time_stamps.Stamps.TheVariants.{Absent, Pts, PtsDts}
use Rattle.pes_packet.specs.declared.reading.PesHeader.{PesHeader}

-- the three marker bits of a stamp are 1
abbrev pub marked : List ℕ → Bool
marked bytes = slice_index bytes 0 % 2 == 1 && slice_index bytes 2 % 2 == 1 && slice_index bytes 4 % 2 == 1

-- the value of a stamp: 3, 15 and 15 bits, a marker bit after each
abbrev pub stamp_value : List ℕ → ℕ
stamp_value bytes =
    (slice_index bytes 0 / 2 % 8 * 2 ^ 15 + (slice_index bytes 1 * 256 + slice_index bytes 2) / 2) * 2 ^ 15
    + (slice_index bytes 3 * 256 + slice_index bytes 4) / 2

-- a stamp of five bytes, whose first four bits are not looked at
unfoldable pub stamp_at : List ℕ → Result ℕ PesError
stamp_at bytes = if marked bytes then Ok (stamp_value bytes) else Err Marker

-- five bytes of header data and the rest
unfoldable pub five_at : List ℕ → Result (List ℕ × List ℕ) PesError
five_at bytes = if nat_lt (length bytes) 5 then Err Length else Ok (take 5 bytes, drop 5 bytes)

-- a PTS alone
unfoldable pub pts_at : List ℕ → Result Stamps PesError
pts_at bytes = do
  five ← five_at bytes
  pts ← stamp_at five.0
  Ok (Pts pts)

-- a PTS and a DTS
unfoldable pub pts_dts_at : List ℕ → Result Stamps PesError
pts_dts_at bytes = do
  first ← five_at bytes
  second ← five_at first.1
  pts ← stamp_at first.0
  dts ← stamp_at second.0
  Ok (PtsDts pts dts)

-- the stamps that PTS_DTS_flags announce
unfoldable pub stamps_at : ℕ → List ℕ → Result Stamps PesError
stamps_at flags bytes =
    if flags == 0 then Ok Absent
    else (if flags == 2 then pts_at bytes
    else (if flags == 3 then pts_dts_at bytes
    else Err BadFlags))

-- PES_packet_length is not 0 and counts less than the rest of the header
abbrev pub is_too_short : ℕ → ℕ → Bool
is_too_short len size = not (len == 0) && nat_lt len (3 + size)

-- the flag bytes do not begin with bits 10, or PTS_DTS_flags are 01
abbrev pub is_bad_flags : ℕ → ℕ → Bool
is_bad_flags first second = not (first / 64 == 2) || second / 64 == 1

-- the header data, all at hand, after flags and lengths
unfoldable pub data_at : ℕ → ℕ → ℕ → ℕ → ℕ → List ℕ → Result (PesHeader × ℕ) PesError
data_at id len first second size bytes =
    if is_bad_flags first second then Err BadFlags
    else (if is_too_short len size then Err Length
    else (stamps_at (second / 64) (take size bytes) >>= (λ stamps.
    Ok (
      record { id = id; len = len; stamps = stamps; flags = flags_in first; data_length = size; private_data = private_at second (take size bytes) },
      9 + size,
    ))))

-- two flag bytes, PES_header_data_length, and that many bytes at hand
unfoldable pub flags_at : ℕ → ℕ → List ℕ → Result (PesHeader × ℕ) PesError
flags_at id len (first ∷ second ∷ size ∷ bytes) =
    if nat_lt (length bytes) size then Err Short else data_at id len first second size bytes
flags_at id len bytes = Err Short

-- packet_start_code_prefix, stream_id, PES_packet_length
unfoldable pub start_at : List ℕ → Result (PesHeader × ℕ) PesError
start_at (_ ∷ _ ∷ _ ∷ id ∷ high ∷ low ∷ bytes) =
    if has_flags id then flags_at id (high * 256 + low) bytes
    else Ok (record { id = id; len = high * 256 + low; stamps = Absent; flags = no_flags; data_length = 0; private_data = None }, 6)
start_at bytes = Err Short

-- a byte at hand differs from packet_start_code_prefix
abbrev pub misses_prefix : List ℕ → Bool
misses_prefix bytes = list_any (λ p. not (p.0 == p.1)) (zip (0x00 ∷ 0x00 ∷ 0x01 ∷ []) bytes)

-- the header at the front of the bytes and its size, or the first refusal: Prefix, Short, BadFlags, Length, Marker
unfoldable pub header_at : List ℕ → Result (PesHeader × ℕ) PesError
header_at bytes = if misses_prefix bytes then Err Prefix else start_at bytes
