-- The header of a PES packet as the standard's table of fields (ISO/IEC 13818-1, 2.4.3.6, table 2-21).
use Rattle.std.specs.Prelude.{◌≡◌, ℕ, ◌+◌, ◌/◌, ◌%◌, ◌^◌, ◌<◌, ◌≤◌, ◌⊎◌, Bool, true, false, None, List, [], ◌∷◌, ◌++◌, length, slice_index}
use Rattle.bit_fields.specs.Fields.{number, fields, bit}
use Rattle.pes_packet.specs.StreamIds.{has_flags}
use Rattle.pes_packet.specs.Marks.{no_flags}
use Rattle.pes_packet.specs.PrivateData.{private_at}
use Rattle.pes_packet.specs.declared.marks.PesFlags.{PesFlags}
use Rattle.pes_packet.specs.declared.time_stamps.Stamps.{Stamps}
use Rattle.pes_packet.specs.declared.time_stamps.Stamps.TheVariants.{Absent, Pts, PtsDts}
use Rattle.pes_packet.specs.declared.reading.PesHeader.{PesHeader}

-- a stamp: four bits that are not looked at, then 3, 15 and 15 bits with a marker bit 1 after each
pub record IsStamp (bytes : List ℕ) (stamp : ℕ) : Type 0 where
  pub len : length bytes ≡ 5
  pub mark : ℕ
  pub spelled : number bytes ≡ fields ((4, mark) ∷ (3, stamp / 2 ^ 30) ∷ (1, 1) ∷ (15, stamp / 2 ^ 15 % 2 ^ 15) ∷ (1, 1) ∷ (15, stamp % 2 ^ 15) ∷ (1, 1) ∷ [])
  pub below : stamp < 2 ^ 33

-- a PTS, and a DTS after it
pub record IsPtsDts (bytes : List ℕ) (pts dts : ℕ) : Type 0 where
  pub first : List ℕ
  pub second : List ℕ
  pub is : bytes ≡ first ++ second
  pub pts_matches : IsStamp first pts
  pub dts_matches : IsStamp second dts

-- the stamps
abbrev pub IsStamps : List ℕ → Stamps → Type 0
IsStamps bytes Absent = bytes ≡ []
IsStamps bytes (Pts pts) = IsStamp bytes pts
IsStamps bytes (PtsDts pts dts) = IsPtsDts bytes pts dts

-- PTS_DTS_flags
abbrev pub stamp_flags : Stamps → ℕ
stamp_flags Absent = 0
stamp_flags (Pts pts) = 2
stamp_flags (PtsDts pts dts) = 3

-- packet_start_code_prefix, stream_id, PES_packet_length
pub record IsStart (bytes : List ℕ) (header : PesHeader) : Type 0 where
  pub len : length bytes ≡ 6
  pub spelled : number bytes ≡ fields ((24, 1) ∷ (8, header.id) ∷ (16, header.len) ∷ [])
  pub id : header.id < 2 ^ 8
  pub packet_length : header.len < 2 ^ 16

-- bits 10, PES_scrambling_control, which is not looked at, PES_priority, data_alignment_indicator, copyright,
-- original_or_copy, PTS_DTS_flags, six flags of other parts, PES_header_data_length
pub record IsFlags (bytes : List ℕ) (flags : PesFlags) (stamps : Stamps) (data_length : ℕ) : Type 0 where
  pub len : length bytes ≡ 3
  pub scrambling : ℕ
  pub parts : ℕ
  pub spelled :
      number bytes
      ≡ fields
      ((2, 2) ∷ (2, scrambling) ∷ (1, bit flags.priority) ∷ (1, bit flags.aligned) ∷ (1, bit flags.copyright) ∷ (1, bit flags.original)
      ∷ (2, stamp_flags stamps) ∷ (6, parts) ∷ (8, data_length) ∷ [])
  pub scrambling_fits : scrambling < 2 ^ 2
  pub parts_fit : parts < 2 ^ 6
  pub length_fits : data_length < 2 ^ 8

-- the flag bytes, the stamps, and header data, whose PES_private_data alone is read; PES_packet_length is 0 or counts them
pub record IsFlagged (bytes : List ℕ) (header : PesHeader) : Type 0 where
  pub flags : List ℕ
  pub stamps : List ℕ
  pub others : List ℕ
  pub is : bytes ≡ flags ++ (stamps ++ others)
  pub flags_match : IsFlags flags header.flags header.stamps header.data_length
  pub data_is : header.data_length ≡ length stamps + length others
  pub stamps_match : IsStamps stamps header.stamps
  pub private_is : header.private_data ≡ private_at (slice_index flags 1) (stamps ++ others)
  pub counted : (header.len ≡ 0) ⊎ (length bytes ≤ header.len)

-- what follows PES_packet_length, by whether the stream_id has flag bytes
abbrev pub IsAfter : Bool → List ℕ → PesHeader → Type 0
IsAfter true bytes header = IsFlagged bytes header
IsAfter false bytes header = (bytes ≡ []) × (header.stamps ≡ Absent) × (header.flags ≡ no_flags) × (header.data_length ≡ 0) × (header.private_data ≡ None)

-- the bytes begin with this header, of this size in bytes
pub record IsPesHeader (bytes : List ℕ) (header : PesHeader) (size : ℕ) : Type 0 where
  pub start : List ℕ
  pub after : List ℕ
  pub rest : List ℕ
  pub is : bytes ≡ start ++ (after ++ rest)
  pub size_is : size ≡ length start + length after
  pub start_matches : IsStart start header
  pub after_matches : IsAfter (has_flags header.id) after header
