-- Where the structures of a coded stream begin that say its level, its video buffer, how many channels it has, or that a decoder may
-- begin there.
use Rattle.std.specs.Prelude.{ℕ, ◌/◌, ◌%◌, ◌==◌, ◌&&◌, nat_lt, Bool, if◌then◌else◌, Option, None, Some, List, [], ◌∷◌, take, drop, is_some}
use Rattle.std.specs.Option.{option_and_then, option_or, option_map_or}
use Rattle.std.specs.Str.{bytes_eq}
use Rattle.stream_coding.specs.Sei.{has_recovery_point}
use Rattle.stream_coding.specs.declared.structures.Structure.{Structure}
use Rattle.stream_coding.specs.declared.structures.Structure.TheVariants.{SequenceHeader, SequenceExtension, PictureHeader, AvcParameters, IdrSlice}
use Rattle.stream_coding.specs.declared.structures.Structure.TheVariants.{RecoveryPoint, HevcParameters, IrapSlice, AdtsHeader}

-- 1. Structures at the front of bytes

-- the bytes after a start code prefix, 00 00 01 (ISO/IEC 13818-2, 5.2.3; ISO/IEC 14496-10, annex B)
unfoldable pub after_start_code : List ℕ → Option (List ℕ)
after_start_code bytes = if bytes_eq (take 3 bytes) (0 ∷ 0 ∷ 1 ∷ []) then Some (drop 3 bytes) else None

-- a sequence header (ISO/IEC 13818-2, 6.2.2.1): the bytes after the start code's value 0xB3
unfoldable pub sequence_header : List ℕ → Option (List ℕ)
sequence_header [] = None
sequence_header (code ∷ rest) = if code == 0xB3 then Some rest else None

-- a picture header (6.2.3): the bytes after the start code's value 0x00
unfoldable pub picture_header : List ℕ → Option (List ℕ)
picture_header [] = None
picture_header (code ∷ rest) = if code == 0x00 then Some rest else None

-- a sequence extension (6.2.2.3): the bytes after the start code's value 0xB5; they begin with extension_start_code_identifier, 1 in 4 bits
unfoldable pub is_identified : List ℕ → Option (List ℕ)
is_identified [] = None
is_identified (first ∷ rest) = if first / 16 == 1 then Some (first ∷ rest) else None

unfoldable pub sequence_extension : List ℕ → Option (List ℕ)
sequence_extension [] = None
sequence_extension (code ∷ rest) = if code == 0xB5 then is_identified rest else None

-- a sequence parameter set (ISO/IEC 14496-10, 7.3.1): the bytes after the byte whose last five bits are nal_unit_type, 7
unfoldable pub avc_parameters : List ℕ → Option (List ℕ)
avc_parameters [] = None
avc_parameters (header ∷ rest) = if header % 32 == 7 then Some rest else None

-- a slice of an IDR picture: the bytes after the byte of nal_unit_type 5 (table 7-1)
unfoldable pub idr_slice : List ℕ → Option (List ℕ)
idr_slice [] = None
idr_slice (header ∷ rest) = if header % 32 == 5 then Some rest else None

-- SEI messages: the bytes after the byte of nal_unit_type 6, if a message is a recovery point
unfoldable pub recovery_point : List ℕ → Option (List ℕ)
recovery_point [] = None
recovery_point (header ∷ rest) = if header % 32 == 6 && has_recovery_point rest then Some rest else None

-- a sequence parameter set of layer 0 (ISO/IEC 23008-2, 7.3.1.2): the bytes after two bytes with nal_unit_type 33 and nuh_layer_id 0
unfoldable pub hevc_parameters : List ℕ → Option (List ℕ)
hevc_parameters (first ∷ second ∷ rest) = if first == 0x42 && nat_lt second 8 then Some rest else None
hevc_parameters _ = None

-- a slice of an IRAP picture of layer 0: the bytes after these two bytes: forbidden_zero_bit, nal_unit_type 16 to 23 in 6 bits (table 7-1), nuh_layer_id 0 in 6
-- bits, nuh_temporal_id_plus1
unfoldable pub irap_slice : List ℕ → Option (List ℕ)
irap_slice (first ∷ second ∷ rest) = if first / 16 == 2 && first % 2 == 0 && nat_lt second 8 then Some rest else None
irap_slice _ = None

-- an ADTS header (ISO/IEC 13818-7, 6.2): the bytes after its first byte, if its first two are the syncword, twelve ones, ID, layer 00, and protection_absent,
-- which the second byte ends with
unfoldable pub adts_header : List ℕ → Option (List ℕ)
adts_header (first ∷ second ∷ rest) = if first == 0xFF && second / 16 == 15 && second / 2 % 4 == 0 then Some (drop 1 (first ∷ second ∷ rest)) else None
adts_header _ = None

-- the bytes after the beginning of a structure, if it begins with the first of these bytes
unfoldable pub at_front : Structure → List ℕ → Option (List ℕ)
at_front SequenceHeader bytes = option_and_then sequence_header (after_start_code bytes)
at_front SequenceExtension bytes = option_and_then sequence_extension (after_start_code bytes)
at_front PictureHeader bytes = option_and_then picture_header (after_start_code bytes)
at_front AvcParameters bytes = option_and_then avc_parameters (after_start_code bytes)
at_front IdrSlice bytes = option_and_then idr_slice (after_start_code bytes)
at_front RecoveryPoint bytes = option_and_then recovery_point (after_start_code bytes)
at_front HevcParameters bytes = option_and_then hevc_parameters (after_start_code bytes)
at_front IrapSlice bytes = option_and_then irap_slice (after_start_code bytes)
at_front AdtsHeader bytes = adts_header bytes

-- 2. Structures in a unit

-- the bytes at the first place where a structure begins
unfoldable pub found_in : Structure → List ℕ → Option (List ℕ)
found_in structure [] = None
found_in structure (b ∷ bs) = option_or (at_front structure (b ∷ bs)) (found_in structure bs)

abbrev pub has : Structure → List ℕ → Bool
has structure unit = is_some (found_in structure unit)

-- no bytes if it begins nowhere
abbrev pub bytes_of : Structure → List ℕ → List ℕ
bytes_of structure unit = option_map_or (λ bytes. bytes) (found_in structure unit) []
