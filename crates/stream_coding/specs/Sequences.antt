-- The values of the sequence header and the sequence extension of ISO/IEC 13818-2; each without its start code.
use Rattle.std.specs.Prelude.{ℕ, ◌+◌, ◌*◌, ◌/◌, ◌%◌, ◌^◌, List, ◌∷◌}
use Rattle.stream_coding.specs.Structures.{bytes_of}
use Rattle.stream_coding.specs.declared.structures.Structure.TheVariants.{SequenceHeader, SequenceExtension}
use Rattle.stream_coding.specs.declared.coding.MpegSequence.{MpegSequence}

-- 1. The sequence header (6.2.2.1): horizontal_size_value and vertical_size_value of 12 bits, aspect_ratio_information and
-- frame_rate_code of 4, bit_rate_value of 18, a marker_bit, vbv_buffer_size_value of 10

unfoldable pub bit_rate_value : List ℕ → ℕ
bit_rate_value (a ∷ b ∷ c ∷ d ∷ high ∷ middle ∷ low ∷ rest) = high * 1024 + middle * 4 + low / 64
bit_rate_value _ = 0

unfoldable pub vbv_buffer_size_value : List ℕ → ℕ
vbv_buffer_size_value (a ∷ b ∷ c ∷ d ∷ e ∷ f ∷ high ∷ low ∷ rest) = high % 32 * 32 + low / 8
vbv_buffer_size_value _ = 0

-- 2. The sequence extension (6.2.2.3): extension_start_code_identifier of 4 bits, profile_and_level_indication of 8,
-- progressive_sequence, chroma_format, horizontal_size_extension and vertical_size_extension of 2, bit_rate_extension of 12, a
-- marker_bit, vbv_buffer_size_extension of 8

-- profile_and_level_indication (8.1)
unfoldable pub profile_and_level : List ℕ → ℕ
profile_and_level (first ∷ second ∷ rest) = first % 16 * 16 + second / 16
profile_and_level _ = 0

unfoldable pub bit_rate_extension : List ℕ → ℕ
bit_rate_extension (a ∷ b ∷ high ∷ low ∷ rest) = high % 32 * 128 + low / 2
bit_rate_extension _ = 0

unfoldable pub vbv_buffer_size_extension : List ℕ → ℕ
vbv_buffer_size_extension (a ∷ b ∷ c ∷ d ∷ size ∷ rest) = size
vbv_buffer_size_extension _ = 0

-- 3. Both (6.3.3, 6.3.5): bit_rate in units of 400 bits a second, vbv_buffer_size in units of 16,384 bits

abbrev pub sequence_of : List ℕ → List ℕ → MpegSequence
sequence_of header extension = record {
  profile_and_level = profile_and_level extension;
  bit_rate = bit_rate_extension extension * 2 ^ 18 + bit_rate_value header;
  vbv_buffer_size = vbv_buffer_size_extension extension * 2 ^ 10 + vbv_buffer_size_value header;
}

-- the sequence header and extension of a unit
unfoldable pub mpeg_sequence : List ℕ → MpegSequence
mpeg_sequence unit = sequence_of (bytes_of SequenceHeader unit) (bytes_of SequenceExtension unit)
