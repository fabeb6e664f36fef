-- How a stream is coded, by the entry of the program map that names it and by its first access unit.
use Rattle.std.specs.Prelude.{ℕ, ◌+◌, ◌*◌, ◌/◌, ◌^◌, ◌==◌, ◌&&◌, ◌||◌, Bool, if◌then◌else◌, List, [], ◌∷◌, take, drop, find}
use Rattle.std.specs.List.{list_any}
use Rattle.std.specs.Option.{option_map_or}
use Rattle.std.specs.Str.{bytes_eq}
use Rattle.descriptor_loops.specs.Descriptors.{DescriptorView, descriptors_in, has_tag}
use Rattle.stream_coding.specs.Structures.{bytes_of}
use Rattle.stream_coding.specs.Sequences.{mpeg_sequence}
use Rattle.stream_coding.specs.Avc.{avc_sequence}
use Rattle.stream_coding.specs.Hevc.{hevc_sequence}
use Rattle.stream_coding.specs.Adts.{channels}
use Rattle.stream_coding.specs.declared.structures.Structure.TheVariants.{AdtsHeader}
use Rattle.stream_coding.specs.declared.coding.Coding.{Coding}
use Rattle.stream_coding.specs.declared.coding.J2kLimits.{J2kLimits}
use Rattle.stream_coding.specs.declared.coding.Coding.TheVariants.{Mpeg, Avc, Hevc, Jpeg2000, Audio, Aac, Ac3, Pcm, Subtitles, Teletext, Other}

-- 1. AC-3 and Enhanced AC-3

-- a registration descriptor (ISO/IEC 13818-1, 2.6.8) whose format_identifier is "AC-3" or "EAC3"
unfoldable pub registers_ac3 : DescriptorView → Bool
registers_ac3 d = d.tag == 5 && (bytes_eq (take 4 d.body) (65 ∷ 67 ∷ 45 ∷ 51 ∷ []) || bytes_eq (take 4 d.body) (69 ∷ 65 ∷ 67 ∷ 51 ∷ []))

-- the stream_types of ATSC A/53, the AC-3 and enhanced_AC-3 descriptors of EN 300 468, annex D, or private data (stream_type 6)
-- that are registered so
unfoldable pub is_ac3 : ℕ → List ℕ → Bool
is_ac3 stream_type descriptors =
    stream_type == 0x81 || stream_type == 0x87 || has_tag 0x6A descriptors || has_tag 0x7A descriptors
    || (stream_type == 6 && list_any registers_ac3 (descriptors_in descriptors))

-- 2. SMPTE 302M: samples of sound as they are

-- a registration descriptor whose format_identifier is "BSSD"
unfoldable pub registers_pcm : DescriptorView → Bool
registers_pcm d = d.tag == 5 && bytes_eq (take 4 d.body) (66 ∷ 83 ∷ 83 ∷ 68 ∷ [])

abbrev pub is_pcm : List ℕ → Bool
is_pcm descriptors = list_any registers_pcm (descriptors_in descriptors)

-- the pairs of channels by the header of a unit, 4 bytes: audio_packet_size in 16 bits, number_channels in 2, ..; the most, 4, if the unit has no header
unfoldable pub channel_pairs : List ℕ → ℕ
channel_pairs (a ∷ b ∷ c ∷ rest) = c / 64 + 1
channel_pairs _ = 4

-- 3. JPEG 2000 video by its J2K_video_descriptor (ISO/IEC 13818-1, 2.6.80): profile_and_level in 16 bits, horizontal_size, vertical_size, max_bit_rate and
-- max_buffer_size in 32 bits each, ..; 0 if there is none

unfoldable pub is_j2k : DescriptorView → Bool
is_j2k d = d.tag == 0x32

unfoldable pub four_bytes : List ℕ → ℕ
four_bytes (a ∷ b ∷ c ∷ d ∷ rest) = a * 2 ^ 24 + b * 2 ^ 16 + c * 2 ^ 8 + d
four_bytes _ = 0

unfoldable pub j2k_limits : List ℕ → J2kLimits
j2k_limits body = record { max_bit_rate = four_bytes (drop 10 body); max_buffer_size = four_bytes (drop 14 body) }

abbrev pub j2k_body : List ℕ → List ℕ
j2k_body descriptors = option_map_or (λ d. d.body) (find is_j2k (descriptors_in descriptors)) []

-- 4. Codings

-- by descriptors: AC-3, SMPTE 302M, or the subtitling and teletext descriptors of EN 300 468, table 12
unfoldable pub coding_by_descriptors : ℕ → List ℕ → List ℕ → Coding
coding_by_descriptors stream_type descriptors unit =
    if is_ac3 stream_type descriptors then Ac3
    else (if has_tag 0x59 descriptors then Subtitles
    else (if has_tag 0x56 descriptors then Teletext
    else (if stream_type == 6 && is_pcm descriptors then Pcm (channel_pairs unit)
    else Other)))

-- by stream_type (ISO/IEC 13818-1, table 2-34); if it names none of these codings, by descriptors
unfoldable pub coding_of : ℕ → List ℕ → List ℕ → Coding
coding_of stream_type descriptors unit =
    if stream_type == 0x01 || stream_type == 0x02 then Mpeg (mpeg_sequence unit)
    else (if stream_type == 0x1B then Avc (avc_sequence unit)
    else (if stream_type == 0x24 then Hevc (hevc_sequence unit)
    else (if stream_type == 0x21 then Jpeg2000 (j2k_limits (j2k_body descriptors))
    else (if stream_type == 0x0F then Aac (channels (bytes_of AdtsHeader unit))
    else (if stream_type == 0x03 || stream_type == 0x04 || stream_type == 0x11 || stream_type == 0x1C then Audio
    else coding_by_descriptors stream_type descriptors unit)))))
