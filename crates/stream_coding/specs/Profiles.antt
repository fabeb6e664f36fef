-- The profile and the level of a stream, by their numbers, as its first access unit says them.
use Rattle.std.specs.Prelude.{ℕ, ◌+◌, ◌*◌, ◌/◌, ◌%◌, ◌==◌, if◌then◌else◌, List, ◌∷◌}
use Rattle.stream_coding.specs.Structures.{bytes_of}
use Rattle.stream_coding.specs.Sequences.{profile_and_level}
use Rattle.stream_coding.specs.Avc.{level_idc}
use Rattle.stream_coding.specs.Hevc.{byte_or_zero}
use Rattle.stream_coding.specs.declared.structures.Structure.TheVariants.{SequenceExtension, AvcParameters, HevcParameters, AdtsHeader}
use Rattle.stream_coding.specs.declared.profiles.ProfileLevel.{ProfileLevel}
use Rattle.stream_coding.specs.declared.profiles.ProfileLevel.TheVariants.{Unsaid, Mpeg, Avc, Hevc, Aac}

-- ISO/IEC 14496-10, 7.3.2.1.1: profile_idc, eight bits of constraints, level_idc
unfoldable pub avc_profile : List ℕ → ProfileLevel
avc_profile (profile ∷ constraints ∷ level ∷ rest) = Avc profile constraints (level_idc profile constraints level)
avc_profile _ = Unsaid

-- ISO/IEC 23008-2, 7.3.3, from sps_video_parameter_set_id on: the byte of general_profile_idc, the two of constraint flags that say limits,
-- general_level_idc
unfoldable pub hevc_profile : List ℕ → ProfileLevel
hevc_profile bytes = Hevc (byte_or_zero bytes 1) (byte_or_zero bytes 6) (byte_or_zero bytes 7) (byte_or_zero bytes 12)

-- ISO/IEC 13818-7, 6.2, from protection_absent on: 2 bits of profile, which is the audio object type less 1 (ISO/IEC 14496-3, 1.A.2.2), 4 of
-- sampling_frequency_index, private_bit, and channel_configuration in 3 bits
unfoldable pub aac_profile : List ℕ → ProfileLevel
aac_profile (a ∷ b ∷ c ∷ rest) = Aac (b / 64 + 1) (b % 2 * 4 + c / 64)
aac_profile _ = Unsaid

-- by stream_type (ISO/IEC 13818-1, table 2-34)
unfoldable pub profile_level : ℕ → List ℕ → ProfileLevel
profile_level stream_type unit =
    if stream_type == 0x02 then Mpeg (profile_and_level (bytes_of SequenceExtension unit))
    else (if stream_type == 0x1B then avc_profile (bytes_of AvcParameters unit)
    else (if stream_type == 0x24 then hevc_profile (bytes_of HevcParameters unit)
    else (if stream_type == 0x0F then aac_profile (bytes_of AdtsHeader unit)
    else Unsaid)))
