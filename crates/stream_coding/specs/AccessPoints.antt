-- The access units at which a decoder may begin, by the syntax of their coding.
use Rattle.std.specs.Prelude.{ℕ, ◌/◌, ◌%◌, ◌==◌, ◌&&◌, ◌||◌, Bool, false, if◌then◌else◌, List, [], ◌∷◌}
use Rattle.stream_coding.specs.Structures.{bytes_of, has}
use Rattle.stream_coding.specs.declared.structures.Structure.TheVariants.{SequenceHeader, PictureHeader, AvcParameters, IdrSlice, RecoveryPoint, HevcParameters}
use Rattle.stream_coding.specs.declared.structures.Structure.TheVariants.{IrapSlice}

-- picture_coding_type, 3 bits after the 10 of temporal_reference, from the bytes after the start code of a picture header (ISO/IEC 13818-2, 6.2.3); 0, which is
-- forbidden (table 6-12), if it is absent
unfoldable pub picture_coding_type : List ℕ → ℕ
picture_coding_type (first ∷ second ∷ rest) = second / 8 % 8
picture_coding_type _ = 0

-- an access unit of ISO/IEC 11172-2 or 13818-2 video with a sequence header (ISO/IEC 13818-1, 2.4.3.5), whose first picture is intra-coded,
-- picture_coding_type 1 (ETSI TS 101 154, 4.1.5: a sequence header is repeated before predicted pictures too)
unfoldable pub is_mpeg_access : List ℕ → Bool
is_mpeg_access unit = has SequenceHeader unit && picture_coding_type (bytes_of PictureHeader unit) == 1

-- an access unit of ISO/IEC 14496-10 video with its sequence parameters, and an IDR picture or a recovery point (5.5.5)
unfoldable pub is_avc_access : List ℕ → Bool
is_avc_access unit = has AvcParameters unit && (has IdrSlice unit || has RecoveryPoint unit)

-- an access unit of ISO/IEC 23008-2 video with its sequence parameters and an IRAP picture (5.14.5)
unfoldable pub is_hevc_access : List ℕ → Bool
is_hevc_access unit = has HevcParameters unit && has IrapSlice unit

-- by stream_type (ISO/IEC 13818-1, table 2-34); no unit of any other coding
unfoldable pub is_access_point : ℕ → List ℕ → Bool
is_access_point stream_type unit =
    if stream_type == 0x01 || stream_type == 0x02 then is_mpeg_access unit
    else (if stream_type == 0x1B then is_avc_access unit
    else (if stream_type == 0x24 then is_hevc_access unit
    else false))
