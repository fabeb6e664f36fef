-- The values of a sequence parameter set of ISO/IEC 23008-2; its bytes after the header of the NAL unit.
use Rattle.std.specs.Prelude.{ℕ, ◌*◌, ◌/◌, ◌%◌, ◌==◌, ◌&&◌, ◌||◌, Bool, if◌then◌else◌, List, unwrap_or}
use Rattle.std.specs.List.{slice_get}
use Rattle.stream_coding.specs.Structures.{bytes_of}
use Rattle.stream_coding.specs.declared.structures.Structure.TheVariants.{HevcParameters}
use Rattle.stream_coding.specs.Rbsp.{rbsp_bytes}
use Rattle.stream_coding.specs.declared.coding.HevcSequence.{HevcSequence}

-- a byte of the set, 0 if it ends before
abbrev pub byte_or_zero : List ℕ → ℕ → ℕ
byte_or_zero bytes number = unwrap_or (slice_get (rbsp_bytes bytes) number) 0

-- 1. Profiles with flags of their limits: general_profile_idc 4, 5, 9, 10 and 11, of format range extensions, high throughput and
-- screen content (A.3.5 and after it). The flags are max_12bit_, max_10bit_, max_8bit_ and max_422chroma_constraint_flag, the last four of a
-- byte; max_420chroma_constraint_flag, max_monochrome_constraint_flag, intra_constraint_flag, one_picture_only_constraint_flag and
-- lower_bit_rate_constraint_flag, the first of the next one

unfoldable pub has_limit_flags : ℕ → Bool
has_limit_flags idc = idc == 4 || idc == 5 || idc == 9 || idc == 10 || idc == 11

-- one number of four, for samples of up to 8, 10, 12 or 16 bits
unfoldable pub by_depth : ℕ → ℕ → ℕ → ℕ → ℕ → ℕ
by_depth depths eight ten twelve sixteen =
    if depths / 2 % 2 == 1 then eight
    else (if depths / 4 % 2 == 1 then ten
    else (if depths / 8 % 2 == 1 then twelve
    else sixteen))

-- CpbNalFactor (A.4.2) of these profiles: for monochrome, 4:2:0, 4:2:2 and 4:4:4 pictures
unfoldable pub limited_factor : ℕ → ℕ → ℕ
limited_factor depths formats =
    if formats / 64 % 2 == 1 then by_depth depths 733 917 1_100 1_467
    else (if formats / 128 == 1 then by_depth depths 1_100 1_100 1_650 4_400
    else (if depths % 2 == 1 then by_depth depths 1_833 1_833 2_200 4_400
    else by_depth depths 2_200 2_750 3_300 4_400))

-- CpbNalFactor of all profiles: 1,100 for Main, Main 10, Main Still Picture, and if the profile is not known
unfoldable pub cpb_nal_factor : ℕ → ℕ → ℕ → ℕ
cpb_nal_factor idc depths formats = if has_limit_flags idc then limited_factor depths formats else 1_100

-- BrNalFactor: HbrFactor is 2 of intra profiles whose rate is not limited to the lower one
unfoldable pub br_nal_factor : ℕ → ℕ → ℕ → ℕ
br_nal_factor idc depths formats =
    if has_limit_flags idc && formats / 32 % 2 == 1 && formats / 8 % 2 == 0 then 2 * cpb_nal_factor idc depths formats
    else cpb_nal_factor idc depths formats

-- 2. What it says (7.3.2.2.1 and 7.3.3): a byte of sps_video_parameter_set_id, sps_max_sub_layers_minus1 and sps_temporal_id_nesting_flag; 2
-- bits of general_profile_space, general_tier_flag, 5 bits of general_profile_idc; 4 bytes of compatibility flags, 6 bytes of constraint
-- flags, general_level_idc

abbrev pub sequence_of : ℕ → ℕ → ℕ → ℕ → HevcSequence
sequence_of profile depths formats level = record {
  level = level;
  high_tier = profile / 32 % 2 == 1;
  cpb_nal_factor = cpb_nal_factor (profile % 32) depths formats;
  br_nal_factor = br_nal_factor (profile % 32) depths formats;
}

unfoldable pub hevc_sequence : List ℕ → HevcSequence
hevc_sequence unit =
    let bytes = bytes_of HevcParameters unit in
    sequence_of (byte_or_zero bytes 1) (byte_or_zero bytes 6) (byte_or_zero bytes 7) (byte_or_zero bytes 12)
