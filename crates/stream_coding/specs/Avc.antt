-- The values of a sequence parameter set of ISO/IEC 14496-10; its bytes after the header of the NAL unit.
use Rattle.std.specs.Prelude.{ℕ, zero, suc, ◌+◌, ◌-◌, ◌*◌, ◌/◌, ◌%◌, ◌^◌, ◌==◌, ◌&&◌, ◌||◌, nat_le, nat_lt, Bool, if◌then◌else◌, Option, None, Some, List, []}
use Rattle.std.specs.Prelude.{◌∷◌, option_map, option_and_then, unwrap_or}
use Rattle.std.specs.Option.{option_map_or}
use Rattle.stream_coding.specs.Structures.{bytes_of}
use Rattle.stream_coding.specs.declared.structures.Structure.TheVariants.{AvcParameters}
use Rattle.stream_coding.specs.declared.rbsp.Element.TheVariants.{U, Ue}
use Rattle.stream_coding.specs.Rbsp.{u, ue, after, after_times, after_flagged}
use Rattle.stream_coding.specs.declared.coding.AvcSequence.{AvcSequence}

-- a function of what was read, if it was
infixl 10 ◌>>=◌
abbrev pub ◌>>=◌ : {A B : Type 0} → Option A → (A → Option B) → Option B
value >>= f = option_and_then f value

-- 1. Profile and level: the first three bytes, profile_idc, eight bits of constraints, level_idc

-- level 1b is 11 with constraint_set3_flag in the Baseline, Main and Extended profiles, and 9 in all further profiles (A.3.1 and A.3.2)
unfoldable pub level_idc : ℕ → ℕ → ℕ → ℕ
level_idc profile constraints level =
    if level == 11 && constraints / 16 % 2 == 1 && (profile == 66 || profile == 77 || profile == 88) then 9 else level

unfoldable pub level : List ℕ → ℕ
level (p ∷ constraints ∷ idc ∷ rest) = level_idc p constraints idc
level _ = 0

unfoldable pub profile : List ℕ → ℕ
profile [] = 0
profile (p ∷ rest) = p

-- cpbBrNalFactor of a profile_idc, which scales MaxBR to bit/s and MaxCPB to bits of NAL units (A.3.1, A.3.3, table A-2; annexes G, H and I): of High and the
-- profiles that extend it, of High 10, of High 4:2:2, High 4:4:4 Predictive and CAVLC 4:4:4 Intra, with their profiles of intra pictures alone; of Baseline,
-- Main, Extended, and if the profile is not known
unfoldable pub cpb_br_nal_factor : ℕ → ℕ
cpb_br_nal_factor p =
    if p == 100 || p == 83 || p == 86 || p == 118 || p == 128 || p == 138 || p == 139 || p == 134 || p == 135 then 1_500
    else (if p == 110 then 3_600
    else (if p == 122 || p == 244 || p == 44 then 4_800
    else 1_200))

-- 2. The sequence parameter set up to its VUI parameters (7.3.2.1.1)

-- the profiles whose sets have chroma_format_idc
unfoldable pub has_chroma_format : ℕ → Bool
has_chroma_format p =
    p == 100 || p == 110 || p == 122 || p == 244 || p == 44 || p == 83 || p == 86 || p == 118 || p == 128 || p == 138 || p == 139
    || p == 134 || p == 135

-- scaling_list (7.3.2.1.1.1) with `left` numbers to go after the number lastScale. delta_scale is se(v): codeNum k is (-1)^(k+1) Ceil(k / 2) (9.1.1); nextScale
-- is (lastScale + delta_scale + 256) % 256, and if it is 0 no number follows
unfoldable pub next_scale : ℕ → ℕ → ℕ
next_scale last code = if code % 2 == 1 then (last + (code + 1) / 2) % 256 else (last + (256 - code / 2 % 256)) % 256

unfoldable pub scaling_list : ℕ → ℕ → List ℕ → ℕ → Option ℕ
scaling_list zero last bytes at = Some at
scaling_list (suc left) last bytes at =
    option_map_or (λ delta. if next_scale last delta.0 == 0 then Some delta.1 else scaling_list left (next_scale last delta.0) bytes delta.1)
    (ue bytes at) None

-- seq_scaling_list_present_flag[i], and if it is 1 a list, of 16 numbers if i is below 6, otherwise of 64; the first lastScale is 8
unfoldable pub scaling_list_at : ℕ → List ℕ → ℕ → Option ℕ
scaling_list_at i bytes at =
    u 1 bytes at >>= (λ present. if present.0 == 1 then scaling_list (if nat_lt i 6 then 16 else 64) 8 bytes present.1 else Some present.1)

-- the place after `left` scaling lists, from number i on
unfoldable pub scaling_matrix : ℕ → ℕ → List ℕ → ℕ → Option ℕ
scaling_matrix zero i bytes at = Some at
scaling_matrix (suc left) i bytes at = option_map_or (λ next. scaling_matrix left (i + 1) bytes next) (scaling_list_at i bytes at) None

-- after chroma_format_idc: separate_colour_plane_flag if it is 3, bit_depth_luma_minus8, bit_depth_chroma_minus8, qpprime_y_zero_transform_bypass_flag;
-- seq_scaling_matrix_present_flag, and if it is 1 eight lists, or twelve if the format is 3
unfoldable pub depths : ℕ → List ℕ → ℕ → Option ℕ
depths format bytes at = if format == 3 then after (U 1 ∷ Ue ∷ Ue ∷ U 1 ∷ []) bytes at else after (Ue ∷ Ue ∷ U 1 ∷ []) bytes at

unfoldable pub matrix : ℕ → List ℕ → ℕ → Option ℕ
matrix format bytes at =
    u 1 bytes at >>= (λ present. if present.0 == 1 then scaling_matrix (if format == 3 then 12 else 8) 0 bytes present.1 else Some present.1)

unfoldable pub chroma_format : List ℕ → ℕ → Option ℕ
chroma_format bytes at = ue bytes at >>= (λ format. depths format.0 bytes format.1 >>= matrix format.0 bytes)

unfoldable pub chroma_format_if : Bool → List ℕ → ℕ → Option ℕ
chroma_format_if present bytes at = if present then chroma_format bytes at else Some at

-- pic_order_cnt_type; of 0: log2_max_pic_order_cnt_lsb_minus4; of 1: delta_pic_order_always_zero_flag, offset_for_non_ref_pic,
-- offset_for_top_to_bottom_field, num_ref_frames_in_pic_order_cnt_cycle (at most 255), and as many offset_for_ref_frame
unfoldable pub order_cycle : List ℕ → ℕ → Option ℕ
order_cycle bytes at = ue bytes at >>= (λ frames. if nat_le frames.0 255 then after_times frames.0 (Ue ∷ []) bytes frames.1 else None)

unfoldable pub order_by : ℕ → List ℕ → ℕ → Option ℕ
order_by type bytes at =
    if type == 0 then after (Ue ∷ []) bytes at
    else (if type == 1 then after (U 1 ∷ Ue ∷ Ue ∷ []) bytes at >>= order_cycle bytes
    else Some at)

unfoldable pub picture_order : List ℕ → ℕ → Option ℕ
picture_order bytes at = ue bytes at >>= (λ type. order_by type.0 bytes type.1)

-- frame_mbs_only_flag, mb_adaptive_frame_field_flag if it is 0, direct_8x8_inference_flag
unfoldable pub frame_elements : List ℕ → ℕ → Option ℕ
frame_elements bytes at =
    u 1 bytes at >>= (λ only. if only.0 == 1 then after (U 1 ∷ []) bytes only.1 else after (U 1 ∷ U 1 ∷ []) bytes only.1)

-- seq_parameter_set_id; the elements of the profiles above; log2_max_frame_num_minus4
unfoldable pub frame_number : List ℕ → ℕ → Option ℕ
frame_number bytes at =
    after (Ue ∷ []) bytes at >>= chroma_format_if (has_chroma_format (profile bytes)) bytes >>= after (Ue ∷ []) bytes

-- then max_num_ref_frames, gaps_in_frame_num_value_allowed_flag, pic_width_in_mbs_minus1, pic_height_in_map_units_minus1; at last
-- frame_cropping_flag with four offsets
unfoldable pub picture_size : List ℕ → ℕ → Option ℕ
picture_size bytes at =
    after (Ue ∷ U 1 ∷ Ue ∷ Ue ∷ []) bytes at >>= frame_elements bytes >>= after_flagged (Ue ∷ Ue ∷ Ue ∷ Ue ∷ []) bytes

-- the place after a flag, if the flag is 1
unfoldable pub where_set : List ℕ → ℕ → Option ℕ
where_set bytes at = u 1 bytes at >>= (λ flag. if flag.0 == 1 then Some flag.1 else None)

-- the place of vui_parameters, if vui_parameters_present_flag is 1
unfoldable pub vui_place : List ℕ → Option ℕ
vui_place bytes = frame_number bytes 24 >>= picture_order bytes >>= picture_size bytes >>= where_set bytes

-- 3. The VUI parameters up to the HRD parameters of NAL units (E.1.1)

-- aspect_ratio_info_present_flag, aspect_ratio_idc, and if it is 255 sar_width and sar_height
unfoldable pub sample_size : ℕ → List ℕ → ℕ → Option ℕ
sample_size idc bytes at = if idc == 255 then after (U 16 ∷ U 16 ∷ []) bytes at else Some at

unfoldable pub aspect_ratio : List ℕ → ℕ → Option ℕ
aspect_ratio bytes at =
    u 1 bytes at >>= (λ present. if present.0 == 1 then u 8 bytes present.1 >>= (λ idc. sample_size idc.0 bytes idc.1) else Some present.1)

-- video_signal_type_present_flag, video_format, video_full_range_flag, colour_description_present_flag with three bytes
unfoldable pub video_signal : List ℕ → ℕ → Option ℕ
video_signal bytes at =
    u 1 bytes at >>= (λ present.
    if present.0 == 1 then after (U 3 ∷ U 1 ∷ []) bytes present.1 >>= after_flagged (U 8 ∷ U 8 ∷ U 8 ∷ []) bytes else Some present.1)

-- overscan_info_present_flag with overscan_appropriate_flag; the video signal; chroma_loc_info_present_flag with two types;
-- timing_info_present_flag with num_units_in_tick, time_scale and fixed_frame_rate_flag; nal_hrd_parameters_present_flag
unfoldable pub hrd_place : List ℕ → ℕ → Option ℕ
hrd_place bytes at =
    aspect_ratio bytes at >>= after_flagged (U 1 ∷ []) bytes >>= video_signal bytes >>= after_flagged (Ue ∷ Ue ∷ []) bytes
    >>= after_flagged (U 32 ∷ U 32 ∷ U 1 ∷ []) bytes >>= where_set bytes

-- 4. The HRD parameters (E.1.2, E.2.2): cpb_cnt_minus1 (at most 31), bit_rate_scale, cpb_size_scale; for each of the schedules
-- bit_rate_value_minus1, cpb_size_value_minus1, cbr_flag

-- CpbSize: (cpb_size_value_minus1 + 1) * 2^(4 + cpb_size_scale) bits; the scale has four bits
unfoldable pub size_unit : ℕ → ℕ
size_unit scale = 2 ^ (4 + scale % 16)

unfoldable pub last_cpb_size : ℕ → List ℕ → ℕ → Option ℕ
last_cpb_size scale bytes at =
    after (Ue ∷ []) bytes at >>= (λ value_at. option_map (λ value. (value.0 + 1) * size_unit scale) (ue bytes value_at))

-- CpbSize of the schedule of number cpb_cnt_minus1
unfoldable pub cpb_size_after : ℕ → List ℕ → ℕ → Option ℕ
cpb_size_after count bytes at =
    u 4 bytes at >>= (λ rate_scale. u 4 bytes rate_scale.1 >>= (λ scale.
    after_times count (Ue ∷ Ue ∷ U 1 ∷ []) bytes scale.1 >>= last_cpb_size scale.0 bytes))

unfoldable pub hrd_cpb_size : List ℕ → ℕ → Option ℕ
hrd_cpb_size bytes at = ue bytes at >>= (λ count. if nat_le count.0 31 then cpb_size_after count.0 bytes count.1 else None)

-- 5. The values; CpbSize is 0 without HRD parameters of NAL units

unfoldable pub cpb_size : List ℕ → Option ℕ
cpb_size bytes = vui_place bytes >>= hrd_place bytes >>= hrd_cpb_size bytes

unfoldable pub avc_sequence : List ℕ → AvcSequence
avc_sequence unit = record {
  level = level (bytes_of AvcParameters unit);
  cpb_br_nal_factor = cpb_br_nal_factor (profile (bytes_of AvcParameters unit));
  cpb_size = unwrap_or (cpb_size (bytes_of AvcParameters unit)) 0;
}
