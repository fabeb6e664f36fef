-- The buffers of a decoder for video (ISO/IEC 13818-1, 2.4.2.3), by the level and the headers of the stream.
use Rattle.std.specs.Prelude.{ℕ, ◌+◌, ◌-◌, ◌*◌, ◌/◌, ◌%◌, ◌==◌, ◌&&◌, ◌||◌, nat_le, min, max, Bool, if◌then◌else◌, Option, Some, None}
use Rattle.stream_coding.specs.declared.coding.Coding.{Coding}
use Rattle.stream_coding.specs.declared.coding.Coding.TheVariants.{Mpeg, Avc, Hevc}
use Rattle.stream_coding.specs.declared.coding.MpegSequence.{MpegSequence}
use Rattle.stream_coding.specs.declared.coding.AvcSequence.{AvcSequence}
use Rattle.stream_coding.specs.declared.coding.HevcSequence.{HevcSequence}
use Rattle.es_buffers.specs.declared.video_buffers.VideoBuffers.{VideoBuffers}

-- 1. Levels

-- BSmux and BSoh: the bits of 4 ms for multiplexing and of a 750th of a second for headers, at a rate
abbrev pub mux_bits : ℕ → ℕ
mux_bits rate = 4 * rate / 1000 + rate / 750

-- Rmax in bits a second and VBVmax in bits by profile_and_level_indication: ISO/IEC 13818-2, 8.1 to 8.3, tables 8-13 and 8-14. Low, main, high-1440 and high
-- level of the profiles without layers of another rate; main level if no table has the level
unfoldable pub main_profile_limits : ℕ → ℕ × ℕ
main_profile_limits level =
    if level == 10 then (4_000_000, 475_136)
    else (if level == 6 then (60_000_000, 7_340_032)
    else (if level == 4 then (80_000_000, 9_781_248)
    else (15_000_000, 1_835_008)))

-- high profile, of all its layers
unfoldable pub high_profile_limits : ℕ → ℕ × ℕ
high_profile_limits level =
    if level == 6 then (80_000_000, 9_781_248)
    else (if level == 4 then (100_000_000, 12_222_464)
    else (20_000_000, 2_441_216))

-- with the escape bit: 4:2:2 profile at high and at main level
unfoldable pub escaped_limits : ℕ → ℕ × ℕ
escaped_limits indication =
    if indication == 0x82 then (300_000_000, 47_185_920)
    else (if indication == 0x85 then (50_000_000, 9_437_184)
    else (15_000_000, 1_835_008))

-- the escape bit is the first of eight, a profile, 1 for high profile, the three after it, a level the last four
unfoldable pub mpeg_limits : ℕ → ℕ × ℕ
mpeg_limits indication =
    if nat_le 128 indication then escaped_limits indication
    else (if indication / 16 == 1 then high_profile_limits (indication % 16)
    else main_profile_limits (indication % 16))

-- MaxBR and MaxCPB of a level: ISO/IEC 14496-10, table A-1
unfoldable pub avc_limits : ℕ → ℕ × ℕ
avc_limits level =
    if level == 10 then (64, 175)
    else (if level == 9 then (128, 350)
    else (if level == 11 then (192, 500)
    else (if level == 12 then (384, 1_000)
    else (if level == 13 then (768, 2_000)
    else (if level == 20 then (2_000, 2_000)
    else (if level == 21 then (4_000, 4_000)
    else (if level == 22 then (4_000, 4_000)
    else (if level == 30 then (10_000, 10_000)
    else (if level == 31 then (14_000, 14_000)
    else (if level == 32 then (20_000, 20_000)
    else (if level == 41 then (50_000, 62_500)
    else (if level == 42 then (50_000, 62_500)
    else (if level == 50 then (135_000, 135_000)
    else (if level == 51 then (240_000, 240_000)
    else (if level == 52 then (240_000, 240_000)
    else (if level == 60 then (240_000, 240_000)
    else (if level == 61 then (480_000, 480_000)
    else (if level == 62 then (800_000, 800_000)
    else (20_000, 25_000)))))))))))))))))))

-- MaxBR and MaxCPB of a level in the high tier, which the levels from 4 on have: ISO/IEC 23008-2, tables A.8 and A.9
unfoldable pub high_tier_limits : ℕ → ℕ × ℕ
high_tier_limits level =
    if level == 123 then (50_000, 50_000)
    else (if level == 150 then (100_000, 100_000)
    else (if level == 153 then (160_000, 160_000)
    else (if level == 156 then (240_000, 240_000)
    else (if level == 180 then (240_000, 240_000)
    else (if level == 183 then (480_000, 480_000)
    else (if level == 186 then (800_000, 800_000)
    else (30_000, 30_000)))))))

-- the same in the main tier
unfoldable pub main_tier_limits : ℕ → ℕ × ℕ
main_tier_limits level =
    if level == 30 then (128, 350)
    else (if level == 60 then (1_500, 1_500)
    else (if level == 63 then (3_000, 3_000)
    else (if level == 90 then (6_000, 6_000)
    else (if level == 93 then (10_000, 10_000)
    else (if level == 123 then (20_000, 20_000)
    else (if level == 150 then (25_000, 25_000)
    else (if level == 153 then (40_000, 40_000)
    else (if level == 156 then (60_000, 60_000)
    else (if level == 180 then (60_000, 60_000)
    else (if level == 183 then (120_000, 120_000)
    else (if level == 186 then (240_000, 240_000)
    else (12_000, 12_000))))))))))))

-- MaxBR and MaxCPB by level and tier; a level below 4 has the main tier alone
unfoldable pub hevc_limits : HevcSequence → ℕ × ℕ
hevc_limits s =
    if s.high_tier && (nat_le 120 s.level || s.level == 0) then high_tier_limits s.level else main_tier_limits s.level

-- 2. Video: bytes go at Rx bits a second into MB, of MBS bits, and from it at Rbx into EB, of EBS bits (2.4.2.3, 2.14.3.1, 2.17.2)

-- the size of a buffer by the stream's headers, at most the greatest of its level; the greatest if they have none, 0
unfoldable pub said_or_greatest : ℕ → ℕ → ℕ
said_or_greatest said greatest = if said == 0 then greatest else min said greatest

-- MBS if MB has the part of the level's greatest buffer that EB does not take
abbrev pub shared_mbs : ℕ → ℕ → ℕ → ℕ
shared_mbs rate greatest ebs = mux_bits rate + (greatest - ebs)

-- MPEG-2: EBS is vbv_buffer_size, Rx 1.2 Rmax. At low and main level Rbx is Rmax, and MBS the rest of VBVmax, with BSmux and BSoh; at high-1440 and high level
-- Rbx is 1.05 Res, with Res the stream's bit_rate, at most Rmax, and MBS is BSmux and BSoh
unfoldable pub is_high : ℕ → Bool
is_high indication =
    if nat_le 128 indication then indication == 0x82 else (indication % 16 == 6 || indication % 16 == 4)

abbrev pub mpeg_ebs : MpegSequence → ℕ
mpeg_ebs s = said_or_greatest (16_384 * s.vbv_buffer_size) (mpeg_limits s.profile_and_level).1

unfoldable pub mpeg_rbx : MpegSequence → ℕ
mpeg_rbx s =
    if is_high s.profile_and_level then said_or_greatest (420 * s.bit_rate) (mpeg_limits s.profile_and_level).0
    else (mpeg_limits s.profile_and_level).0

unfoldable pub mpeg_mbs : MpegSequence → ℕ
mpeg_mbs s =
    if is_high s.profile_and_level then mux_bits (mpeg_limits s.profile_and_level).0
    else shared_mbs (mpeg_limits s.profile_and_level).0 (mpeg_limits s.profile_and_level).1 (mpeg_ebs s)

abbrev pub mpeg_buffers : MpegSequence → VideoBuffers
mpeg_buffers s = record { rx = (mpeg_limits s.profile_and_level).0 * 12 / 10; ebs = mpeg_ebs s; rbx = mpeg_rbx s; mbs = mpeg_mbs s }

-- AVC and HEVC: EBS is the stream's CpbSize, Rx the level's greatest rate of its profile, at least 2,000,000, and Rbx the same
abbrev pub least_rate : ℕ → ℕ
least_rate rate = max rate 2_000_000

abbrev pub level_buffers : ℕ → ℕ → ℕ → VideoBuffers
level_buffers rate greatest said = record {
  rx = least_rate rate;
  ebs = said_or_greatest said greatest;
  rbx = least_rate rate;
  mbs = shared_mbs (least_rate rate) greatest (said_or_greatest said greatest);
}

abbrev pub avc_buffers : AvcSequence → VideoBuffers
avc_buffers s = level_buffers (s.cpb_br_nal_factor * (avc_limits s.level).0) (s.cpb_br_nal_factor * (avc_limits s.level).1) s.cpb_size

abbrev pub hevc_buffers : HevcSequence → VideoBuffers
hevc_buffers s = level_buffers (s.br_nal_factor * (hevc_limits s).0) (s.cpb_nal_factor * (hevc_limits s).1) 0

-- the buffers of a coding, if it is of video
unfoldable pub video_buffers : Coding → Option VideoBuffers
video_buffers (Mpeg sequence) = Some (mpeg_buffers sequence)
video_buffers (Avc sequence) = Some (avc_buffers sequence)
video_buffers (Hevc sequence) = Some (hevc_buffers sequence)
video_buffers _ = None
