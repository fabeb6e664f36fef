-- The buffers that a decoder has for a stream (ISO/IEC 13818-1, 2.4.2.3): the rate out of its transport buffer in bits a second, and
-- its main buffer in bytes, which of video is the elementary stream buffer, behind a multiplexing buffer.
use Rattle.std.specs.Prelude.{ℕ, ◌+◌, ◌*◌, ◌/◌, ◌==◌, nat_le, nat_lt, min, max, if◌then◌else◌, List, find, Option, option_map}
use Rattle.std.specs.Option.{option_map_or}
use Rattle.unit_timing.specs.declared.multiplexing_buffer.MultiplexingBuffer.{MultiplexingBuffer}
use Rattle.stream_coding.specs.declared.coding.Coding.{Coding}
use Rattle.stream_coding.specs.declared.coding.Coding.TheVariants.{Mpeg, Avc, Hevc, Jpeg2000, Audio, Aac, Ac3, Pcm, Subtitles, Teletext, Other}
use Rattle.stream_coding.specs.declared.coding.J2kLimits.{J2kLimits}
use Rattle.es_buffers.specs.declared.buffers.Buffers.{Buffers}
use Rattle.es_buffers.specs.declared.buffers.PidBuffers.{PidBuffers}
use Rattle.es_buffers.specs.declared.video_buffers.VideoBuffers.{VideoBuffers}
use Rattle.es_buffers.specs.Video.{avc_buffers, hevc_buffers, mpeg_buffers, video_buffers}

-- bits a second and bytes, at most what a description can declare
abbrev pub declared_rate : ℕ → ℕ
declared_rate rate = min rate 200_000_000

abbrev pub declared_bytes : ℕ → ℕ
declared_bytes bits = min (bits / 8) 10_000_000

-- the buffers of video; the main buffer is EB
abbrev pub elementary : VideoBuffers → Buffers
elementary v = record { rx = declared_rate v.rx; main = declared_bytes v.ebs }

-- by the number of channels
unfoldable pub aac_buffers : ℕ → Buffers
aac_buffers channels =
    if nat_le channels 2 then record { rx = 2_000_000; main = 3_584 }
    else (if nat_le channels 8 then record { rx = 5_529_600; main = 8_976 }
    else (if nat_le channels 12 then record { rx = 8_294_400; main = 12_804 }
    else record { rx = 33_177_600; main = 51_216 }))

-- SMPTE 302M: 1.2 times the rate of pairs of channels of 24 bits, 56 bits a sample with their flags at 48,000 samples a second
abbrev pub pcm_buffers : ℕ → Buffers
pcm_buffers pairs = record { rx = declared_rate (3_225_600 * pairs); main = 65_536 }

-- JPEG 2000: 1.2 times its greatest rate, and its buffer size, in bytes; the greatest values that a description can declare if it has none
unfoldable pub j2k_buffers : J2kLimits → Buffers
j2k_buffers l = record {
  rx = if l.max_bit_rate == 0 then 200_000_000 else declared_rate (max (l.max_bit_rate * 12 / 10) 2_000_000);
  main = if l.max_buffer_size == 0 then 10_000_000 else min l.max_buffer_size 10_000_000;
}

unfoldable pub buffers_of : Coding → Buffers
buffers_of (Mpeg sequence) = elementary (mpeg_buffers sequence)
buffers_of (Avc sequence) = elementary (avc_buffers sequence)
buffers_of (Hevc sequence) = elementary (hevc_buffers sequence)
buffers_of (Jpeg2000 limits) = j2k_buffers limits
buffers_of Audio = record { rx = 2_000_000; main = 3_584 }
buffers_of (Aac channels) = aac_buffers channels
buffers_of Ac3 = record { rx = 2_000_000; main = 5_696 }
buffers_of (Pcm pairs) = pcm_buffers pairs
buffers_of Subtitles = record { rx = 400_000; main = 24_576 }
buffers_of Teletext = record { rx = 6_750_000; main = 1_504 }
buffers_of Other = record { rx = 2_000_000; main = 65_536 }

-- MB, which of the streams video alone has
unfoldable pub multiplexing : VideoBuffers → MultiplexingBuffer
multiplexing v = record { rbx = declared_rate v.rbx; size = declared_bytes v.mbs }

abbrev pub multiplexing_of : Coding → Option MultiplexingBuffer
multiplexing_of coding = option_map multiplexing (video_buffers coding)

-- with MB and EB as one main buffer
abbrev pub joined_size : ℕ → Option MultiplexingBuffer → ℕ
joined_size main before = min (main + option_map_or (λ m. m.size) before 0) 10_000_000

abbrev pub joined_buffers_of : Coding → Buffers
joined_buffers_of coding = record { rx = (buffers_of coding).rx; main = joined_size (buffers_of coding).main (multiplexing_of coding) }

-- the coding of a stream that keeps to no buffer size: with the greatest size of its level
unfoldable pub without_size : Coding → Coding
without_size (Mpeg s) = Mpeg (record { profile_and_level = s.profile_and_level; bit_rate = s.bit_rate; vbv_buffer_size = 0 })
without_size (Avc s) = Avc (record { level = s.level; cpb_br_nal_factor = s.cpb_br_nal_factor; cpb_size = 0 })
without_size coding = coding

-- the coding of a stream with a unit of `size` bytes: it does not keep to a buffer that does not hold the unit
unfoldable pub coding_holding : ℕ → Coding → Coding
coding_holding size coding = if nat_lt (buffers_of coding).main size then without_size coding else coding

-- the buffers that are given for a PID, the first if there are several
unfoldable pub given_buffers : List PidBuffers → ℕ → Option Buffers
given_buffers given pid = option_map (λ one. one.buffers) (find (λ one. one.pid == pid) given)
