-- The program clock reference of a packet (ISO/IEC 13818-1, 2.4.3.4 and 2.4.3.5), at its byte of the stream.
use Rattle.std.specs.Prelude.{ℕ, ◌+◌, ◌*◌, ◌%◌, ◌^◌, nat_le, Bool, if◌then◌else◌, Option, Some, None}
use Rattle.clock27.specs.Reference.{Reference}
use Rattle.ts_packet.specs.Views.{FieldView, AdaptationView, NoFlags, WithFlags, PacketView}
use Rattle.arrival.specs.declared.clock.PcrSample.{PcrSample}

-- the base ends in byte 10 of the packet; its fields have 33 and 9 bits
abbrev pub sample_of : ℕ → Bool → Reference → PcrSample
sample_of index discontinuity pcr = record {
  byte = 188 * index + 10;
  ticks = 300 * (pcr.base % 2 ^ 33) + pcr.extension % 2 ^ 9;
  discontinuity = discontinuity;
}

-- whether that byte lies in the first 2^40
abbrev pub is_near : ℕ → Bool
is_near index = nat_le (188 * index + 10) (2 ^ 40)

unfoldable pub sample_with : ℕ → Bool → Option Reference → Option PcrSample
sample_with index discontinuity None = None
sample_with index discontinuity (Some pcr) = if is_near index then Some (sample_of index discontinuity pcr) else None

abbrev pub sample_in_field : ℕ → FieldView → Option PcrSample
sample_in_field index parts = sample_with index parts.discontinuity_indicator parts.pcr

unfoldable pub sample_in : ℕ → Option AdaptationView → Option PcrSample
sample_in index None = None
sample_in index (Some NoFlags) = None
sample_in index (Some (WithFlags parts)) = sample_in_field index parts

abbrev pub pcr_sample : ℕ → PacketView → Option PcrSample
pcr_sample index packet = sample_in index packet.adaptation
