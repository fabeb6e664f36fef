-- The clock reference of a packet (ISO/IEC 13818-1, 2.4.3.4 and 2.4.3.5).
use Rattle.std.specs.Prelude.{ℕ, ◌==◌, Bool, false, if◌then◌else◌, Option, Some, None, Result, Ok, Err, List}
use Rattle.clock27.specs.Reference.{Reference}
use Rattle.ts_packet.specs.Reading.{packet_at}
use Rattle.ts_packet.specs.Views.{FieldView, AdaptationView, NoFlags, WithFlags, PacketView}
use Rattle.ts_packet.specs.declared.packet.PacketError.{PacketError}
use Rattle.packet_pcr.specs.declared.pcr_reading.FoundPcr.{FoundPcr}

-- its base alone, in units of 90 kHz
unfoldable pub pcr_with : ℕ → ℕ → Bool → Option Reference → Option FoundPcr
pcr_with packet pid discontinuity None = None
pcr_with packet pid discontinuity (Some pcr) = Some (record { packet = packet; pid = pid; base = pcr.base; discontinuity = discontinuity })

abbrev pub pcr_in_field : ℕ → ℕ → FieldView → Option FoundPcr
pcr_in_field packet pid parts = pcr_with packet pid parts.discontinuity_indicator parts.pcr

unfoldable pub pcr_in : ℕ → ℕ → Option AdaptationView → Option FoundPcr
pcr_in packet pid None = None
pcr_in packet pid (Some NoFlags) = None
pcr_in packet pid (Some (WithFlags parts)) = pcr_in_field packet pid parts

-- a packet with transport_error_indicator has none
unfoldable pub pcr_read : ℕ → Result PacketView PacketError → Option FoundPcr
pcr_read index (Err error) = None
pcr_read index (Ok packet) = if packet.header.transport_error_indicator then None else pcr_in index packet.header.pid packet.adaptation

abbrev pub pcr_at : ℕ → List ℕ → Option FoundPcr
pcr_at index bytes = pcr_read index (packet_at bytes)

-- the PCR belongs to the clock on this PID
unfoldable pub is_on : ℕ → Option ℕ → Bool
is_on pid None = false
is_on pid (Some other) = other == pid
