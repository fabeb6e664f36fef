-- A stream packet by packet.
use Rattle.std.specs.Prelude.{ℕ, if◌then◌else◌, List, [], ◌∷◌, ◌++◌, None, Result, Ok, Err}
use Rattle.ts_packet.specs.declared.packet.PacketError.{PacketError}
use Rattle.ts_packet.specs.declared.packet.PacketError.TheVariants as refusals
use Rattle.ts_packet.specs.Views.{PacketView}
use Rattle.ts_packet.specs.Reading.{packet_at}
use Rattle.ts_packet.specs.PcrBytes.{has_pcr}
use Rattle.monitor.specs.declared.fault.StreamFault.{StreamFault}
use Rattle.monitor.specs.declared.fault.Rule.{Rule}
use Rattle.monitor.specs.declared.fault.Rule.TheVariants as rules
use Rattle.monitor.specs.declared.counts.PacketCounts.{PacketCounts}
use Rattle.monitor.specs.Counts.{packet_counted}
use Rattle.monitor.specs.Recurrences.{RecurrenceState, marked, no_marks}

pub record PacketState : Type 0 where
  pub faults : List StreamFault
  pub packet_counts : List (ℕ × PacketCounts)
  pub pcr : RecurrenceState

abbrev pub no_packets : ℕ → PacketState
no_packets limit_times_rate = record { faults = []; packet_counts = []; pcr = no_marks limit_times_rate }

-- which rule a refused packet fails
unfoldable pub refusal_rule : PacketError → Rule
refusal_rule refusals.Sync = rules.Sync
refusal_rule refusals.ReservedControl = rules.Packet
refusal_rule refusals.FieldTooLong = rules.Packet
refusal_rule refusals.PartTooLong = rules.Packet

abbrev pub plain_fault : ℕ → Rule → StreamFault
plain_fault packet rule = record { packet = packet; rule = rule; pid = None }

abbrev pub packet_failed : PacketState → ℕ → Rule → PacketState
packet_failed s index rule = record { faults = s.faults ++ plain_fault index rule ∷ []; packet_counts = s.packet_counts; pcr = s.pcr }

unfoldable pub packet_counted_by : PacketState → ℕ → PacketView → PacketState
packet_counted_by s index packet = if packet.header.transport_error_indicator then packet_failed s index rules.Error else record {
  faults = s.faults;
  packet_counts = packet_counted s.packet_counts packet.header.pid packet.header.payload_unit_start_indicator;
  pcr = if has_pcr packet.adaptation then marked s.pcr packet.header.pid index else s.pcr;
}

unfoldable pub packet_watched_by : PacketState → ℕ → Result PacketView PacketError → PacketState
packet_watched_by s index (Ok packet) = packet_counted_by s index packet
packet_watched_by s index (Err error) = packet_failed s index (refusal_rule error)

abbrev pub packet_watched : PacketState → ℕ → List ℕ → PacketState
packet_watched s index bytes = packet_watched_by s index (packet_at bytes)
