-- A stream of whole packets, packet by packet. Bodies of PES packets are no part of it.
use Rattle.std.specs.Prelude.{ℕ, ◌*◌, Bool, if◌then◌else◌, List, [], ◌∷◌}
use Rattle.demux.specs.Stream as stream
use Rattle.demux.specs.Stream.{StreamState}
use Rattle.demux.specs.StreamBodies.{headers_taken}
use Rattle.monitor.specs.PacketStates.{PacketState, no_packets, packet_failed, packet_watched}
use Rattle.monitor.specs.TableStates.{table_marked}
use Rattle.monitor.specs.declared.fault.Rule.TheVariants as rules
use Rattle.monitor.specs.FindingStates.{FindingState, all_noted, none_noted}

pub record MonitorState : Type 0 where
  pub demux : StreamState
  pub packets : ℕ
  pub seen : PacketState
  pub found : FindingState

abbrev pub none_taken : ℕ → ℕ → MonitorState
none_taken rate pcr_limit = record { demux = stream.start; packets = 0; seen = no_packets (pcr_limit * rate); found = none_noted rate }

abbrev pub packet_taken : MonitorState → List ℕ → MonitorState
packet_taken s bytes = record {
  demux = headers_taken s.demux bytes;
  packets = stream.next_packet s.packets;
  seen = packet_watched s.seen s.packets bytes;
  found = all_noted s.found (stream.found_in s.demux bytes);
}

unfoldable pub packets_taken : MonitorState → List (List ℕ) → MonitorState
packets_taken s [] = s
packets_taken s (bytes ∷ packets) = packets_taken (packet_taken s bytes) packets

-- after the end of the stream, which may lie within a packet
unfoldable pub seen_to_end : PacketState → ℕ → Bool → PacketState
seen_to_end seen packets cut = if cut then packet_failed seen packets rules.Cut else seen

-- the last gap of the program association table ends with the stream
unfoldable pub pat_marked : FindingState → ℕ → FindingState
pat_marked found packets = record found { pat = table_marked found.pat packets }

-- with what the end decides of each PID
unfoldable pub found_to_end : FindingState → ℕ → StreamState → FindingState
found_to_end found packets demux = pat_marked (all_noted found (stream.ended_found demux.packets demux.states)) packets

unfoldable pub stream_ended : MonitorState → Bool → MonitorState
stream_ended s cut = record {
  demux = s.demux;
  packets = s.packets;
  seen = seen_to_end s.seen s.packets cut;
  found = found_to_end s.found s.packets s.demux;
}
