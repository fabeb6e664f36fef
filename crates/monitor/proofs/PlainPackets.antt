-- Packets without findings that have only a payload.
use Rattle.std.proofs.Common.{◌≡◌, ℕ, false, List, [], Ok, refl}
use Rattle.ts_packet.specs.Reading.{packet_at}
use Rattle.pid_findings.specs.GoingOn.{pid_in, plain_view}
use Rattle.demux.specs.Stream as stream
use Rattle.demux.specs.StreamBodies.{headers_taken}
use Rattle.monitor.specs.Counts.{packet_counted}
use Rattle.monitor.specs.FindingStates.{all_noted}
use Rattle.monitor.specs.MonitorStates.{MonitorState, packet_taken}
use Rattle.monitor.specs.PacketStates.{PacketState, packet_counted_by, packet_watched, packet_watched_by}

pub plain_watched : (s : PacketState) (index : ℕ) (bytes : List ℕ) → packet_at bytes ≡ Ok (plain_view bytes) →
    record s { packet_counts = packet_counted s.packet_counts (pid_in bytes) false } ≡ packet_watched s index bytes
unfolding packet_counted_by packet_watched_by
plain_watched s index bytes plain = rw plain refl

pub plain_taken : (s : MonitorState) (bytes : List ℕ) → stream.found_in s.demux bytes ≡ [] →
    record s { demux = headers_taken s.demux bytes; packets = stream.next_packet s.packets; seen = packet_watched s.seen s.packets bytes } ≡ packet_taken s
    bytes
unfolding all_noted
plain_taken s bytes none = rw none refl
