-- Packets that contain the beginning of another line.
--
-- A line begins at the byte after a clock reference, in the adaptation field of its packet: so the packet's payload comes after the beginning (ISO/IEC
-- 13818-1, 2.4.3.4).
use Rattle.std.specs.Prelude.{◌≡◌, ℕ, ◌+◌, ◌*◌, ◌<◌, ◌≤◌, unwrap_or, List, [], ◌∷◌, length, All, Result, Ok, Err}
use Rattle.ts_packet.specs.declared.packet.PacketError.{PacketError}
use Rattle.ts_packet.specs.Reading.{packet_at}
use Rattle.ts_packet.specs.Views.{PacketView}
use Rattle.arrival.specs.Arrivals.{lead_of}
use Rattle.packet_times.specs.declared.packet_queue.ClockPid.{ClockPid}
use Rattle.laws_view.specs.TimedPackets.{Timed, timed_packets}

-- the number of a packet's payload bytes: 0 if the packet can't be read
unfoldable pub payload_in : Result PacketView PacketError → ℕ
payload_in (Err error) = 0
payload_in (Ok packet) = length (unwrap_or packet.payload [])

abbrev pub payload_size : List ℕ → ℕ
payload_size bytes = payload_in (packet_at bytes)

-- if another line begins within a packet, the packet's whole payload lies on that line; the first of the packets has this index
unfoldable pub AllLead : ℕ → List Timed → Type 0
AllLead index [] = Unit {0}
AllLead index (p ∷ packets) =
    (0 < lead_of p.arrival (188 * index) → lead_of p.arrival (188 * index) + payload_size p.bytes ≤ 188) × AllLead (index + 1) packets

-- this is true of a stream of packets of 188 bytes that arrives by clock references
abbrev pub LeadLaw : Type 0
LeadLaw = (pid : ClockPid) (packets : List (List ℕ)) → All (λ bytes. length bytes ≡ 188) packets → AllLead 0 (timed_packets pid packets)
