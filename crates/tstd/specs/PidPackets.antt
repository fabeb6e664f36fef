-- The packets of a PID, packet by packet.
use Rattle.std.specs.Prelude.{ℕ, ◌+◌, List, [], ◌∷◌, length, Option, Some, None, Result, Ok, Err, if◌then◌else◌}
use Rattle.ts_packet.specs.declared.packet.PacketError.{PacketError}
use Rattle.ts_packet.specs.Views.{PacketView}
use Rattle.ts_packet.specs.Reading.{packet_at}
use Rattle.ts_packet.specs.PidList.{is_of_pid, payload_of}
use Rattle.unit_timing.specs.Schedule.{Packet}

-- the size of the payload that a packet carries on a PID, if the packet is on this PID
unfoldable pub size_in : ℕ → Result PacketView PacketError → Option ℕ
size_in pid (Ok packet) = if is_of_pid pid packet then Some (length (payload_of packet)) else None
size_in pid (Err _) = None

-- a packet of this size in front of a list of packets
abbrev pub listed : ℕ → Option ℕ → List Packet → List Packet
listed index None packets = packets
listed index (Some size) packets = record { slot = index; size = size } ∷ packets

-- the packets of a PID among these packets of 188 bytes, which have the indices from `index` on
unfoldable pub packets_from : ℕ → ℕ → List (List ℕ) → List Packet
packets_from pid index [] = []
packets_from pid index (chunk ∷ chunks) = listed index (size_in pid (packet_at chunk)) (packets_from pid (index + 1) chunks)
