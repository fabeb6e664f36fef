-- The units of a stream that a transport stream carries.
use Rattle.std.specs.Prelude.{ℕ, ◌||◌, nat_eq, Bool, List, map, filter, length}
use Rattle.std.specs.List.{concat, starts_with}
use Rattle.pes_packet.specs.AccessUnits.{AccessUnit}
use Rattle.pes_packet.specs.Encoding.{pes_packet_bytes}
use Rattle.pes_packet.specs.Marks.{field_size}
use Rattle.pes_packet.specs.Units.{pes_packets_of}
use Rattle.ts_packet.specs.PidList.{entries_of, is_of_pid, pid_list, payload_of, payloads_on}
use Rattle.unit_timing.specs.Schedule.{Packet}
use Rattle.unit_timing.specs.PesPacket.{PesPacket}

-- the PES packets of units in the model of timing: the decoding time stamp, the size in bytes, and the bytes in front of them
abbrev pub timed_pes_packets : ℕ → ℕ → List AccessUnit → List PesPacket
timed_pes_packets id base0 units = map (λ u. record { dts = u.dts; size = length (pes_packet_bytes id base0 u); front = field_size u.marks.random_access })
    units

-- the packets of a PID in the model of timing: each with its index and the size of its payload in bytes
abbrev pub packets_on : ℕ → List ℕ → List Packet
packets_on pid bytes = map (λ entry. record { slot = entry.index; size = length (payload_of entry.packet) }) (pid_list pid bytes)

-- the indices of the packets that enter the buffers of the tables of a program: the packets of the PAT and of its PMT
abbrev pub table_packets : ℕ → List ℕ → List ℕ
table_packets pmt_pid bytes =
    map (λ entry. entry.index) (filter (λ entry. is_of_pid 0 entry.packet || is_of_pid pmt_pid entry.packet) (entries_of bytes))

-- the payloads of a PID are a beginning of the PES packets of these units
abbrev pub carries : ℕ → ℕ → ℕ → List AccessUnit → List ℕ → Bool
carries pid id base0 units bytes = starts_with nat_eq (concat (pes_packets_of id base0 units)) (payloads_on pid bytes)
