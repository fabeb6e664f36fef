-- The payloads of a PID and the packets of a program's tables, packet by packet.
use Rattle.std.specs.Prelude.{ℕ, ◌+◌, ◌||◌, Bool, false, List, [], ◌∷◌, ◌++◌, Result, Ok, Err, if◌then◌else◌}
use Rattle.ts_packet.specs.declared.packet.PacketError.{PacketError}
use Rattle.ts_packet.specs.Views.{PacketView}
use Rattle.ts_packet.specs.Reading.{packet_at}
use Rattle.ts_packet.specs.PidList.{is_of_pid, payload_of}

-- the payload that a packet carries on a PID, no bytes if the packet is on another PID
unfoldable pub payload_in : ℕ → Result PacketView PacketError → List ℕ
payload_in pid (Ok packet) = if is_of_pid pid packet then payload_of packet else []
payload_in pid (Err _) = []

-- the payloads of a PID in these packets, joined
unfoldable pub payloads_from : ℕ → List (List ℕ) → List ℕ
payloads_from pid [] = []
payloads_from pid (chunk ∷ chunks) = payload_in pid (packet_at chunk) ++ payloads_from pid chunks

-- a packet enters the buffers of a program's tables
unfoldable pub is_of_tables : ℕ → Result PacketView PacketError → Bool
is_of_tables pmt_pid (Ok packet) = is_of_pid 0 packet || is_of_pid pmt_pid packet
is_of_tables pmt_pid (Err _) = false

-- the indices of the packets that enter these buffers; the first packet has this index
unfoldable pub tables_from : ℕ → ℕ → List (List ℕ) → List ℕ
tables_from pmt_pid index [] = []
tables_from pmt_pid index (chunk ∷ chunks) =
    if is_of_tables pmt_pid (packet_at chunk) then index ∷ tables_from pmt_pid (index + 1) chunks else tables_from pmt_pid (index + 1) chunks
