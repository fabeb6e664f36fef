-- Packets that have only a payload, which continues an open unit: how they are recognised, and the fields that they leave.
use Rattle.std.specs.Prelude.{ℕ, ◌+◌, ◌*◌, ◌%◌, ◌==◌, Bool, true, false, List, drop, slice_index, Option, Some, None}
use Rattle.bit_fields.specs.Fields.{flag}
use Rattle.ts_packet.specs.Views.{PacketView}
use Rattle.ts_packet.specs.PidList.{Entry}
use Rattle.pid_findings.specs.Marks.{LastView}

-- the counter and the PID of a packet
abbrev pub counter_in : List ℕ → ℕ
counter_in bytes = slice_index bytes 3 % 16

abbrev pub pid_in : List ℕ → ℕ
pid_in bytes = slice_index bytes 1 % 32 * 256 + slice_index bytes 2

-- the view of a packet without error, start, scrambling and adaptation field
abbrev pub plain_view : List ℕ → PacketView
plain_view bytes = record {
  header = record {
    transport_error_indicator = false;
    payload_unit_start_indicator = false;
    transport_priority = flag (slice_index bytes 1) 32;
    pid = pid_in bytes;
    transport_scrambling_control = 0;
    continuity_counter = counter_in bytes;
  };
  adaptation = None;
  payload = Some (drop 4 bytes);
}

abbrev pub plain_entry : ℕ → List ℕ → Entry
plain_entry index bytes = record { index = index; bytes = bytes; packet = plain_view bytes }

-- the packet's continuity_counter follows the counter of the last packet
abbrev pub is_next : Option LastView → List ℕ → Bool
is_next None bytes = false
is_next (Some last) bytes = counter_in bytes == (last.counter + 1) % 16

-- the state that keeps such a packet
abbrev pub plain_last : List ℕ → LastView
plain_last bytes = record { duplicate = false; has_payload = true; counter = counter_in bytes; content = bytes }
