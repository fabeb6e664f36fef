use Rattle.std.proofs.Common.{◌≡◌, ◌<◌, ◌%◌, ◌+◌, ◌-◌, ◌++◌, ℕ, List, Option, length}
use Rattle.pes_packet.specs.Marks.{field_size}
use Rattle.mux_core.specs.Buffer.{IsOutput}
use Rattle.mux_core.proofs.UnitPackets.{PartWay}
use Rattle.mux_core.proofs.pid_packets.push_pieces.Given as goal

abbrev pub invariant-pieces : goal.invariant-pieces
invariant-pieces g l = record {
  counter : l.counter < 16;
  inside : l.sent < field_size l.access + length (l.header ++ l.bytes);
  hex : l.packets.hex ≡ l.fn.packets.hex;
  clean : g.W.Sink.fault_count l.to ≡ g.W.Sink.fault_count l.fn.to;
  written : (start : Option (List ℕ)) (all : List ℕ) (number : ℕ) → IsOutput start (g.W.Write.contents l.fn.to) l.fn.packets all → l.fn.counter ≡ number % 16
      → PartWay l.pid number l.fn.packets.hex l.access (l.header ++ l.bytes) l.sent l.counter start (g.W.Write.contents l.to) l.packets all;
}

abbrev pub decreases-pieces : goal.decreases-pieces
decreases-pieces g l = field_size l.access + length (l.header ++ l.bytes) - l.sent
