use Rattle.std.proofs.Common.{◌≡◌}
use Rattle.packet_sync.specs.FieldsLeftOut.{with_packets}
use Rattle.packet_sync.proofs.left_out.note_packets.Given as goal

abbrev pub invariant-loop-k : goal.invariant-loop-k
invariant-loop-k g l = l.found ≡ with_packets l.k l.bytes l.initial.found
