use Rattle.std.proofs.Common.{◌≡◌, ◌≤◌, ◌++◌, ◌-◌, ℕ, List, Some, length}
use Rattle.packet_sync.specs.PacketBytes.{AreInner}
use Rattle.packet_sync.proofs.packet_bytes.push_inner.Given as goal

abbrev pub invariant-loop-at : goal.invariant-loop-at
invariant-loop-at l = record {
  within : l.at ≤ length l.bytes;
  pushed : (found : List ℕ) × (l.packets.items ≡ l.fn.packets.items ++ found) × AreInner (Some l.other) l.bytes l.ended found l.at;
}

abbrev pub decreases-loop-at : goal.decreases-loop-at
decreases-loop-at l = length l.bytes - l.at
