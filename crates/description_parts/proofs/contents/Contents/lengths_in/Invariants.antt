use Rattle.std.proofs.Common.{◌≡◌, ◌≤◌, map, take, length}
use Rattle.description_parts.specs.Tables.{most_bytes, nit_lengths, nit_parts, room_length}
use Rattle.description_parts.proofs.contents.Contents.lengths_in.Given as goal

abbrev pub invariant-loop-part : goal.invariant-loop-part
invariant-loop-part l = record {
  lengths : l.lengths.items
      ≡ map (room_length most_bytes l.self.rooms.nit) (nit_lengths l.network 0 (take l.part (nit_parts l.self l.network)));
  few : length l.lengths.items ≤ l.part;
}
