use Rattle.std.proofs.Common.{◌≡◌, ◌≤◌, map, take, length}
use Rattle.description_parts.specs.Tables.{sdt_parts, services_length}
use Rattle.description_parts.proofs.contents.Contents.sdt_lengths.Given as goal

abbrev pub invariant-loop-part : goal.invariant-loop-part
invariant-loop-part l = record {
  lengths : l.lengths.items ≡ map (services_length l.self) (take l.part (sdt_parts l.self));
  few : length l.lengths.items ≤ l.part;
}
