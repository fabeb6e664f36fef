use Rattle.std.proofs.Common.{◌≡◌, List, max, map, take, drop, sum}
use Rattle.unit_timing.specs.PesPacket.{PesPacket, packets_of_unit}
use Rattle.es_moments.specs.Declaration.{max_group}
use Rattle.es_moments.proofs.counted_packets.greatest_row.Given as goal

abbrev pub invariant-loop-at : goal.invariant-loop-at
invariant-loop-at l = record {
  most : (units : List PesPacket) → l.numbers ≡ map packets_of_unit units → max_group l.group units ≡ max l.most (max_group l.group (drop l.at units));
  row : l.row ≡ sum (take l.group (drop l.at l.numbers));
}
