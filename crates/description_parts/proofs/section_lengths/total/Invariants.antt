use Rattle.std.proofs.Common.{◌≡◌, ◌≤◌, ◌*◌, sum_by, take}
use Rattle.description_parts.proofs.section_lengths.total.Given as goal

abbrev pub invariant-loop-length : goal.invariant-loop-length
invariant-loop-length l = record {
  total : l.total ≡ sum_by (λ n. n) (take l.length-index l.lengths);
  bound : l.total ≤ 65535 * l.length-index;
}
