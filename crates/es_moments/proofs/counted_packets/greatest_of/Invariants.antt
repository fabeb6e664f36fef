use Rattle.std.proofs.Common.{◌≤◌, ◌<◌, ◌^◌, ℕ, get_or}
use Rattle.es_moments.proofs.counted_packets.greatest_of.Given as goal

abbrev pub invariant-loop-number : goal.invariant-loop-number
invariant-loop-number l = record {
  most : (i : ℕ) → i < l.number-index → get_or l.numbers i 0 ≤ l.greatest;
  bound : l.greatest ≤ 2 ^ 56;
}
