use Rattle.std.proofs.Common.{◌≡◌, ◌≤◌, ◌+◌, ◌*◌, ◌^◌, ◌++◌, drop}
use Rattle.es_moments.specs.MadeDts.{moments_after}
use Rattle.es_moments.proofs.moments.moments_of.Given as goal

abbrev pub invariant-loop-at : goal.invariant-loop-at
invariant-loop-at g l = record {
  made : moments_after (2 ^ 100) l.stamps ≡ l.moments.items ++ moments_after l.last (drop l.at l.stamps);
  low : 2 ^ 100 ≤ l.last + l.at * 2 ^ 32;
  high : l.last ≤ 2 ^ 100 + l.at * 2 ^ 32;
}
