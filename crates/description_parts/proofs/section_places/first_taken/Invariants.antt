use Rattle.std.proofs.Common.{◌≡◌, ◌≤◌, ◌+◌, ◌*◌, [], take, drop, sum_by}
use Rattle.description_parts.specs.Cuts.{taken}
use Rattle.description_parts.proofs.section_places.first_taken.Given as goal

abbrev pub invariant-loop-place : goal.invariant-loop-place
invariant-loop-place l = record {
  bytes : l.bytes ≡ l.used + sum_by (λ n. n) (take l.place l.lengths);
  few : l.bytes ≤ 65535 + 65535 * l.place;
  count : taken (λ n. n) l.room l.used [] l.lengths
      ≡ l.place + taken (λ n. n) l.room l.used (take l.place l.lengths) (drop l.place l.lengths);
}
