use Rattle.std.proofs.Common.{◌≡◌, ◌≤◌, ◌<◌, ◌+◌, ◌-◌, ◌^◌}
use Rattle.std.specs.Prelude.{slice_index}
use Rattle.own_slots.specs.Extremes.{least}
use Rattle.stream_choice.specs.Shares.{group_share}
use Rattle.stream_choice.proofs.shares.least_share.Given as goal

abbrev pub invariant-loop-i : goal.invariant-loop-i
invariant-loop-i l = record {
  least : l.least ≡ least (2 ^ 64 - 1) l.i (λ i. group_share l.needs (i + 1) (slice_index l.max_packets i));
  lower : 2 ^ 17 ≤ l.least;
  upper : 0 < l.i → l.least ≤ 2 ^ 61;
}
