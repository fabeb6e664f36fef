use Rattle.std.proofs.Common.{◌≡◌, ◌≤◌, ◌+◌, ◌^◌}
use Rattle.own_slots.specs.Extremes.{greatest}
use Rattle.stream_choice.specs.Shares.{row_share}
use Rattle.stream_choice.proofs.shares.share_for_time.Given as goal

abbrev pub invariant-loop-before : goal.invariant-loop-before
invariant-loop-before l = record {
  greatest : l.greatest ≡ greatest l.before (λ before. row_share l.needs l.packets l.free (before + 1));
  upper : l.greatest ≤ 2 ^ 61;
}
