use Rattle.std.proofs.Common.{◌≤◌, ◌++◌, ℕ, ◌-◌, List, length, drop}
use Rattle.fed_streams.specs.Feeding.{Fed, FeedView}
use Rattle.es_feed.specs.StreamFeeding.{IsFedBy}
use Rattle.es_feed.proofs.stream_feed.take_decided.Given as goal

abbrev pub invariant-loop-at : goal.invariant-loop-at
invariant-loop-at l = record {
  within : l.at ≤ length l.bytes;
  taken : (first : FeedView) (stream : List ℕ) (gone : List Fed) →
      IsFedBy first stream l.ended (record { held = l.bytes; packets = l.fn.packets }) (gone ++ l.fn.fed.items) →
      IsFedBy first stream l.ended (record { held = drop l.at l.bytes; packets = l.packets }) (gone ++ l.fed.items);
}

abbrev pub decreases-loop-at : goal.decreases-loop-at
decreases-loop-at l = length l.bytes - l.at
