use Rattle.std.proofs.Common.{◌≤◌, ◌++◌, ◌-◌, ℕ, List, length, drop}
use Rattle.packet_sync.specs.declared.slip.Slip.{Slip}
use Rattle.es_feed.specs.Watching.{AreSlips}
use Rattle.es_feed.proofs.slip_watch.watch_decided.Given as goal

abbrev pub invariant-loop-at : goal.invariant-loop-at
invariant-loop-at l = record {
  within : l.at ≤ length l.bytes;
  taken : (stream : List ℕ) (gone : List Slip) → AreSlips stream l.ended l.bytes l.fn.place (gone ++ l.fn.found.items) →
      AreSlips stream l.ended (drop l.at l.bytes) l.place (gone ++ l.found.items);
}

abbrev pub decreases-loop-at : goal.decreases-loop-at
decreases-loop-at l = length l.bytes - l.at
