use Rattle.std.proofs.Common.{◌≡◌, ◌++◌, length}
use Rattle.fed_streams.specs.Feeding.{fed_last}
use Rattle.fed_streams.specs.Origins.{IsOrigin}
use Rattle.es_feed.proofs.unit_feed.UnitFeed.finish.Given as goal

abbrev pub invariant-streams : goal.invariant-streams
invariant-streams l = record {
  fed : l.initial.fed.items ++ fed_last l.due l.initial.origin l.initial.left.items ≡ l.fed.items ++ fed_last l.due l.origin l.left.items;
  clock : IsOrigin l.origin;
}

abbrev pub decreases-streams : goal.decreases-streams
decreases-streams l = length l.left.items
