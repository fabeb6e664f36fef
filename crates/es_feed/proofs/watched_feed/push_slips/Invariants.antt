use Rattle.std.proofs.Common.{◌≡◌, ◌++◌, drop, map}
use Rattle.es_feed.specs.Watching.{slip_fed}
use Rattle.es_feed.proofs.watched_feed.push_slips.Given as goal

abbrev pub invariant-loop-slip : goal.invariant-loop-slip
invariant-loop-slip l = l.initial.fed.items ++ map slip_fed l.found ≡ l.fed.items ++ map slip_fed (drop l.slip-index l.found)
