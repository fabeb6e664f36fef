use Rattle.std.proofs.Common.{◌≡◌, ◌≤◌, length}
use Rattle.tstd.specs.DepartureWalk.{left_ahead, walk_residence}
use Rattle.tstd.proofs.departures.Departures.next.Given as goal

abbrev pub invariant-loop-self : goal.invariant-loop-self
invariant-loop-self l = record {
  ahead : left_ahead l.self ≡ left_ahead l.fn.self;
  longest_residence : walk_residence l.self ≡ walk_residence l.fn.self;
  rx : l.self.rx ≡ l.fn.self.rx;
  step : l.self.queue.step ≡ l.fn.self.queue.step;
  onward : l.fn.self.byte ≤ l.self.byte;
}

abbrev pub decreases-loop-self : goal.decreases-loop-self
decreases-loop-self l = length l.self.packets.now
