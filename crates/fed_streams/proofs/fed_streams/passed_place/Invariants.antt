use Rattle.std.proofs.Common.{◌≡◌, drop}
use Rattle.fed_streams.specs.Ticks.{passed_from}
use Rattle.fed_streams.proofs.fed_streams.passed_place.Given as goal

abbrev pub invariant-loop-k : goal.invariant-loop-k
invariant-loop-k l = passed_from l.origin l.late 0 l.streams ≡ passed_from l.origin l.late l.k (drop l.k l.streams)
