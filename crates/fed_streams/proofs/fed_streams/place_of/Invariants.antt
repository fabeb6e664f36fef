use Rattle.std.proofs.Common.{◌≡◌, drop}
use Rattle.fed_streams.specs.Feeding.{place_from}
use Rattle.fed_streams.proofs.fed_streams.place_of.Given as goal

abbrev pub invariant-loop-k : goal.invariant-loop-k
invariant-loop-k l = place_from l.pid 0 l.streams ≡ place_from l.pid l.k (drop l.k l.streams)
