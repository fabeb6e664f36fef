use Rattle.std.proofs.Common.{◌≡◌, None, drop}
use Rattle.es_moments.specs.Merging as spec
use Rattle.es_moments.proofs.merging.next_stream.Given as goal

abbrev pub invariant-loop-k : goal.invariant-loop-k
invariant-loop-k l = spec.next_head 0 None l.heads ≡ spec.next_head l.k l.best (drop l.k l.heads)
