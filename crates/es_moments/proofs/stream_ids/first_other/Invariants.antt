use Rattle.std.proofs.Common.{◌≡◌, drop}
use Rattle.es_moments.specs.StreamIds.{first_other_at}
use Rattle.es_moments.proofs.stream_ids.first_other.Given as goal

abbrev pub invariant-loop-at : goal.invariant-loop-at
invariant-loop-at g l = first_other_at l.id 0 l.units ≡ first_other_at l.id l.at (drop l.at l.units)
