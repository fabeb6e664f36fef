use Rattle.std.proofs.Common.{[], List, Bool, sym, subst}
use Rattle.other_tables.specs.PidCounts.{AreSeen}
use Rattle.other_tables.proofs.PidCounts.{none_seen}
use Rattle.other_tables.proofs.tables.none_seen.Goals as goal

pub returns : goal.returns
returns c = subst (λ (xs : List Bool). AreSeen xs []) (sym (c.in_ok-vec.ensures.items_if_clones_equal (λ x same. same))) none_seen
