use Rattle.std.proofs.Common.{[], List, ℕ, sym, subst}
use Rattle.other_tables.specs.PidCounts.{AreCounts}
use Rattle.other_tables.proofs.PidCounts.{zeroes}
use Rattle.other_tables.proofs.tables.no_counts.Goals as goal

pub returns : goal.returns
returns c = subst (λ (xs : List ℕ). AreCounts xs []) (sym (c.in_ok-vec.ensures.items_if_clones_equal (λ x same. same))) zeroes
