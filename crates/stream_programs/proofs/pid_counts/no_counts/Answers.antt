use Rattle.std.proofs.Common.{[], List, ℕ, sym, subst}
use Rattle.stream_programs.specs.PesCounts.{AreCounts}
use Rattle.stream_programs.proofs.PesCounts.{zeroes}
use Rattle.stream_programs.proofs.pid_counts.no_counts.Goals as goal

pub returns : goal.returns
returns g c = subst (λ (xs : List ℕ). AreCounts xs []) (sym (c.in_ok-vec.ensures.items_if_clones_equal (λ x same. same))) zeroes
