use Rattle.std.proofs.Common.{◌≡◌, ◌-◌, ◌^◌, min, take}
use Rattle.std.specs.Prelude.{sum_by}
use Rattle.job_units.specs.Declarations.{share_of}
use Rattle.job_units.proofs.share_sums.shares_sum.Given as goal

abbrev pub invariant-loop-unit_counts : goal.invariant-loop-unit_counts
invariant-loop-unit_counts l = l.sum ≡ min (sum_by share_of (take l.unit_counts-index l.all)) (2 ^ 64 - 1)
