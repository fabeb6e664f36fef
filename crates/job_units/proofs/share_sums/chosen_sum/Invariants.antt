use Rattle.std.proofs.Common.{◌≡◌, ◌-◌, ◌^◌, min, take}
use Rattle.std.specs.Prelude.{sum_by}
use Rattle.job_units.proofs.share_sums.chosen_sum.Given as goal

abbrev pub invariant-loop-one : goal.invariant-loop-one
invariant-loop-one l = l.sum ≡ min (sum_by (λ s. s.choice.share) (take l.one-index l.chosen)) (2 ^ 64 - 1)
