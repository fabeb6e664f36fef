use Rattle.std.proofs.Common.{◌≡◌, ◌-◌, ◌^◌, min, take}
use Rattle.std.specs.Prelude.{sum_by}
use Rattle.stream_choice.specs.Rates.{recurring_part}
use Rattle.stream_choice.proofs.rates.recurring_parts.Given as goal

abbrev pub invariant-loop-item : goal.invariant-loop-item
invariant-loop-item l = l.total ≡ min (sum_by (recurring_part l.rate) (take l.item-index l.recurring)) (2 ^ 128 - 1)
