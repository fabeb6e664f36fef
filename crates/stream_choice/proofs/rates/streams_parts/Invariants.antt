use Rattle.std.proofs.Common.{◌≡◌, ◌-◌, ◌^◌, min, take}
use Rattle.std.specs.Prelude.{sum_by}
use Rattle.stream_choice.specs.Rates.{stream_part}
use Rattle.stream_choice.proofs.rates.streams_parts.Given as goal

abbrev pub invariant-loop-share : goal.invariant-loop-share
invariant-loop-share l = l.total ≡ min (sum_by (stream_part l.rate) (take l.share-index l.shares)) (2 ^ 128 - 1)
