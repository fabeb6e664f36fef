use Rattle.std.proofs.Common.{◌≡◌, ◌-◌, ◌^◌, min, take}
use Rattle.std.specs.Prelude.{sum_by}
use Rattle.job_units.specs.Moments.{entry_size}
use Rattle.job_inputs.proofs.earliest.entries_size.Given as goal

abbrev pub invariant-loop-stream : goal.invariant-loop-stream
invariant-loop-stream l = l.size ≡ min (sum_by (entry_size l.number) (take l.stream-index l.streams)) (2 ^ 64 - 1)
