use Rattle.std.proofs.Common.{◌≡◌, map, take}
use Rattle.job_units.specs.Declarations.{measured}
use Rattle.job_units.proofs.stream_measures.all_measured.Given as goal

abbrev pub invariant-loop-stream : goal.invariant-loop-stream
invariant-loop-stream l = l.all.items ≡ map measured (take l.stream-index l.streams)
