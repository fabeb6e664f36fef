use Rattle.std.proofs.Common.{◌≡◌, ◌++◌, map, take}
use Rattle.description_parts.proofs.consistency.push_stream_pids.Given as goal

abbrev pub invariant-loop-stream : goal.invariant-loop-stream
invariant-loop-stream l = l.pids.items ≡ l.initial.pids.items ++ map (λ part. part.pid) (take l.stream-index l.streams)
