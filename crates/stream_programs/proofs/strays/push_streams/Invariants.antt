use Rattle.std.proofs.Common.{◌≡◌, ◌++◌, map, drop}
use Rattle.stream_programs.proofs.strays.push_streams.Given as goal

abbrev pub invariant-loop-stream : goal.invariant-loop-stream
invariant-loop-stream g l = l.pids.items ++ map (λ s. s.pid) (drop l.stream-index l.streams) ≡ l.initial.pids.items ++ map (λ s. s.pid) l.streams
