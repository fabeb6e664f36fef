use Rattle.std.proofs.Common.{◌≡◌, drop}
use Rattle.stream_programs.specs.Streams.{holder}
use Rattle.stream_programs.proofs.streams.holder.Given as goal

abbrev pub invariant-loop-stream : goal.invariant-loop-stream
invariant-loop-stream g l = holder l.pid l.streams ≡ holder l.pid (drop l.stream-index l.streams)
