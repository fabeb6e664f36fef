use Rattle.std.proofs.Common.{◌≡◌, drop}
use Rattle.ts_tables.specs.NamedStreams.{stream_in}
use Rattle.ts_tables.proofs.named_streams.stream_in.Given as goal

abbrev pub invariant-loop-stream : goal.invariant-loop-stream
invariant-loop-stream l = stream_in l.pid (drop l.stream-index l.streams) ≡ stream_in l.fn.pid l.streams
