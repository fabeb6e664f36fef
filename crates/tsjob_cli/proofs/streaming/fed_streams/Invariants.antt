use Rattle.std.proofs.Common.{◌≡◌, ◌++◌, drop}
use Rattle.tsjob_cli.specs.StreamedUnits.{streams_from}
use Rattle.tsjob_cli.proofs.streaming.fed_streams.Given as goal

abbrev pub invariant-loop-k : goal.invariant-loop-k
invariant-loop-k l = l.fed.items ++ streams_from l.k (drop l.k l.streams) ≡ streams_from 0 l.streams
