use Rattle.std.proofs.Common.{◌≡◌, drop}
use Rattle.ts_tables.specs.NamedStreams.{clock_in}
use Rattle.ts_tables.proofs.named_streams.clock_in.Given as goal

abbrev pub invariant-loop-program : goal.invariant-loop-program
invariant-loop-program l = clock_in l.number (drop l.program-index l.programs) ≡ clock_in l.fn.number l.programs
