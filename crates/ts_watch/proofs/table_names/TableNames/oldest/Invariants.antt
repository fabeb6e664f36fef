use Rattle.std.proofs.Common.{◌≡◌}
use Rattle.ts_watch.specs.TableNames.{oldest, oldest_of}
use Rattle.ts_watch.proofs.table_names.TableNames.oldest.Given as goal

abbrev pub invariant-loop-program : goal.invariant-loop-program
invariant-loop-program l = oldest_of l.self l.oldest l.program-iterator ≡ oldest l.self
