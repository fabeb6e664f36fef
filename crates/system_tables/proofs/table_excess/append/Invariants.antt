use Rattle.std.proofs.Common.{◌≡◌, ◌++◌, drop}
use Rattle.system_tables.specs.Programs.{all_of}
use Rattle.system_tables.proofs.table_excess.append.Given as goal

abbrev pub invariant-loop-excess : goal.invariant-loop-excess
invariant-loop-excess l =
    l.all.items ++ all_of l.program l.buffer (drop l.excess-index l.excesses) ≡ l.fn.all.items ++ all_of l.program l.buffer l.excesses
