use Rattle.std.proofs.Common.{◌≡◌, ◌++◌, flat_map}
use Rattle.tr101290.specs.StoppedTables.{table_at_end}
use Rattle.tr101290.proofs.stopped_tables.push_tables.Given as goal

abbrev pub invariant-loop-key : goal.invariant-loop-key
invariant-loop-key g l = l.errors.items ++ flat_map (table_at_end l.tables l.opened l.packet l.place) l.key-iterator ≡ l.fn.errors.items
    ++ flat_map (table_at_end l.fn.tables l.fn.opened l.fn.packet l.fn.place) l.fn.tables.entries
