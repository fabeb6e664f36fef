use Rattle.std.proofs.Common.{◌++◌, List, drop}
use Rattle.std.specs.Prelude.{flat_map}
use Rattle.es_view.specs.Entries.{EntryState, end_events}
use Rattle.ts_report.specs.StreamTables.{AreEntries}
use Rattle.ts_report.proofs.Entries.{Ahead}
use Rattle.ts_report.proofs.stream_table.push_all_ends.Given as goal

abbrev pub invariant-loop-entry : goal.invariant-loop-entry
invariant-loop-entry l = (es : List EntryState) → AreEntries l.fn.entries es →
    Ahead (drop l.entry-index l.entries) (end_events l.options l.packets l.window) (l.events.items)
    (l.fn.events.items ++ flat_map (end_events l.options l.packets l.window) es)
