use Rattle.std.proofs.Common.{◌++◌, List, drop}
use Rattle.std.specs.Prelude.{flat_map}
use Rattle.es_view.specs.Entries.{EntryState, traces_of}
use Rattle.ts_report.specs.StreamTables.{AreEntries}
use Rattle.ts_report.proofs.Entries.{Ahead}
use Rattle.ts_report.proofs.stream_table.push_all_traces.Given as goal

abbrev pub invariant-loop-entry : goal.invariant-loop-entry
invariant-loop-entry l = (es : List EntryState) → AreEntries l.fn.entries es →
    Ahead (drop l.entry-index l.entries) (traces_of l.options) (l.events.items)
    (l.fn.events.items ++ flat_map (traces_of l.options) es)
