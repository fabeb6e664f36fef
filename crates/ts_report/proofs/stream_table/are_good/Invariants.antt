use Rattle.std.proofs.Common.{List, drop}
use Rattle.std.specs.List.{list_all}
use Rattle.es_view.specs.Entries.{EntryState, is_good}
use Rattle.ts_report.specs.StreamTables.{AreEntries}
use Rattle.ts_report.proofs.Entries.{Unjudged}
use Rattle.ts_report.proofs.stream_table.are_good.Given as goal

abbrev pub invariant-loop-entry : goal.invariant-loop-entry
invariant-loop-entry l = (es : List EntryState) → AreEntries l.fn.entries es → Unjudged (drop l.entry-index l.entries) is_good (list_all is_good es)
