use Rattle.std.proofs.Common.{◌≡◌, drop}
use Rattle.demux.specs.Stream.{ended_found}
use Rattle.ts_report.specs.StoppedEvents.{open_sections}
use Rattle.ts_watch.specs.TableEvents.{with_findings}
use Rattle.ts_report.proofs.stopped_tables.open_sections.Given as goal

abbrev pub invariant-loop-i : goal.invariant-loop-i
invariant-loop-i l =
    with_findings l.options l.opened (ended_found l.tables.demux.packets (drop l.i l.tables.demux.states)) ≡ open_sections l.options l.tables
