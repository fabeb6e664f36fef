use Rattle.std.proofs.Common.{◌≡◌, ◌++◌, drop, map}
use Rattle.pid_findings.specs.Shown.{finding_view}
use Rattle.ts_watch.specs.TableEvents.{findings_events, with_findings}
use Rattle.ts_watch.proofs.table_watch.TableTimes.take_all.Given as goal

abbrev pub invariant-loop-finding : goal.invariant-loop-finding
invariant-loop-finding l = record {
  times : with_findings l.options l.fn.self (map finding_view l.findings) ≡ with_findings l.options l.self (map finding_view (drop l.finding-index l.findings));
  lines : l.fn.events.items ++ findings_events l.options l.fn.self (map finding_view l.findings)
      ≡ l.events.items ++ findings_events l.options l.self (map finding_view (drop l.finding-index l.findings));
}
