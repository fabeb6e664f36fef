use Rattle.std.proofs.Common.{◌≡◌, drop, map}
use Rattle.pid_findings.specs.Shown.{finding_view}
use Rattle.ts_watch.specs.TableNames.{with_each}
use Rattle.ts_watch.proofs.table_names.TableNames.take_each.Given as goal

abbrev pub invariant-loop-finding : goal.invariant-loop-finding
invariant-loop-finding l =
    with_each l.fn.self (map finding_view l.findings) ≡ with_each l.self (map finding_view (drop l.finding-index l.findings))
