use Rattle.std.proofs.Common.{◌≡◌, [], drop, map}
use Rattle.pid_findings.specs.Shown.{finding_view}
use Rattle.other_tables.specs.OtherTables.{tables_from}
use Rattle.other_tables.specs.PidCounts.{AreSeen}
use Rattle.other_tables.proofs.tables.other_tables.Given as goal

abbrev pub invariant-loop-finding : goal.invariant-loop-finding
invariant-loop-finding l = record {
  seen : AreSeen l.seen.items l.found.items;
  found : tables_from (map finding_view l.findings) [] (map finding_view l.findings) ≡ tables_from (map finding_view l.findings) l.found.items
      (map finding_view (drop l.finding-index l.findings));
}
