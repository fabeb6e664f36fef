use Rattle.std.proofs.Common.{◌≡◌, ◌++◌, map, take, drop}
use Rattle.pid_findings.specs.Shown.{finding_view}
use Rattle.es_units.specs.Marking.{all_marked}
use Rattle.es_units.proofs.marking.Marking.mark_all.Given as goal

abbrev pub invariant-loop-finding : goal.invariant-loop-finding
invariant-loop-finding l = map finding_view (take l.finding-index l.findings) ++ all_marked l.self (map finding_view (drop l.finding-index l.findings))
    ≡ all_marked l.self (map finding_view l.fn.findings)
