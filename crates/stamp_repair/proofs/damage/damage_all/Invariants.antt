use Rattle.std.proofs.Common.{◌≡◌, ◌++◌, map, take, drop}
use Rattle.pid_findings.specs.Shown.{finding_view}
use Rattle.stamp_repair.specs.LoneStamps.{damaged}
use Rattle.stamp_repair.proofs.damage.damage_all.Given as goal

abbrev pub invariant-loop-finding : goal.invariant-loop-finding
invariant-loop-finding l =
    map finding_view (take l.finding-index l.findings) ++ map (damaged l.lone) (map finding_view (drop l.finding-index l.findings))
    ≡ map (damaged l.lone) (map finding_view l.fn.findings)
