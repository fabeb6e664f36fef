use Rattle.std.proofs.Common.{◌≡◌, ◌++◌, map, take, drop}
use Rattle.pid_findings.specs.Shown.{finding_view}
use Rattle.joined_parts.specs.WholeMaps.{with_whole_map}
use Rattle.joined_parts.proofs.whole_maps.complete_maps.Given as goal

abbrev pub invariant-loop-finding : goal.invariant-loop-finding
invariant-loop-finding l =
    map finding_view (take l.finding-index l.findings) ++ map (with_whole_map l.maps) (map finding_view (drop l.finding-index l.findings))
    ≡ map (with_whole_map l.maps) (map finding_view l.fn.findings)
