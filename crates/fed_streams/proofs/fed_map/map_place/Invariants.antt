use Rattle.std.proofs.Common.{◌≡◌, drop}
use Rattle.pid_findings.specs.Shown.{finding_view}
use Rattle.fed_streams.specs.Maps.{map_from}
use Rattle.fed_streams.proofs.fed_map.map_place.Given as goal

abbrev pub invariant-loop-k : goal.invariant-loop-k
invariant-loop-k l = map_from (finding_view l.finding) 0 l.maps ≡ map_from (finding_view l.finding) l.k (drop l.k l.maps)
