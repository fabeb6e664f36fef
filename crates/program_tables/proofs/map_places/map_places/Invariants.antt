use Rattle.std.proofs.Common.{◌≡◌, [], drop, map}
use Rattle.pid_findings.specs.Shown.{finding_view}
use Rattle.program_tables.specs.MapPlaces.{places_from}
use Rattle.program_tables.proofs.map_places.map_places.Given as goal

abbrev pub invariant-loop-at : goal.invariant-loop-at
invariant-loop-at g l = places_from [] 0 (map finding_view l.findings) ≡ places_from l.places.entries l.at (map finding_view (drop l.at l.findings))
