use Rattle.std.proofs.Common.{◌≡◌, [], drop, map}
use Rattle.pid_findings.specs.Shown.{finding_view}
use Rattle.ts_services.specs.ServicePlaces.{services_from}
use Rattle.ts_services.proofs.service_index.places_in.Given as goal

abbrev pub invariant-loop-at : goal.invariant-loop-at
invariant-loop-at g l = services_from [] 0 (map finding_view l.findings) ≡ services_from l.places.entries l.at (map finding_view (drop l.at l.findings))
