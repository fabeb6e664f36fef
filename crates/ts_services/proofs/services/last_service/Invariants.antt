use Rattle.std.proofs.Common.{◌≡◌, drop, map, option_map}
use Rattle.std.specs.Option.{option_or}
use Rattle.pid_findings.specs.Shown.{finding_view}
use Rattle.ts_services.specs.Services.{service, found_service_view}
use Rattle.ts_services.proofs.services.last_service.Given as goal

abbrev pub invariant-loop-finding : goal.invariant-loop-finding
invariant-loop-finding g l =
    service l.number (map finding_view l.findings)
    ≡ option_or (service l.number (map finding_view (drop l.finding-index l.findings))) (option_map found_service_view l.last)
