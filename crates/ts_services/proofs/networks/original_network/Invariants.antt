use Rattle.std.proofs.Common.{◌≡◌, drop, map}
use Rattle.pid_findings.specs.Shown.{finding_view}
use Rattle.ts_services.specs.Networks.{network}
use Rattle.ts_services.proofs.networks.original_network.Given as goal

abbrev pub invariant-loop-finding : goal.invariant-loop-finding
invariant-loop-finding g l = network (map finding_view l.findings) ≡ network (map finding_view (drop l.finding-index l.findings))
