use Rattle.std.proofs.Common.{◌≡◌, drop, map}
use Rattle.pid_findings.specs.Shown.{finding_view}
use Rattle.service_information.specs.StreamTime.{stream_time}
use Rattle.service_information.proofs.time_table.stream_time.Given as goal

abbrev pub invariant-loop-finding : goal.invariant-loop-finding
invariant-loop-finding l = stream_time (map finding_view l.findings) ≡ stream_time (map finding_view (drop l.finding-index l.findings))
