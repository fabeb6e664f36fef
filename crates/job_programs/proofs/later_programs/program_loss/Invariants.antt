use Rattle.std.proofs.Common.{◌≡◌, drop, map}
use Rattle.pid_findings.specs.Shown.{finding_view}
use Rattle.service_information.specs.FirstFindings.{first_packet}
use Rattle.job_programs.specs.LaterPrograms.{loses}
use Rattle.job_programs.proofs.later_programs.program_loss.Given as goal

abbrev pub invariant-loop-finding : goal.invariant-loop-finding
invariant-loop-finding l =
    first_packet (loses l.options l.named) (map finding_view l.findings)
    ≡ first_packet (loses l.options l.named) (map finding_view (drop l.finding-index l.findings))
