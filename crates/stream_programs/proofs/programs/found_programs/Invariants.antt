use Rattle.std.proofs.Common.{◌≡◌, drop, map}
use Rattle.pid_findings.specs.Shown.{finding_view}
use Rattle.stream_programs.specs.Programs.{nothing, with_programs}
use Rattle.stream_programs.proofs.programs.found_programs.Given as goal

abbrev pub invariant-loop-program : goal.invariant-loop-program
invariant-loop-program g l =
    with_programs nothing l.named (map finding_view l.findings)
    ≡ with_programs l.gathered (drop l.program-index l.named) (map finding_view l.findings)
