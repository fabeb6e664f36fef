use Rattle.std.proofs.Common.{◌≡◌, drop, map, option_map}
use Rattle.std.specs.Option.{option_or}
use Rattle.psi_tables.specs.ProgramMap.{pmt_view}
use Rattle.pid_findings.specs.Shown.{finding_view}
use Rattle.program_tables.specs.ProgramMaps.{program_map}
use Rattle.program_tables.proofs.program_map.last_program_map.Given as goal

abbrev pub invariant-loop-finding : goal.invariant-loop-finding
invariant-loop-finding g l =
    program_map l.program (map finding_view l.findings)
    ≡ option_or (program_map l.program (map finding_view (drop l.finding-index l.findings))) (option_map pmt_view l.last)
