use Rattle.std.proofs.Common.{◌≡◌, ◌++◌, flat_map, map, drop}
use Rattle.pid_findings.specs.Shown.{finding_view}
use Rattle.tr101290.specs.References.{program_clock}
use Rattle.tr101290.proofs.references.push_clocks.Given as goal

abbrev pub invariant-loop-program : goal.invariant-loop-program
invariant-loop-program l =
    l.initial.pids.items ++ flat_map (program_clock (map finding_view l.findings)) l.programs
    ≡ l.pids.items ++ flat_map (program_clock (map finding_view l.findings)) (drop l.program-index l.programs)
