use Rattle.std.proofs.Common.{◌≡◌, ◌++◌, List, drop, flat_map}
use Rattle.pid_findings.specs.Views.{FindingView}
use Rattle.program_tables.specs.MapPlaces.{AreChanges}
use Rattle.job_programs.specs.Warnings.{map_warnings}
use Rattle.job_programs.proofs.warnings.push_each_map_warning.Given as goal

abbrev pub invariant-loop-program : goal.invariant-loop-program
invariant-loop-program l =
    (findings : List FindingView) → AreChanges l.part findings l.changes →
    l.fn.warnings.items ++ flat_map (map_warnings l.part findings) l.programs
    ≡ l.warnings.items ++ flat_map (map_warnings l.part findings) (drop l.program-index l.programs)
