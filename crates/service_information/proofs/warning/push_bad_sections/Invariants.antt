use Rattle.std.proofs.Common.{◌≡◌, ◌++◌, drop, flat_map, map}
use Rattle.pid_findings.specs.Shown.{finding_view}
use Rattle.service_information.specs.Warnings.{bad_section}
use Rattle.service_information.proofs.warning.push_bad_sections.Given as goal

abbrev pub invariant-loop-pid : goal.invariant-loop-pid
invariant-loop-pid l =
    l.fn.warnings.items ++ flat_map (bad_section (map finding_view l.findings)) l.pids
    ≡ l.warnings.items ++ flat_map (bad_section (map finding_view l.findings)) (drop l.pid-index l.pids)
