use Rattle.std.proofs.Common.{◌≡◌, [], drop, map}
use Rattle.pid_findings.specs.Shown.{finding_view}
use Rattle.other_tables.specs.SteadySections.{section_view, sections_on}
use Rattle.other_tables.proofs.steady.sections_on.Given as goal

abbrev pub invariant-loop-finding : goal.invariant-loop-finding
invariant-loop-finding l =
    sections_on l.count l.pid [] (map finding_view l.findings)
    ≡ sections_on l.count l.pid (map section_view l.sections.items) (map finding_view (drop l.finding-index l.findings))
