use Rattle.std.proofs.Common.{◌∙◌, ap, map}
use Rattle.pid_findings.specs.Shown.{finding_view}
use Rattle.program_tables.specs.KnownTables.{KnownView}
use Rattle.program_tables.proofs.KnownSteps.{places_known}
use Rattle.program_tables.proofs.known_tables.KnownTables.has_map.Goals as goal

pub map_at-requires : goal.map_at-requires
map_at-requires g c =
    ap (λ (known : KnownView). known.places) (c.self.view_is ∙ c.requires) ∙ places_known (map (finding_view {A = g.row.A.Denot}) c.args.findings.now)
