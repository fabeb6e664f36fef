use Rattle.std.proofs.Common.{◌∙◌, ℕ, List, Option, ap, map, nat_eq}
use Rattle.std.specs.Map.{lookup}
use Rattle.pid_findings.specs.Shown.{finding_view}
use Rattle.program_tables.specs.MapPlaces.{map_key, map_there}
use Rattle.program_tables.proofs.MapPlaces.{maps_are_there}
use Rattle.program_tables.proofs.map_places.map_at.Goals as goal

pub returns : goal.returns
returns g c =
    let all = map (finding_view {A = g.row.A.Denot}) c.args.findings.now in
    c.map_there.ensures
    ∙ ap (λ (at : Option ℕ). map_there c.args.program at all) c.place_of.ensures.value
    ∙ ap (λ (es : List (ℕ × ℕ)). map_there c.args.program (lookup (nat_eq (map_key c.args.program)) es) all) c.requires
    ∙ maps_are_there c.args.program all c.place_of.ensures.number
