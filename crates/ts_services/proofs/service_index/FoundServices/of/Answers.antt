use Rattle.std.proofs.Common.{◌∙◌, ℕ, List, Option, ap, map, nat_eq}
use Rattle.std.specs.Map.{lookup}
use Rattle.pid_findings.specs.Shown.{finding_view}
use Rattle.ts_services.specs.Services.{service}
use Rattle.ts_services.specs.ServicePlaces.{service_there}
use Rattle.ts_services.proofs.ServicePlaces.{services_are_there}
use Rattle.ts_services.proofs.service_index.FoundServices.of.Goals as goal

pub returns : goal.returns
returns g c =
    let all = map (finding_view {A = g.row.A.Denot}) c.self.inside.findings.now in
    c.service_there.ensures
    ∙ ap (λ (at : Option ℕ). service_there c.args.number at all) c.place_of.ensures
    ∙ ap (λ (es : List (ℕ × ℕ)). service_there c.args.number (lookup (nat_eq c.args.number) es) all) c.self.invariant
    ∙ services_are_there c.args.number all ∙ ap (service c.args.number) c.self.view_is
