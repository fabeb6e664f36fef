use Rattle.std.proofs.Common.{◌∙◌, ℕ, List, ap, nat_eq}
use Rattle.std.specs.Map.{lookup}
use Rattle.program_tables.specs.MapPlaces.{map_key}
use Rattle.program_tables.proofs.changed_maps.MapChanges.packet.Goals as goal

pub returns : goal.returns
returns g c part findings are =
    c.packet_of.ensures.value ∙ ap (λ (es : List (ℕ × ℕ)). lookup (nat_eq (map_key c.args.program)) es) c.self.view_is
    ∙ are c.args.program c.packet_of.ensures.number
