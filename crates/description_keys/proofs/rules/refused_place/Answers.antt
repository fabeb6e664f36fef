use Rattle.std.proofs.Common.{ap, ◌∙◌, List, position}
use Rattle.toml.specs.Data.{Data}
use Rattle.toml.specs.View.{view}
use Rattle.description_keys.specs.KeyRows as rows
use Rattle.description_keys.proofs.rules.refused_place.Goals as goal

pub returns : goal.returns
returns c =
    c.first_place.ensures
    ∙ ap (λ (ds : List Data). position (rows.refuses_row (rows.view c.args.row.now) (view c.args.document.now)) ds) c.parts_of.ensures
