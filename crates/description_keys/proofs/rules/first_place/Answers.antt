use Rattle.std.proofs.Common.{sym, ◌∙◌}
use Rattle.description_values.proofs.Positions.{position-map}
use Rattle.toml.specs.View.{view}
use Rattle.description_keys.specs.KeyRows as rows
use Rattle.description_keys.proofs.rules.first_place.Goals as goal

pub returns : goal.returns
returns c =
    c.place_in.ensures ∙ sym (position-map (rows.refuses_row (rows.view c.args.row.now) (view c.args.document.now)) view c.args.parts.now)
