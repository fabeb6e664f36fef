use Rattle.std.proofs.Common.{sym, ◌∙◌, ap}
use Rattle.std.specs.List.{list_any}
use Rattle.toml.specs.View.{view}
use Rattle.description_keys.specs.ProgramKeys.{has_number}
use Rattle.description_values.proofs.Elements.{list_any-map}
use Rattle.description_keys.proofs.owner.declares.Goals as goal

pub returns : goal.returns
returns c =
    c.one_has_number.ensures ∙ sym (list_any-map (has_number c.args.number) view c.elements.result.now)
    ∙ ap (list_any (has_number c.args.number)) c.elements.ensures
