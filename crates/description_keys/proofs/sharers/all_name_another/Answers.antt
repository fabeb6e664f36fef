use Rattle.std.proofs.Common.{sym, ◌∙◌}
use Rattle.std.proofs.lemmas.List.Folds.{list_all-map}
use Rattle.toml.specs.View.{view}
use Rattle.description_keys.specs.StreamKeys.{names_another}
use Rattle.description_keys.proofs.sharers.all_name_another.Goals as goal

pub returns : goal.returns
returns c = c.each_names_another.ensures ∙ sym (list_all-map (names_another (view c.args.document.now) (view c.args.stream.now)) view c.args.values.now)
