use Rattle.std.proofs.Common.{sym, ◌∙◌}
use Rattle.std.proofs.lemmas.List.Folds.{list_all-map}
use Rattle.toml.specs.View.{view}
use Rattle.description_values.specs.Values.{is_table}
use Rattle.description_values.proofs.arrays.all_tables.Goals as goal

pub returns : goal.returns
returns c = c.each_is_table.ensures ∙ sym (list_all-map is_table view c.args.values.now)
