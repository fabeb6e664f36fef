use Rattle.std.proofs.Common.{sym, ◌∙◌}
use Rattle.std.proofs.lemmas.List.Folds.{list_all-map}
use Rattle.toml.specs.View.{view}
use Rattle.description_values.specs.KnownKeys.{knows_keys}
use Rattle.description_keys.specs.Refusals.{names_of}
use Rattle.description_keys.proofs.known_keys.all_know.Goals as goal

pub returns : goal.returns
returns c = c.each_knows.ensures ∙ sym (list_all-map (knows_keys (names_of c.args.part)) view c.args.values.now)
