use Rattle.std.proofs.Common.{ap, ◌∙◌, List}
use Rattle.std.specs.List.{list_all}
use Rattle.toml.specs.Data.{Data}
use Rattle.description_values.specs.KnownKeys.{knows_keys}
use Rattle.description_keys.specs.Refusals.{names_of}
use Rattle.description_keys.proofs.known_keys.knows_part.Goals as goal

pub returns : goal.returns
returns c = c.all_know.ensures ∙ ap (λ (ds : List Data). list_all (knows_keys (names_of c.args.part)) ds) c.parts_of.ensures
