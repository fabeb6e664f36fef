use Rattle.std.proofs.Common.{sym, ◌∙◌, is_some}
use Rattle.std.proofs.lemmas.List.Folds.{list_all-map}
use Rattle.toml.specs.View.{view}
use Rattle.description_keys.specs.VersionKeys.{named_version}
use Rattle.description_keys.proofs.version_keys.all_versions.Goals as goal

pub returns : goal.returns
returns c = c.each_is_version.ensures ∙ sym (list_all-map (λ d. is_some (named_version d)) view c.args.values.now)
