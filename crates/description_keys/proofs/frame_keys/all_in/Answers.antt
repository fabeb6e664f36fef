use Rattle.std.proofs.Common.{sym, ◌∙◌, is_some}
use Rattle.std.proofs.lemmas.List.Folds.{list_all-map}
use Rattle.toml.specs.View.{view}
use Rattle.description_keys.specs.StreamKeys.{bytes_in}
use Rattle.description_keys.proofs.frame_keys.all_in.Goals as goal

pub returns : goal.returns
returns c = c.each_in.ensures ∙ sym (list_all-map (λ d. is_some (bytes_in (view c.args.stream.now) d)) view c.args.values.now)
