use Rattle.std.proofs.Common.{sym, ◌∙◌, ap}
use Rattle.std.specs.List.{list_all}
use Rattle.std.proofs.lemmas.List.Folds.{list_all-map}
use Rattle.toml.specs.View.{view}
use Rattle.description_keys.specs.TopKeys.{has_own_clock}
use Rattle.description_keys.proofs.clock_keys.have_own_clocks.Goals as goal

pub returns : goal.returns
returns c =
    c.each_has_clock.ensures ∙ sym (list_all-map has_own_clock view c.elements.result.now)
    ∙ ap (list_all has_own_clock) c.elements.ensures
