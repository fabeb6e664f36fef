use Rattle.std.proofs.Common.{◌∙◌, ap, Some, option_map}
use Rattle.description_values.specs.Values.{list_of}
use Rattle.description_values.proofs.Elements.{list_of-items_view}
use Rattle.description_values.proofs.arrays.array_in.Goals as goal

pub returns-in-Some : goal.returns-in-Some
returns-in-Some c = rw c.as_slice.ensures.value (ap Some (list_of-items_view _) ∙ ap (option_map list_of) c.in-Some.ensures)
