use Rattle.std.proofs.Common.{◌≡◌, map, take}
use Rattle.std.specs.List.{filter_map}
use Rattle.toml.specs.View.{view}
use Rattle.description_values.specs.Values.{section_in}
use Rattle.description_parts.proofs.building.sections_of.Given as goal

abbrev pub invariant-loop-part : goal.invariant-loop-part
invariant-loop-part l = l.sections.items ≡ filter_map section_in (map view (take l.part-index l.parts))
