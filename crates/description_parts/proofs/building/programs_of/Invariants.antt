use Rattle.std.proofs.Common.{◌≡◌, map, take}
use Rattle.toml.specs.View.{view}
use Rattle.description_parts.specs.Contents.{described_program}
use Rattle.description_parts.proofs.building.programs_of.Given as goal

abbrev pub invariant-loop-part : goal.invariant-loop-part
invariant-loop-part l = l.programs.items ≡ map (described_program (view l.document)) (map view (take l.part-index l.parts))
