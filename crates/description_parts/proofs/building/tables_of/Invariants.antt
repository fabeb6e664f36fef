use Rattle.std.proofs.Common.{◌≡◌, map, take}
use Rattle.toml.specs.View.{view}
use Rattle.description_parts.specs.Contents.{described_table}
use Rattle.description_parts.proofs.building.tables_of.Given as goal

abbrev pub invariant-loop-part : goal.invariant-loop-part
invariant-loop-part l = l.tables.items ≡ map described_table (map view (take l.part-index l.parts))
