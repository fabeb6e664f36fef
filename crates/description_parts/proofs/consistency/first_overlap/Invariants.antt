use Rattle.std.proofs.Common.{◌≡◌, map, take, drop, []}
use Rattle.toml.specs.View.{view}
use Rattle.description_parts.specs.Consistency.{first_overlap}
use Rattle.description_parts.proofs.consistency.first_overlap.Given as goal

abbrev pub invariant-loop-item : goal.invariant-loop-item
invariant-loop-item l = first_overlap 0 [] (map view l.events) ≡ first_overlap l.item (map view (take l.item l.events)) (map view (drop l.item l.events))
