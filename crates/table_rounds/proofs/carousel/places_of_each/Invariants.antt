use Rattle.std.proofs.Common.{◌≡◌, map, take}
use Rattle.table_rounds.specs.Parts.{places_of}
use Rattle.table_rounds.proofs.carousel.places_of_each.Given as goal

abbrev pub invariant-loop-length : goal.invariant-loop-length
invariant-loop-length l = l.places.items ≡ map places_of (take l.length-index l.lengths)
