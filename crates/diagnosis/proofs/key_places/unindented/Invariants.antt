use Rattle.std.proofs.Common.{◌≡◌, length}
use Rattle.diagnosis.specs.KeyPlaces.{unindented}
use Rattle.diagnosis.proofs.key_places.unindented.Given as goal

abbrev pub invariant-blanks : goal.invariant-blanks
invariant-blanks l = unindented l.rest ≡ unindented l.line

abbrev pub decreases-blanks : goal.decreases-blanks
decreases-blanks l = length l.rest
