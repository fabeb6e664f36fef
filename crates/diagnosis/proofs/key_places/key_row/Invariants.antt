use Rattle.std.proofs.Common.{◌≡◌, ◌+◌, drop, map}
use Rattle.diagnosis.specs.KeyPlaces.{key_row}
use Rattle.diagnosis.proofs.key_places.key_row.Given as goal

abbrev pub invariant-loop-i : goal.invariant-loop-i
invariant-loop-i l =
    key_row l.head l.key l.inside l.left (l.i + 1) (map (λ s. s.now) (drop l.i l.lines)) ≡ key_row l.head l.key l.at_once l.heads 1 (map (λ s. s.now) l.lines)
