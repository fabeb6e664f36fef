use Rattle.std.proofs.Common.{◌≡◌, [], false, take, drop, map}
use Rattle.word_faults.specs.KnownWords.{known_of}
use Rattle.word_faults.specs.WordFaults as spec
use Rattle.word_faults.proofs.faults.first_word.Given as goal

abbrev pub invariant-loop-place : goal.invariant-loop-place
invariant-loop-place l =
    spec.fault_from (known_of l.known) [] false false (map (λ s. s.now) l.words)
    ≡ spec.fault_from (known_of l.known) (map (λ s. s.now) (take l.place l.words)) l.has_word l.is_value (map (λ s. s.now) (drop l.place l.words))
