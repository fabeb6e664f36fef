use Rattle.std.proofs.Common.{◌≡◌, drop, map}
use Rattle.word_faults.specs.WordFaults as spec
use Rattle.word_faults.proofs.faults.is_given.Given as goal

abbrev pub invariant-loop-word : goal.invariant-loop-word
invariant-loop-word l = spec.is_given l.option (map (λ s. s.now) l.words) ≡ spec.is_given l.option (map (λ s. s.now) (drop l.word-index l.words))
