use Rattle.std.proofs.Common.{◌≡◌, drop, map}
use Rattle.word_faults.specs.SortedWords as spec
use Rattle.word_faults.proofs.sorting.value_given.Given as goal

abbrev pub invariant-loop-place : goal.invariant-loop-place
invariant-loop-place l =
    spec.value_given l.option (map (λ s. s.now) l.words) ≡ spec.value_given l.option (map (λ s. s.now) (drop l.place l.words))
