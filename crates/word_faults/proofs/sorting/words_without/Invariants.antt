use Rattle.std.proofs.Common.{◌≡◌, ◌++◌, drop, map}
use Rattle.word_faults.specs.SortedWords as spec
use Rattle.word_faults.proofs.sorting.words_without.Given as goal

abbrev pub invariant-loop-place : goal.invariant-loop-place
invariant-loop-place l =
    spec.words_without l.option (map (λ s. s.now) l.words)
    ≡ map (λ s. s.now) l.left.items ++ spec.words_without l.option (map (λ s. s.now) (drop l.place l.words))
