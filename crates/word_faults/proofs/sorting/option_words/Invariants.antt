use Rattle.std.proofs.Common.{◌≡◌, ◌++◌, false, drop, map}
use Rattle.word_faults.specs.KnownWords.{known_of}
use Rattle.word_faults.specs.SortedWords as spec
use Rattle.word_faults.proofs.sorting.option_words.Given as goal

abbrev pub invariant-loop-place : goal.invariant-loop-place
invariant-loop-place l =
    spec.options_from (known_of l.known) false (map (λ s. s.now) l.words)
    ≡ map (λ s. s.now) l.found.items ++ spec.options_from (known_of l.known) l.is_value (map (λ s. s.now) (drop l.place l.words))
