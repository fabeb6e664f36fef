use Rattle.std.proofs.Common.{◌≡◌, ◌++◌, drop, map}
use Rattle.word_faults.proofs.sorting.push_words.Given as goal

abbrev pub invariant-loop-word : goal.invariant-loop-word
invariant-loop-word l =
    map (λ s. s.now) l.initial.found.items ++ map (λ s. s.now) l.words
    ≡ map (λ s. s.now) l.found.items ++ map (λ s. s.now) (drop l.word-index l.words)
