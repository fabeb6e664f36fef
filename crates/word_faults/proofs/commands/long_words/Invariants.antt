use Rattle.std.proofs.Common.{◌≡◌, ◌++◌, drop, map}
use Rattle.word_faults.specs.Commands.{long_words, short_view}
use Rattle.word_faults.proofs.commands.long_words.Given as goal

abbrev pub invariant-loop-place : goal.invariant-loop-place
invariant-loop-place l =
    long_words (map short_view l.shorts) (map (λ s. s.now) l.words)
    ≡ map (λ s. s.now) l.long.items ++ long_words (map short_view l.shorts) (map (λ s. s.now) (drop l.place l.words))
