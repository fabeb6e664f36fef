use Rattle.std.proofs.Common.{◌≡◌, ◌++◌, drop, map}
use Rattle.std.specs.Prelude.{string_bytes}
use Rattle.word_faults.proofs.hints.push_copies.Given as goal

abbrev pub invariant-loop-other : goal.invariant-loop-other
invariant-loop-other l =
    map (λ s. string_bytes s) l.initial.words.items ++ map (λ s. s.now) l.others
    ≡ map (λ s. string_bytes s) l.words.items ++ map (λ s. s.now) (drop l.other-index l.others)
