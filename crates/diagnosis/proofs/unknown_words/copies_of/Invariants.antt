use Rattle.std.proofs.Common.{◌≡◌, ◌++◌, drop, map}
use Rattle.std.specs.Prelude.{string_bytes}
use Rattle.diagnosis.proofs.unknown_words.copies_of.Given as goal

abbrev pub invariant-loop-name : goal.invariant-loop-name
invariant-loop-name l =
    map (λ s. s.now) l.names ≡ map (λ s. string_bytes s) l.all.items ++ map (λ s. s.now) (drop l.name-index l.names)
