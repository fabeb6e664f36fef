use Rattle.std.proofs.Common.{◌≡◌, ◌++◌, drop, map}
use Rattle.std.specs.Prelude.{option_map}
use Rattle.word_faults.specs.Lists.{numbers_of}
use Rattle.word_faults.proofs.lists.numbers_of.Given as goal

abbrev pub invariant-loop-text : goal.invariant-loop-text
invariant-loop-text l =
    option_map (λ rest. l.numbers.items ++ rest) (numbers_of l.most (map (λ s. s.now) (drop l.text-index l.texts))) ≡ numbers_of l.most
    (map (λ s. s.now) l.texts)
