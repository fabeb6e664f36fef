use Rattle.std.proofs.Common.{◌≡◌, ◌++◌, drop, map, option_map}
use Rattle.std.specs.Prelude.{flat_map, string_bytes}
use Rattle.word_faults.specs.KnownWords.{word_of}
use Rattle.word_faults.specs.OptionRows.{view}
use Rattle.word_faults.proofs.hints.meant_words.Given as goal

abbrev pub invariant-loop-row : goal.invariant-loop-row
invariant-loop-row l =
    flat_map (word_of (option_map (λ s. s.now) l.barred)) (map view l.options)
    ≡ map (λ s. string_bytes s) l.all.items ++ flat_map (word_of (option_map (λ s. s.now) l.barred)) (map view (drop l.row-index l.options))
