use Rattle.std.proofs.Common.{◌≡◌, ◌++◌, drop, map}
use Rattle.std.specs.Prelude.{string_bytes}
use Rattle.description_keys.specs.KeyRows.{rule_of, view}
use Rattle.description_keys.specs.Rules.{names_in}
use Rattle.diagnosis.proofs.unknown_words.key_names.Given as goal

abbrev pub invariant-loop-row : goal.invariant-loop-row
invariant-loop-row l =
    names_in l.part (map (λ row. rule_of (view row)) l.rows)
    ≡ map (λ s. string_bytes s) l.all.items ++ names_in l.part (map (λ row. rule_of (view row)) (drop l.row-index l.rows))
