use Rattle.std.proofs.Common.{List, IfOk, ap, map, string_bytes, subst, ℕ, ◌≡◌}
use Rattle.description_keys.specs.Rules.{names_in}
use Rattle.diagnosis.proofs.unknown_words.part_names.Goals as goal

pub returns : goal.returns
returns c = subst (λ (names : List (List ℕ)). IfOk c.key_names.result (λ all. map (λ s. string_bytes s) all.items ≡ names))
    (ap (names_in c.args.part) c.keys.ensures.rules) c.key_names.ensures
