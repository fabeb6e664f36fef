use Rattle.std.proofs.Common.{◌≡◌, ◌∙◌, IfOk, List, ℕ, ap, map, subst}
use Rattle.std.specs.Borrow.{Bor}
use Rattle.tsjob_cli.proofs.Commands.{sorted_is}
use Rattle.tsjob_cli.proofs.command.sorted_words.Goals as goal

pub returns : goal.returns
returns c =
    let long = ap (λ (words : List (Bor (List ℕ))). map (λ s. s.now) words) c.deref.ensures.value ∙ c.in_ok-long.ensures in
    let again = ap (λ (words : List (Bor (List ℕ))). map (λ s. s.now) words) c.deref-2.ensures.value ∙ c.in_ok-long.ensures in
    subst (λ (x : List (List ℕ)). IfOk c.sorted_command.result (λ sorted. map (λ s. s.now) sorted.items ≡ x))
    (sorted_is _ _ _ _ c.sorting_for.ensures long again)
    c.sorted_command.ensures
