-- Warnings that are appended, element after element.
use Rattle.std.proofs.Common.{◌≡◌, ◌∙◌, ◌<◌, ◌≤◌, ℕ, ◌+◌, ◌++◌, List, [], ◌∷◌, length, drop, get_or, flat_map, sym, ap, append_assoc}
use Rattle.std.proofs.lemmas.List.{append-nil, drop_all, drop_more}
use Rattle.std.proofs.lemmas.List.Concat.{flat_map-cons}
use Rattle.job_programs.specs.declared.warning.Warning.{Warning}

pub warnings_more : {X : Type 0} (f : X → List Warning) (first all after : List Warning) (xs : List X) (i : ℕ) (none : X) → i < length xs →
    after ≡ all ++ f (get_or xs i none) → first ++ flat_map f xs ≡ all ++ flat_map f (drop i xs) →
    first ++ flat_map f xs ≡ after ++ flat_map f (drop (i + 1) xs)
warnings_more {X = X} f first all after xs i none below pushed is =
    let x = get_or xs i none in
    let later = drop (i + 1) xs in
    is
    ∙ ap (λ (l : List X). all ++ flat_map f l) (drop_more xs i none below)
    ∙ ap (λ (l : List Warning). all ++ l) (flat_map-cons f x later)
    ∙ sym (append_assoc all (f x) (flat_map f later))
    ∙ ap (λ (l : List Warning). l ++ flat_map f later) (sym pushed)

pub warnings_end : {X : Type 0} (f : X → List Warning) (first all : List Warning) (xs : List X) (i : ℕ) → length xs ≤ i →
    first ++ flat_map f xs ≡ all ++ flat_map f (drop i xs) → all ≡ first ++ flat_map f xs
warnings_end {X = X} f first all xs i over is =
    sym (is ∙ ap (λ (l : List X). all ++ flat_map f l) (drop_all i xs over) ∙ append-nil all)
