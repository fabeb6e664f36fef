-- Findings one after another, in the search for stamps that are alone out of order
use Rattle.std.proofs.Common.{◌≡◌, ◌∙◌, ◌<◌, ◌≤◌, ℕ, ◌+◌, List, [], ◌∷◌, length, map, drop, get_or, refl, sym, ap}
use Rattle.std.proofs.lemmas.List.{drop_all, drop_more}
use Rattle.pid_findings.specs.Views.{FindingView}
use Rattle.stamp_repair.specs.LoneStamps.{SearchView, search_after, with_finding}

search_more : (s next : SearchView) (f : FindingView) (fs : List FindingView) → next ≡ with_finding s f → search_after s (f ∷ fs) ≡ search_after next fs
unfolding search_after
search_more s next f fs made = rw made refl

search_none : (s : SearchView) → search_after s [] ≡ s
unfolding search_after
search_none s = refl

pub search_next : {X : Type 0} (view : X → FindingView) (s next : SearchView) (xs : List X) (i : ℕ) (x : X) → i < length xs → x ≡ get_or xs i x →
    next ≡ with_finding s (view x) → search_after s (map view (drop i xs)) ≡ search_after next (map view (drop (i + 1) xs))
search_next {X = X} view s next xs i x within at made =
    let left : drop i xs ≡ x ∷ drop (i + 1) xs = drop_more xs i x within ∙ ap (λ (z : X). z ∷ drop (i + 1) xs) (sym at) in
    ap (λ (l : List X). search_after s (map view l)) left ∙ search_more s next (view x) (map view (drop (i + 1) xs)) made

pub search_all : {X : Type 0} (view : X → FindingView) (s whole : SearchView) (xs : List X) (i : ℕ) → length xs ≤ i →
    whole ≡ search_after s (map view (drop i xs)) → s ≡ whole
search_all {X = X} view s whole xs i all is =
    sym (is ∙ ap (λ (l : List X). search_after s (map view l)) (drop_all i xs all) ∙ search_none s)
