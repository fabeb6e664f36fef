-- Findings that are changed one after another
use Rattle.std.proofs.Common.{◌≡◌, ◌∙◌, ◌<◌, ◌≤◌, ℕ, ◌+◌, ◌++◌, List, [], ◌∷◌, length, map, take, drop, set, get_or, sym, ap, arith}
use Rattle.std.proofs.lemmas.List.{append_assoc, append-nil, drop_all, drop_more, drop-set-lt, map-append, take_all, take_more_set}
use Rattle.pid_findings.specs.Views.{FindingView}

pub changed_more : {X : Type 0} (view : X → FindingView) (change : FindingView → FindingView) (xs : List X) (i : ℕ) (x y : X) (whole : List FindingView) →
    i < length xs → x ≡ get_or xs i x → view y ≡ change (view x) →
    map view (take i xs) ++ map change (map view (drop i xs)) ≡ whole →
    map view (take (i + 1) (set xs i y)) ++ map change (map view (drop (i + 1) (set xs i y))) ≡ whole
changed_more {X = X} view change xs i x y whole within at one before =
    let front : take (i + 1) (set xs i y) ≡ take i xs ++ y ∷ [] = take_more_set xs i y within in
    let back : drop (i + 1) (set xs i y) ≡ drop (i + 1) xs = drop-set-lt (i + 1) xs i y (omega arith) in
    let left : drop i xs ≡ x ∷ drop (i + 1) xs = drop_more xs i x within ∙ ap (λ (z : X). z ∷ drop (i + 1) xs) (sym at) in
    let later = map change (map view (drop (i + 1) xs)) in
    ap (λ (l : List X). map view l ++ map change (map view (drop (i + 1) (set xs i y)))) front
    ∙ ap (λ (l : List X). map view (take i xs ++ y ∷ []) ++ map change (map view l)) back
    ∙ ap (λ (l : List FindingView). l ++ later) (map-append view (take i xs) (y ∷ []))
    ∙ append_assoc (map view (take i xs)) (view y ∷ []) later
    ∙ ap (λ (f : FindingView). map view (take i xs) ++ f ∷ later) one
    ∙ ap (λ (l : List X). map view (take i xs) ++ map change (map view l)) (sym left)
    ∙ before

pub changed_whole : {X : Type 0} (view : X → FindingView) (change : FindingView → FindingView) (xs : List X) (i : ℕ) (whole : List FindingView) →
    length xs ≤ i →
    map view (take i xs) ++ map change (map view (drop i xs)) ≡ whole → map view xs ≡ whole
changed_whole {X = X} view change xs i whole all is =
    sym (append-nil (map view xs))
    ∙ ap (λ (l : List X). map view l ++ []) (sym (take_all i xs all))
    ∙ ap (λ (l : List X). map view (take i xs) ++ map change (map view l)) (sym (drop_all i xs all))
    ∙ is
