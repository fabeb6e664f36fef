-- Findings one after another
use Rattle.std.proofs.Common.{◌≡◌, ◌∙◌, ◌≤◌, ◌<◌, ◌+◌, ℕ, List, [], ◌∷◌, length, map, drop, get_or, refl, sym, ap}
use Rattle.std.proofs.lemmas.List.{drop_all, drop_more}
use Rattle.pid_findings.specs.Views.{FindingView}
use Rattle.sound_packets.specs.KnownFrames.{KnownFrames, with_findings, with_pid}

finding_more : (known next : KnownFrames) (f : FindingView) (fs : List FindingView) → next ≡ with_pid known f.pid f.what →
    with_findings known (f ∷ fs) ≡ with_findings next fs
unfolding with_findings
finding_more known next f fs made = rw made refl

no_finding : (known : KnownFrames) → with_findings known [] ≡ known
unfolding with_findings
no_finding known = refl

pub next_finding : {X : Type 0} (view : X → FindingView) (known next : KnownFrames) (xs : List X) (i : ℕ) (x : X) → i < length xs → x ≡ get_or xs i x →
    next ≡ with_pid known (view x).pid (view x).what → with_findings known (map view (drop i xs)) ≡ with_findings next (map view (drop (i + 1) xs))
next_finding {X = X} view known next xs i x within at made =
    let left : drop i xs ≡ x ∷ drop (i + 1) xs = drop_more xs i x within ∙ ap (λ (z : X). z ∷ drop (i + 1) xs) (sym at) in
    ap (λ (l : List X). with_findings known (map view l)) left ∙ finding_more known next (view x) (map view (drop (i + 1) xs)) made

pub last_finding : {X : Type 0} (view : X → FindingView) (known whole : KnownFrames) (xs : List X) (i : ℕ) → length xs ≤ i →
    whole ≡ with_findings known (map view (drop i xs)) → known ≡ whole
last_finding {X = X} view known whole xs i all is =
    sym (is ∙ ap (λ (l : List X). with_findings known (map view l)) (drop_all i xs all) ∙ no_finding known)
