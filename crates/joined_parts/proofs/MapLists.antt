-- Findings one after another: their maps, PIDs and codings
use Rattle.std.proofs.Common.{◌≡◌, ◌∙◌, ◌<◌, ◌≤◌, ℕ, ◌+◌, List, [], ◌∷◌, length, map, drop, get_or, refl, sym, ap}
use Rattle.std.proofs.lemmas.List.{drop_all, drop_more}
use Rattle.pid_findings.specs.Views.{FindingView}
use Rattle.joined_parts.specs.MapStreams.{MapsView, maps_after, with_finding}
use Rattle.joined_parts.specs.Recodings.{CodingsView, codings_after, pids_after, with_codings_of, with_pids_of}

-- 1. Maps

map_more : (maps next : MapsView) (f : FindingView) (fs : List FindingView) → next ≡ with_finding maps f → maps_after maps (f ∷ fs) ≡ maps_after next fs
unfolding maps_after
map_more maps next f fs made = rw made refl

map_none : (maps : MapsView) → maps_after maps [] ≡ maps
unfolding maps_after
map_none maps = refl

pub maps_next : {X : Type 0} (view : X → FindingView) (maps next : MapsView) (xs : List X) (i : ℕ) (x : X) → i < length xs → x ≡ get_or xs i x →
    next ≡ with_finding maps (view x) → maps_after maps (map view (drop i xs)) ≡ maps_after next (map view (drop (i + 1) xs))
maps_next {X = X} view maps next xs i x within at made =
    let left : drop i xs ≡ x ∷ drop (i + 1) xs = drop_more xs i x within ∙ ap (λ (z : X). z ∷ drop (i + 1) xs) (sym at) in
    ap (λ (l : List X). maps_after maps (map view l)) left ∙ map_more maps next (view x) (map view (drop (i + 1) xs)) made

pub maps_all : {X : Type 0} (view : X → FindingView) (maps whole : MapsView) (xs : List X) (i : ℕ) → length xs ≤ i →
    whole ≡ maps_after maps (map view (drop i xs)) → maps ≡ whole
maps_all {X = X} view maps whole xs i all is =
    sym (is ∙ ap (λ (l : List X). maps_after maps (map view l)) (drop_all i xs all) ∙ map_none maps)

-- 2. PIDs

pid_more : (pids next : List ℕ) (f : FindingView) (fs : List FindingView) → next ≡ with_pids_of pids f → pids_after pids (f ∷ fs) ≡ pids_after next fs
unfolding pids_after
pid_more pids next f fs made = rw made refl

pid_none : (pids : List ℕ) → pids_after pids [] ≡ pids
unfolding pids_after
pid_none pids = refl

pub pids_next : {X : Type 0} (view : X → FindingView) (pids next : List ℕ) (xs : List X) (i : ℕ) (x : X) → i < length xs → x ≡ get_or xs i x →
    next ≡ with_pids_of pids (view x) → pids_after pids (map view (drop i xs)) ≡ pids_after next (map view (drop (i + 1) xs))
pids_next {X = X} view pids next xs i x within at made =
    let left : drop i xs ≡ x ∷ drop (i + 1) xs = drop_more xs i x within ∙ ap (λ (z : X). z ∷ drop (i + 1) xs) (sym at) in
    ap (λ (l : List X). pids_after pids (map view l)) left ∙ pid_more pids next (view x) (map view (drop (i + 1) xs)) made

pub pids_all : {X : Type 0} (view : X → FindingView) (pids whole : List ℕ) (xs : List X) (i : ℕ) → length xs ≤ i →
    whole ≡ pids_after pids (map view (drop i xs)) → pids ≡ whole
pids_all {X = X} view pids whole xs i all is =
    sym (is ∙ ap (λ (l : List X). pids_after pids (map view l)) (drop_all i xs all) ∙ pid_none pids)

-- 3. Codings

coding_more : (c next : CodingsView) (f : FindingView) (fs : List FindingView) → next ≡ with_codings_of c f → codings_after c (f ∷ fs) ≡ codings_after next fs
unfolding codings_after
coding_more c next f fs made = rw made refl

coding_none : (c : CodingsView) → codings_after c [] ≡ c
unfolding codings_after
coding_none c = refl

pub codings_next : {X : Type 0} (view : X → FindingView) (c next : CodingsView) (xs : List X) (i : ℕ) (x : X) → i < length xs → x ≡ get_or xs i x →
    next ≡ with_codings_of c (view x) → codings_after c (map view (drop i xs)) ≡ codings_after next (map view (drop (i + 1) xs))
codings_next {X = X} view c next xs i x within at made =
    let left : drop i xs ≡ x ∷ drop (i + 1) xs = drop_more xs i x within ∙ ap (λ (z : X). z ∷ drop (i + 1) xs) (sym at) in
    ap (λ (l : List X). codings_after c (map view l)) left ∙ coding_more c next (view x) (map view (drop (i + 1) xs)) made

pub codings_all : {X : Type 0} (view : X → FindingView) (c whole : CodingsView) (xs : List X) (i : ℕ) → length xs ≤ i →
    whole ≡ codings_after c (map view (drop i xs)) → c ≡ whole
codings_all {X = X} view c whole xs i all is =
    sym (is ∙ ap (λ (l : List X). codings_after c (map view l)) (drop_all i xs all) ∙ coding_none c)
