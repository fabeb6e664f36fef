-- The content of the findings that are given, and which of them are slices of a packet.
use Rattle.std.proofs.Common.{◌≡◌, Bool, true, false, List, [], ◌∷◌, ◌++◌, map, refl, sym, ap, ap₂, ◌∙◌}
use Rattle.std.specs.Prelude.{◌&&◌, ◌||◌}
use Rattle.std.specs.List.{list_any}
use Rattle.std.proofs.lemmas.List.{map-append}
use Rattle.pid_findings.specs.Views.{Found, FindingView}
use Rattle.pid_findings.specs.declared.finding.Finding.{Finding}
use Rattle.pid_findings.specs.declared.place.Place.{Place}
use Rattle.pid_findings.specs.Shown.{Finds, GivenView, KeepsJoined, finding_view, given, given_view, is_span, with_pid, KeepsFindings}

says_of : {A : Type 0} (xs : List (Finding A)) → map finding_view xs ≡ map (λ (g : GivenView). g.finding) (map given_view xs)
says_of [] = refl
says_of (x ∷ xs) = ap (λ (ys : List FindingView). finding_view x ∷ ys) (says_of xs)

with_pid_of : (place : Place) (found : List Found) → map (λ (g : GivenView). g.finding) (map (given place) found) ≡ map (with_pid place.pid place.packet) found
with_pid_of place [] = refl
with_pid_of place (x ∷ xs) = ap (λ (ys : List FindingView). with_pid place.pid place.packet x ∷ ys) (with_pid_of place xs)

-- The content of the findings at a place
pub says : {A : Type 0} (place : Place) (old new : List (Finding A)) (found : List Found) → Finds place old new found →
    map finding_view new ≡ map finding_view old ++ map (with_pid place.pid place.packet) found
says place old new found h =
    says_of new ∙ ap (map (λ (g : GivenView). g.finding)) h ∙ map-append (λ (g : GivenView). g.finding) (map given_view old) (map (given place) found)
    ∙ ap₂ (λ (xs ys : List FindingView). xs ++ ys) (sym (says_of old)) (with_pid_of place found)

spans_of : {A : Type 0} (xs : List (Finding A)) → map is_span xs ≡ map (λ (g : GivenView). g.span) (map given_view xs)
spans_of [] = refl
spans_of (x ∷ xs) = ap (λ (ys : List Bool). is_span x ∷ ys) (spans_of xs)

within_of : (place : Place) (found : List Found) →
    map (λ (g : GivenView). g.span) (map (given place) found) ≡ map (λ (b : Bool). b && place.borrowed) (map (λ (f : Found). f.within) found)
within_of place [] = refl
within_of place (x ∷ xs) = ap (λ (ys : List Bool). (x.within && place.borrowed) ∷ ys) (within_of place xs)

-- Which of the findings are slices
pub spans : {A : Type 0} (place : Place) (old new : List (Finding A)) (found : List Found) → Finds place old new found →
    map is_span new ≡ map is_span old ++ map (λ (b : Bool). b && place.borrowed) (map (λ (f : Found). f.within) found)
spans place old new found h =
    spans_of new ∙ ap (map (λ (g : GivenView). g.span)) h ∙ map-append (λ (g : GivenView). g.span) (map given_view old) (map (given place) found)
    ∙ ap₂ (λ (xs ys : List Bool). xs ++ ys) (sym (spans_of old)) (within_of place found)

-- If the packet is borrowed, each finding that lies whole in it is a slice.
pub all_borrowed : (within : List Bool) → map (λ (b : Bool). b && true) within ≡ within
all_borrowed [] = refl
all_borrowed (true ∷ within) = ap (λ (ys : List Bool). true ∷ ys) (all_borrowed within)
all_borrowed (false ∷ within) = ap (λ (ys : List Bool). false ∷ ys) (all_borrowed within)

any : List Bool → Bool
any [] = false
any (b ∷ bs) = b || any bs

any_of : {A : Type 0} (xs : List (Finding A)) → list_any is_span xs ≡ any (map is_span xs)
unfolding any
any_of [] = refl
any_of (x ∷ xs) = ap (λ (b : Bool). is_span x || b) (any_of xs)

any_append : (front back : List Bool) → any front ≡ false → any back ≡ false → any (front ++ back) ≡ false
unfolding any
any_append [] back h k = k
any_append (true ∷ front) back h k = absurd cc
any_append (false ∷ front) back h k = any_append front back h k

any_none : (within : List Bool) → any (map (λ (b : Bool). b && false) within) ≡ false
unfolding any
any_none [] = refl
any_none (true ∷ within) = any_none within
any_none (false ∷ within) = any_none within

keeps : {A : Type 0} (old new : List (Finding A)) (more : List Bool) → any more ≡ false → map is_span new ≡ map is_span old ++ more → KeepsJoined old new
keeps old new more n h = λ k. any_of new ∙ ap any h ∙ any_append (map is_span old) more (sym (any_of old) ∙ k) n

-- If the packet is not borrowed, no finding is a slice.
pub none_borrowed : {A : Type 0} (old new : List (Finding A)) (within : List Bool) →
    map is_span new ≡ map is_span old ++ map (λ (b : Bool). b && false) within → KeepsJoined old new
none_borrowed old new within h = keeps old new (map (λ (b : Bool). b && false) within) (any_none within) h

-- A finding with joined bytes is no slice.
pub joined_one : {A : Type 0} (old new : List (Finding A)) → map is_span new ≡ map is_span old ++ false ∷ [] → KeepsJoined old new
unfolding any
joined_one old new h = keeps old new (false ∷ []) refl h

pub joined : {A : Type 0} (place : Place) (old new : List (Finding A)) (found : List Found) → place.borrowed ≡ false → Finds place old new found →
    KeepsJoined old new
joined place old new found e h =
    none_borrowed old new (map (λ (f : Found). f.within) found)
    (spans place old new found h ∙ ap (λ (l : Bool). map is_span old ++ map (λ (b : Bool). b && l) (map (λ (f : Found). f.within) found)) e)

-- No new finding is given.
pub same_joined : {A : Type 0} (old new : List (Finding A)) → KeepsFindings old new → KeepsJoined old new
same_joined old new h = λ k. any_of new ∙ ap any (spans_of new ∙ ap (map (λ (g : GivenView). g.span)) h ∙ sym (spans_of old)) ∙ sym (any_of old) ∙ k

pub same_says : {A : Type 0} (old new : List (Finding A)) → KeepsFindings old new → map finding_view new ≡ map finding_view old
same_says old new h = says_of new ∙ ap (map (λ (g : GivenView). g.finding)) h ∙ sym (says_of old)
