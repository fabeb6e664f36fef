-- Findings that are marked one after another, and the findings of one PID among them
use Rattle.std.proofs.Common.{◌≡◌, ◌∙◌, ◌<◌, ◌≤◌, ℕ, ◌+◌, ◌++◌, Bool, true, false, if◌then◌else◌, Option, Some, None, List, [], ◌∷◌, length, map, take, drop}
use Rattle.std.proofs.Common.{set, get_or, refl, sym, ap, ap₂, arith}
use Rattle.std.proofs.lemmas.Bool.{eqb-true}
use Rattle.std.proofs.lemmas.List.{append_assoc, append-nil, drop_all, drop_more, drop-set-lt, map-append, take_all, take_more_set}
use Rattle.demux.specs.Laws.{found_of, has_pid}
use Rattle.pid_findings.specs.Views.{FindingView, WhatView, IsDuplicate, BreaksCounter, IsScrambled, IsTruncated, IsSection, IsBadSection, IsPes, IsBadPes}
use Rattle.pid_findings.specs.Views.{IsBadPacket, IsErrored, IsStray}
use Rattle.es_units.specs.MarkLaws.{MarkedByThePid, NothingIsMarked}
use Rattle.es_units.specs.Marking.{MarkingView, all_marked, can_begin, is_aligned, is_begin, marked, no_marking, type_of, with_access, with_alignment}

-- 1. One finding after another

pub marked_more : {X : Type 0} (view : X → FindingView) (m : MarkingView) (xs : List X) (i : ℕ) (x y : X) (whole : List FindingView) → i < length xs →
    x ≡ get_or xs i x → view y ≡ marked m (view x) →
    map view (take i xs) ++ all_marked m (map view (drop i xs)) ≡ whole →
    map view (take (i + 1) (set xs i y)) ++ all_marked m (map view (drop (i + 1) (set xs i y))) ≡ whole
marked_more {X = X} view m xs i x y whole within at one before =
    let front : take (i + 1) (set xs i y) ≡ take i xs ++ y ∷ [] = take_more_set xs i y within in
    let back : drop (i + 1) (set xs i y) ≡ drop (i + 1) xs = drop-set-lt (i + 1) xs i y (omega arith) in
    let left : drop i xs ≡ x ∷ drop (i + 1) xs = drop_more xs i x within ∙ ap (λ (z : X). z ∷ drop (i + 1) xs) (sym at) in
    let later = all_marked m (map view (drop (i + 1) xs)) in
    ap (λ (l : List X). map view l ++ all_marked m (map view (drop (i + 1) (set xs i y)))) front
    ∙ ap (λ (l : List X). map view (take i xs ++ y ∷ []) ++ all_marked m (map view l)) back
    ∙ ap (λ (l : List FindingView). l ++ later) (map-append view (take i xs) (y ∷ []))
    ∙ append_assoc (map view (take i xs)) (view y ∷ []) later
    ∙ ap (λ (f : FindingView). map view (take i xs) ++ f ∷ later) one
    ∙ ap (λ (l : List X). map view (take i xs) ++ all_marked m (map view l)) (sym left)
    ∙ before

pub marked_whole : {X : Type 0} (view : X → FindingView) (m : MarkingView) (xs : List X) (i : ℕ) (whole : List FindingView) → length xs ≤ i →
    map view (take i xs) ++ all_marked m (map view (drop i xs)) ≡ whole → map view xs ≡ whole
marked_whole {X = X} view m xs i whole all is =
    sym (append-nil (map view xs))
    ∙ ap (λ (l : List X). map view l ++ []) (sym (take_all i xs all))
    ∙ ap (λ (l : List X). map view (take i xs) ++ all_marked m (map view l)) (sym (drop_all i xs all))
    ∙ is

-- 2. Nothing is asked for

no_begin : (pid : Option ℕ) (what : WhatView) → is_begin [] pid what ≡ false
unfolding is_begin type_of can_begin
no_begin None what = refl
no_begin (Some pid) IsDuplicate = refl
no_begin (Some pid) (BreaksCounter expected found) = refl
no_begin (Some pid) IsScrambled = refl
no_begin (Some pid) (IsTruncated bytes) = refl
no_begin (Some pid) (IsSection bytes) = refl
no_begin (Some pid) (IsBadSection error) = refl
no_begin (Some pid) (IsPes header unended body) = refl
no_begin (Some pid) (IsBadPes error) = refl
no_begin (Some pid) (IsBadPacket error) = refl
no_begin (Some pid) IsErrored = refl
no_begin (Some pid) (IsStray size) = refl

none_aligned : (pid : Option ℕ) → is_aligned [] pid ≡ false
unfolding is_aligned
none_aligned None = refl
none_aligned (Some pid) = refl

not_marked : (f : FindingView) → marked no_marking f ≡ f
not_marked f = rw (no_begin f.pid f.what, none_aligned f.pid) refl

pub nothing_marked : NothingIsMarked
nothing_marked [] = refl
nothing_marked (f ∷ fs) =
    ap (λ (g : FindingView). g ∷ all_marked no_marking fs) (not_marked f) ∙ ap (λ (l : List FindingView). f ∷ l) (nothing_marked fs)

-- 3. One PID

begins_alike : (one other : MarkingView) (pid : ℕ) (what : WhatView) → type_of pid one.access ≡ type_of pid other.access →
    is_begin one.access (Some pid) what ≡ is_begin other.access (Some pid) what
unfolding is_begin
begins_alike one other pid IsDuplicate same = refl
begins_alike one other pid (BreaksCounter expected found) same = refl
begins_alike one other pid IsScrambled same = refl
begins_alike one other pid (IsTruncated bytes) same = refl
begins_alike one other pid (IsSection bytes) same = refl
begins_alike one other pid (IsBadSection error) same = refl
begins_alike one other pid (IsPes header unended body) same = ap (λ (t : Option ℕ). can_begin t body) same
begins_alike one other pid (IsBadPes error) same = refl
begins_alike one other pid (IsBadPacket error) same = refl
begins_alike one other pid IsErrored same = refl
begins_alike one other pid (IsStray size) same = refl

-- Two markings that ask for the same of a PID
record AreAlike (one other : MarkingView) (pid : ℕ) : Type 0 where
  typed : type_of pid one.access ≡ type_of pid other.access
  aligned : is_aligned one.aligned (Some pid) ≡ is_aligned other.aligned (Some pid)

with_marks : FindingView → Bool → Bool → FindingView
with_marks f begins aligned = record {
  packet = f.packet;
  pid = f.pid;
  begun = if begins then with_access f.begun else f.begun;
  what = if aligned then with_alignment f.what else f.what;
}

marked_at : (one other : MarkingView) (pid : ℕ) (f : FindingView) → f.pid ≡ Some pid → AreAlike one other pid → marked one f ≡ marked other f
unfolding with_marks
marked_at one other pid f at alike =
    let begins : is_begin one.access f.pid f.what ≡ is_begin other.access f.pid f.what =
    ap (λ (p : Option ℕ). is_begin one.access p f.what) at ∙ begins_alike one other pid f.what alike.typed
    ∙ sym (ap (λ (p : Option ℕ). is_begin other.access p f.what) at) in
    let aligned : is_aligned one.aligned f.pid ≡ is_aligned other.aligned f.pid =
    ap (λ (p : Option ℕ). is_aligned one.aligned p) at ∙ alike.aligned ∙ sym (ap (λ (p : Option ℕ). is_aligned other.aligned p) at) in
    ap₂ (with_marks f) begins aligned

marked_alike : (one other : MarkingView) (pid : ℕ) (f : FindingView) (own : Option ℕ) → f.pid ≡ own → has_pid pid own ≡ true → AreAlike one other pid →
    marked one f ≡ marked other f
marked_alike one other pid f None at is alike = absurd cc
marked_alike one other pid f (Some p) at is alike =
    let same : p ≡ pid = eqb-true p pid is in
    marked_at one other pid f (at ∙ ap (λ (q : ℕ). Some q) same) alike

kept_if : (own : Bool) (f g : FindingView) (fs gs : List FindingView) → (own ≡ true → f ≡ g) → fs ≡ gs →
    (let one : List FindingView = if own then f ∷ fs else fs in one) ≡ (let other : List FindingView = if own then g ∷ gs else gs in other)
kept_if true f g fs gs same rest = ap₂ (λ (x : FindingView) (l : List FindingView). x ∷ l) (same refl) rest
kept_if false f g fs gs same rest = rest

found_alike : (one other : MarkingView) (pid : ℕ) (findings : List FindingView) → AreAlike one other pid →
    found_of pid (all_marked one findings) ≡ found_of pid (all_marked other findings)
found_alike one other pid [] alike = refl
found_alike one other pid (f ∷ fs) alike =
    kept_if (has_pid pid f.pid) (marked one f) (marked other f) (found_of pid (all_marked one fs)) (found_of pid (all_marked other fs))
    (λ own. marked_alike one other pid f f.pid refl own alike) (found_alike one other pid fs alike)

pub marked_by_pid : MarkedByThePid
marked_by_pid one other pid findings typed aligned = found_alike one other pid findings (record { typed = typed; aligned = aligned })
