-- Sections of a PID, finding by finding
use Rattle.std.proofs.Common.{◌≡◌, ◌≤◌, ◌<◌, ℕ, ◌+◌, ◌-◌, ◌&&◌, ◌||◌, max, Bool, true, false, List, [], ◌∷◌, ◌++◌, length, map, take, drop, get_or, Option}
use Rattle.std.proofs.Common.{Some, None, refl, sym, ap, add-one, arith}
use Rattle.std.specs.Prelude.{not}
use Rattle.std.specs.List.{list_any, list_all}
use Rattle.std.specs.Str.{bytes_eq}
use Rattle.std.proofs.lemmas.Bool.Decides.{nat_tests}
use Rattle.std.proofs.lemmas.Grind.{common_steps}
use Rattle.std.proofs.Math.Seq.{drop-cons}
use Rattle.std.proofs.lemmas.List.{drop_all}
use Rattle.pid_findings.specs.Views.{FindingView}
use Rattle.other_tables.specs.SteadySections.{PidSection, section_view, section_on, sections_on, with_new, distinct_sections, distance_from, greatest_gap}
use Rattle.other_tables.specs.SteadySections.{widest_gap, is_same_section, none_changes}
use Rattle.other_tables.specs.declared.steady.FoundSection.{FoundSection}

next : {X Y : Type 0} (view : X → Y) (i : ℕ) (xs : List X) (x : X) → i < length xs → x ≡ get_or xs i x →
    map view (drop i xs) ≡ view x ∷ map view (drop (i + 1) xs)
next view i xs x below at = rw (drop-cons xs i x below, add-one i, sym at) refl

pub sections_more : {X : Type 0} (view : X → FindingView) (count pid i : ℕ) (fs : List X) (f : X) (found one after : List PidSection) → i < length fs →
    f ≡ get_or fs i f →
    section_on count pid (view f) ≡ Some one → after ≡ found ++ one →
    sections_on count pid found (map view (drop i fs)) ≡ sections_on count pid after (map view (drop (i + 1) fs))
unfolding sections_on
sections_more view count pid i fs f found one after below at is made = rw (next view i fs f below at, is, made) refl

pub sections_none : {X : Type 0} (view : X → FindingView) (count pid i : ℕ) (fs : List X) (f : X) (found : List PidSection) → i < length fs →
    f ≡ get_or fs i f →
    section_on count pid (view f) ≡ None → sections_on count pid found (map view (drop i fs)) ≡ None
unfolding sections_on
sections_none view count pid i fs f found below at is = rw (next view i fs f below at, is) refl

pub sections_end : {X : Type 0} (view : X → FindingView) (count pid i : ℕ) (fs : List X) (found : List PidSection) → length fs ≤ i →
    sections_on count pid found (map view (drop i fs)) ≡ Some found
unfolding sections_on
sections_end view count pid i fs found over = rw (drop_all i fs over) refl

pub any_view : {X Y : Type 0} (view : X → Y) (test : Y → Bool) (xs : List X) → list_any (λ x. test (view x)) xs ≡ list_any test (map view xs)
any_view view test [] = refl
any_view view test (x ∷ xs) = ap (λ (b : Bool). test (view x) || b) (any_view view test xs)

pub all_view : {X Y : Type 0} (view : X → Y) (test : Y → Bool) (xs : List X) → list_all (λ x. test (view x)) xs ≡ list_all test (map view xs)
all_view view test [] = refl
all_view view test (x ∷ xs) = ap (λ (b : Bool). test (view x) && b) (all_view view test xs)

-- Each distinct section is added once.
pub new_more : (i : ℕ) (ss : List FoundSection) (s : FoundSection) (known after : List PidSection) → i < length ss → s ≡ get_or ss i s →
    after ≡ with_new known (section_view s) →
    distinct_sections known (map section_view (drop i ss)) ≡ distinct_sections after (map section_view (drop (i + 1) ss))
unfolding distinct_sections
new_more i ss s known after below at made = rw (next section_view i ss s below at, made) refl

pub new_end : (i : ℕ) (ss : List FoundSection) (known : List PidSection) → length ss ≤ i → distinct_sections known (map section_view (drop i ss)) ≡ known
unfolding distinct_sections
new_end i ss known over = rw (drop_all i ss over) refl

-- The greatest gap between repetitions of a section is found section by section.
max_moved : (gap d rest : ℕ) → max gap (max d rest) ≡ max (max d gap) rest
max_moved gap d rest = grind (arith, nat_tests)

pub gap_own : (bytes : List ℕ) (i : ℕ) (ss : List FoundSection) (s : FoundSection) (gap gap_then : ℕ) (last : Option ℕ) → i < length ss → s ≡ get_or ss i s →
    bytes_eq bytes s.bytes.now ≡ true →
    gap_then ≡ max (distance_from last s.begun) gap →
    max gap (greatest_gap bytes last (map section_view (drop i ss))) ≡ max gap_then (greatest_gap bytes (Some s.begun) (map section_view (drop (i + 1) ss)))
unfolding greatest_gap
gap_own bytes i ss s gap gap_then last below at own made =
    rw (next section_view i ss s below at, own, made)
    (max_moved gap (distance_from last s.begun) (greatest_gap bytes (Some s.begun) (map section_view (drop (i + 1) ss))))

pub gap_other : (bytes : List ℕ) (i : ℕ) (ss : List FoundSection) (s : FoundSection) (gap : ℕ) (last : Option ℕ) → i < length ss → s ≡ get_or ss i s →
    bytes_eq bytes s.bytes.now ≡ false →
    max gap (greatest_gap bytes last (map section_view (drop i ss))) ≡ max gap (greatest_gap bytes last (map section_view (drop (i + 1) ss)))
unfolding greatest_gap
gap_other bytes i ss s gap last below at other = rw (next section_view i ss s below at, other) refl

pub gap_end : (bytes : List ℕ) (i : ℕ) (ss : List FoundSection) (gap : ℕ) (last : Option ℕ) → length ss ≤ i →
    max gap (greatest_gap bytes last (map section_view (drop i ss))) ≡ gap
unfolding greatest_gap
gap_end bytes i ss gap last over = rw (drop_all i ss over) (grind (arith, nat_tests))

-- The widest gap of all sections is found section by section.
pub widest_more : (all : List PidSection) (i : ℕ) (ks : List FoundSection) (k : FoundSection) (widest widest_then : ℕ) → i < length ks → k ≡ get_or ks i k →
    widest_then ≡ max (greatest_gap k.bytes.now None all) widest →
    max widest (widest_gap all (map section_view (drop i ks))) ≡ max widest_then (widest_gap all (map section_view (drop (i + 1) ks)))
unfolding widest_gap
widest_more all i ks k widest widest_then below at made =
    rw (next section_view i ks k below at, made) (max_moved widest (greatest_gap k.bytes.now None all) (widest_gap all (map section_view (drop (i + 1) ks))))

pub widest_end : (all : List PidSection) (i : ℕ) (ks : List FoundSection) (widest : ℕ) → length ks ≤ i →
    max widest (widest_gap all (map section_view (drop i ks))) ≡ widest
unfolding widest_gap
widest_end all i ks widest over = rw (drop_all i ks over) (grind (arith, nat_tests))

-- An arbitrary section, as the value after the end of a list
abbrev pub no_section : FoundSection
no_section = record { begun = 0; bytes = record { ref_ptr = (0, 0); now = [] } }

pub same_default : {X : Type 0} (i : ℕ) (xs : List X) (d : X) → i < length xs → get_or xs i d ≡ get_or xs i (get_or xs i d)
same_default i xs d below = grind (arith, common_steps)

-- Whether a section changes
pub all_after : {X : Type 0} (i : ℕ) (xs : List X) → take (length xs - (i + 1)) (drop (i + 1) xs) ≡ drop (i + 1) xs
all_after i xs = grind (arith, common_steps)

abbrev pub same_after : ℕ → List FoundSection → FoundSection → Bool
same_after i ks k = list_any (is_same_section (section_view k)) (map section_view (drop (i + 1) ks))

-- No section changes if the first has no later version and no later section changes.
pub none_from : (i : ℕ) (ks : List FoundSection) (k : FoundSection) → i < length ks → k ≡ get_or ks i k →
    none_changes (map section_view (drop i ks)) ≡ (not (same_after i ks k) && none_changes (map section_view (drop (i + 1) ks)))
unfolding none_changes
none_from i ks k below at = rw (next section_view i ks k below at) refl

pub none_end : (i : ℕ) (ks : List FoundSection) → length ks ≤ i → none_changes (map section_view (drop i ks)) ≡ true
unfolding none_changes
none_end i ks over = rw (drop_all i ks over) refl
