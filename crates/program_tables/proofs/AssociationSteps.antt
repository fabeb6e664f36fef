-- Tables of programs, finding by finding
use Rattle.std.proofs.Common.{◌≡◌, ◌≤◌, ◌<◌, ℕ, ◌+◌, true, false, List, [], ◌∷◌, ◌++◌, length, map, drop, get_or, Some, None, refl}
use Rattle.std.specs.Option.{option_or}
use Rattle.psi_tables.specs.declared.pat.programs.Program.{Program}
use Rattle.pid_findings.specs.Views.{FindingView}
use Rattle.program_tables.specs.Association.{pat_found, first_pat, entries_of, entries, with_program, with_programs, AssociationView, is_other}
use Rattle.program_tables.specs.Association.{association_change}
use Rattle.program_tables.proofs.Slices.{more, done}

-- 1. The first table

pub first_more : {X : Type 0} (view : X → FindingView) (i : ℕ) (fs : List X) (f : X) → i < length fs → f ≡ get_or fs i f →
    first_pat (map view (drop i fs)) ≡ option_or (pat_found (view f)) (first_pat (map view (drop (i + 1) fs)))
unfolding first_pat
first_more view i fs f below at = rw (more view i fs f below at) refl

pub first_end : {X : Type 0} (view : X → FindingView) (i : ℕ) (fs : List X) → length fs ≤ i → first_pat (map view (drop i fs)) ≡ None
unfolding first_pat
first_end view i fs over = rw (done view i fs over) refl

-- 2. Entries

pub with_both : (named xs ys : List Program) → with_programs named (xs ++ ys) ≡ with_programs (with_programs named xs) ys
unfolding with_programs
with_both named [] ys = refl
with_both named (x ∷ xs) ys = with_both (with_program named x) xs ys

pub entries_more : {X : Type 0} (view : X → FindingView) (version i : ℕ) (fs : List X) (f : X) (named after : List Program) → i < length fs →
    f ≡ get_or fs i f → after ≡ with_programs named (entries_of version (pat_found (view f))) →
    with_programs named (entries version (map view (drop i fs))) ≡ with_programs after (entries version (map view (drop (i + 1) fs)))
unfolding entries
entries_more view version i fs f named after below at made =
    rw (more view i fs f below at, made) (with_both named (entries_of version (pat_found (view f))) (entries version (map view (drop (i + 1) fs))))

pub entries_end : {X : Type 0} (view : X → FindingView) (version i : ℕ) (fs : List X) (named : List Program) → length fs ≤ i →
    with_programs named (entries version (map view (drop i fs))) ≡ named
unfolding entries with_programs
entries_end view version i fs named over = rw (done view i fs over) refl

-- 3. A table that differs

pub change_later : {X : Type 0} (view : X → FindingView) (a : AssociationView) (i : ℕ) (fs : List X) (f : X) → i < length fs → f ≡ get_or fs i f →
    is_other a (pat_found (view f)) ≡ false →
    association_change a (map view (drop i fs)) ≡ association_change a (map view (drop (i + 1) fs))
unfolding association_change
change_later view a i fs f below at stays = rw (more view i fs f below at, stays) refl

pub change_here : {X : Type 0} (view : X → FindingView) (a : AssociationView) (i : ℕ) (fs : List X) (f : X) → i < length fs → f ≡ get_or fs i f →
    is_other a (pat_found (view f)) ≡ true → association_change a (map view (drop i fs)) ≡ Some (view f).packet
unfolding association_change
change_here view a i fs f below at changes = rw (more view i fs f below at, changes) refl

pub change_end : {X : Type 0} (view : X → FindingView) (a : AssociationView) (i : ℕ) (fs : List X) → length fs ≤ i →
    association_change a (map view (drop i fs)) ≡ None
unfolding association_change
change_end view a i fs over = rw (done view i fs over) refl
