-- The tables kept finding by finding give the association and the maps of all findings.
use Rattle.std.proofs.Common.{◌≡◌, ◌≤◌, ◌<◌, ℕ, ◌+◌, ◌==◌, ◌||◌, zero, suc, Bool, true, false, List, [], ◌∷◌, ◌++◌, length, map, take, drop, get_or, Option}
use Rattle.std.proofs.Common.{Some, None, refl, sym, ap, ◌∙◌, add-one, arith}
use Rattle.std.specs.Prelude.{is_some, if◌then◌else◌}
use Rattle.std.specs.Option.{option_or}
use Rattle.std.proofs.lemmas.List.{append-nil, append_assoc, take-append-drop, length-take, length-map}
use Rattle.psi_tables.specs.ProgramAssociation.{PatView}
use Rattle.psi_tables.specs.declared.pat.programs.Program.{Program}
use Rattle.pid_findings.specs.Views.{FindingView}
use Rattle.program_tables.specs.Association.{entries, entries_of, first_pat, is_named, pat_found, with_program, with_programs}
use Rattle.program_tables.specs.MapPlaces.{places_from, places_in, places_with, program_found}
use Rattle.program_tables.specs.KnownTables.{KnownView, known_from, known_in, known_with, nothing, programs_with, version_with}
use Rattle.program_tables.proofs.AssociationSteps.{with_both}
use Rattle.program_tables.proofs.Slices.{more, done}

-- 1. Findings one after another

pub known_more : {X : Type 0} (view : X → FindingView) (known next : KnownView) (i : ℕ) (fs : List X) (f : X) → i < length fs → f ≡ get_or fs i f →
    next ≡ known_with known i (view f) → known_from known i (map view (drop i fs)) ≡ known_from next (i + 1) (map view (drop (i + 1) fs))
unfolding known_from
known_more view known next i fs f below at made = rw (more view i fs f below at, made) refl

pub known_end : {X : Type 0} (view : X → FindingView) (known : KnownView) (i : ℕ) (fs : List X) → length fs ≤ i →
    known_from known i (map view (drop i fs)) ≡ known
unfolding known_from
known_end view known i fs over = rw (done view i fs over) refl

known_both : (known : KnownView) (at : ℕ) (xs ys : List FindingView) → known_from known at (xs ++ ys) ≡ known_from (known_from known at xs) (at + length xs) ys
unfolding known_from
known_both known at [] ys = let n : at ≡ at + 0 = omega arith in ap (λ (k : ℕ). known_from known k ys) n
known_both known at (x ∷ xs) ys =
    let n : (at + 1) + length xs ≡ at + suc (length xs) = omega arith in
    known_both (known_with known at x) (at + 1) xs ys ∙ ap (λ (k : ℕ). known_from (known_from (known_with known at x) (at + 1) xs) k ys) n

-- Findings are taken in two parts: the first `taken` findings, then the rest.
pub known_on : {X : Type 0} (view : X → FindingView) (taken : ℕ) (fs : List X) → taken ≤ length fs →
    known_from (known_in (take taken (map view fs))) taken (map view (drop taken fs)) ≡ known_in (map view fs)
known_on view taken fs within =
    let all : List FindingView = map view fs in
    let size : length (take taken all) ≡ taken = length-take taken all ∙ omega (arith, within, length-map fs view) in
    let n : 0 + length (take taken all) ≡ taken = omega (arith, size) in
    ap (known_from (known_in (take taken all)) taken) (drop_map view taken fs)
    ∙ ap (λ (k : ℕ). known_from (known_in (take taken all)) k (drop taken all)) (sym n)
    ∙ sym (known_both nothing 0 (take taken all) (drop taken all)) ∙ ap known_in (take-append-drop taken all)
  where
    drop_map : {X : Type 0} (view : X → FindingView) (n : ℕ) (fs : List X) → map view (drop n fs) ≡ drop n (map view fs)
    drop_map view zero fs = refl
    drop_map view (suc n) [] = refl
    drop_map view (suc n) (f ∷ fs) = drop_map view n fs

-- 2. The places of maps

places_are : (known : KnownView) (at : ℕ) (fs : List FindingView) → (known_from known at fs).places ≡ places_from known.places at fs
unfolding known_from places_from
places_are known at [] = refl
places_are known at (f ∷ fs) = places_are (known_with known at f) (at + 1) fs

pub places_known : (findings : List FindingView) → (known_in findings).places ≡ places_in findings
places_known findings = places_are nothing 0 findings

-- 3. The programs

-- The programs with the version of the first table
abbrev pub named_by : Option PatView → List FindingView → List Program
named_by None findings = []
named_by (Some first) findings = with_programs [] (entries first.header.version_number findings)

after_first : (known : KnownView) (version at : ℕ) (fs : List FindingView) → known.version ≡ Some version →
    (known_from known at fs).programs ≡ with_programs known.programs (entries version fs)
unfolding known_from with_programs entries version_with programs_with
after_first known version at [] is = refl
after_first known version at (f ∷ fs) is =
    let v : version_with known.version (pat_found f) ≡ Some version = rw is refl in
    after_first (known_with known at f) version (at + 1) fs v
    ∙ ap (λ (o : Option ℕ). with_programs (programs_with o known.programs (pat_found f)) (entries version fs)) v
    ∙ sym (with_both known.programs (entries_of version (pat_found f)) (entries version fs))

version_stays : (known : KnownView) (version at : ℕ) (fs : List FindingView) → known.version ≡ Some version → (known_from known at fs).version ≡ Some version
unfolding known_from version_with
version_stays known version at [] is = is
version_stays known version at (f ∷ fs) is = let v : version_with known.version (pat_found f) ≡ Some version =
    rw is refl in version_stays (known_with known at f) version (at + 1) fs v

no_entries : (version : ℕ) (o : Option PatView) (rest : List Program) → o ≡ None → rest ≡ entries_of version o ++ rest
unfolding entries_of
no_entries version None rest none = refl
no_entries version (Some pat) rest none = absurd cc

no_more : (o : Option PatView) (f : FindingView) (fs : List FindingView) → pat_found f ≡ None → named_by o fs ≡ named_by o (f ∷ fs)
unfolding entries
no_more None f fs none = refl
no_more (Some first) f fs none =
    let version : ℕ = first.header.version_number in
    ap (λ (ps : List Program). with_programs [] ps) (no_entries version (pat_found f) (entries version fs) none)

-- The state before the first table
abbrev nameless : List (ℕ × ℕ) → KnownView
nameless places = record { version = None; programs = []; places = places }

still_nameless : (places : List (ℕ × ℕ)) (at : ℕ) (f : FindingView) → pat_found f ≡ None →
    known_with (nameless places) at f ≡ nameless (places_with places (program_found f) at)
unfolding version_with programs_with
still_nameless places at f none = rw none refl

-- The first table is in this finding or in a later finding.
with_first : (at : ℕ) (places : List (ℕ × ℕ)) (f : FindingView) (fs : List FindingView) (o : Option PatView) → pat_found f ≡ o →
    (known_from (nameless (places_with places (program_found f) at)) (at + 1) fs).programs ≡ named_by (first_pat fs) fs →
    (known_from (known_with (nameless places) at f) (at + 1) fs).programs ≡ named_by (option_or o (first_pat fs)) (f ∷ fs)
unfolding version_with programs_with entries
with_first at places f fs None none later =
    ap (λ (known : KnownView). (known_from known (at + 1) fs).programs) (still_nameless places at f none) ∙ later ∙ no_more (first_pat fs) f fs none
with_first at places f fs (Some pat) is later =
    let version : ℕ = pat.header.version_number in
    let v : (known_with (nameless places) at f).version ≡ Some version = rw is refl in
    let ps : (known_with (nameless places) at f).programs ≡ with_programs [] (entries_of version (pat_found f)) = rw is refl in
    after_first (known_with (nameless places) at f) version (at + 1) fs v
    ∙ ap (λ (named : List Program). with_programs named (entries version fs)) ps
    ∙ sym (with_both [] (entries_of version (pat_found f)) (entries version fs))

before_first : (at : ℕ) (places : List (ℕ × ℕ)) (fs : List FindingView) → (known_from (nameless places) at fs).programs ≡ named_by (first_pat fs) fs
unfolding known_from first_pat entries with_programs
before_first at places [] = refl
before_first at places (f ∷ fs) =
    with_first at places f fs (pat_found f) refl (before_first (at + 1) (places_with places (program_found f) at) fs)

pub programs_known : (findings : List FindingView) → (known_in findings).programs ≡ named_by (first_pat findings) findings
programs_known findings = before_first 0 [] findings

version_from : (at : ℕ) (places : List (ℕ × ℕ)) (f : FindingView) (fs : List FindingView) (o : Option PatView) → pat_found f ≡ o →
    is_some (known_from (nameless (places_with places (program_found f) at)) (at + 1) fs).version ≡ is_some (first_pat fs) →
    is_some (known_from (known_with (nameless places) at f) (at + 1) fs).version ≡ is_some (option_or o (first_pat fs))
unfolding version_with
version_from at places f fs None none later =
    ap (λ (known : KnownView). is_some (known_from known (at + 1) fs).version) (still_nameless places at f none) ∙ later
version_from at places f fs (Some pat) is later =
    let v : (known_with (nameless places) at f).version ≡ Some pat.header.version_number = rw is refl in
    ap (λ (o : Option ℕ). is_some o) (version_stays (known_with (nameless places) at f) pat.header.version_number (at + 1) fs v)

version_before : (at : ℕ) (places : List (ℕ × ℕ)) (fs : List FindingView) → is_some (known_from (nameless places) at fs).version ≡ is_some (first_pat fs)
unfolding known_from first_pat
version_before at places [] = refl
version_before at places (f ∷ fs) =
    version_from at places f fs (pat_found f) refl (version_before (at + 1) (places_with places (program_found f) at) fs)

pub version_known : (findings : List FindingView) → is_some (known_in findings).version ≡ is_some (first_pat findings)
version_known findings = version_before 0 [] findings

-- 4. With more findings the programs stay, and further programs are added after them

pub record Grown (before after : List Program) : Type 0 where
  pub others : List Program
  pub is : after ≡ before ++ others

grown_one : (named : List Program) (p : Program) → Grown named (with_program named p)
unfolding with_program
grown_one named p = by ((p.program_number == 0) || is_named p.program_number named)
  where
    by : (t : Bool) → Grown named (if t then named else named ++ p ∷ [])
    by true = record { others = []; is = sym (append-nil named) }
    by false = record { others = p ∷ []; is = refl }

grown_twice : (xs ys zs : List Program) → Grown xs ys → Grown ys zs → Grown xs zs
grown_twice xs ys zs a b = record {
  others = a.others ++ b.others;
  is = b.is ∙ ap (λ (l : List Program). l ++ b.others) a.is ∙ append_assoc xs a.others b.others;
}

grown_each : (named ps : List Program) → Grown named (with_programs named ps)
unfolding with_programs
grown_each named [] = record { others = []; is = sym (append-nil named) }
grown_each named (p ∷ ps) =
    grown_twice named (with_program named p) (with_programs (with_program named p) ps) (grown_one named p) (grown_each (with_program named p) ps)

grown_by : (version : Option ℕ) (programs : List Program) (found : Option PatView) → Grown programs (programs_with version programs found)
unfolding programs_with
grown_by None programs found = record { others = []; is = sym (append-nil programs) }
grown_by (Some version) programs found = grown_each programs (entries_of version found)

grown_from : (known : KnownView) (at : ℕ) (fs : List FindingView) → Grown known.programs (known_from known at fs).programs
unfolding known_from
grown_from known at [] = record { others = []; is = sym (append-nil known.programs) }
grown_from known at (f ∷ fs) =
    grown_twice known.programs (known_with known at f).programs (known_from (known_with known at f) (at + 1) fs).programs
    (grown_by (version_with known.version (pat_found f)) known.programs (pat_found f)) (grown_from (known_with known at f) (at + 1) fs)

pub programs_grow : (found others : List FindingView) → Grown (known_in found).programs (known_in (found ++ others)).programs
programs_grow found others =
    let both = known_both nothing 0 found others in
    let more = grown_from (known_in found) (0 + length found) others in
    record { others = more.others; is = ap (λ (known : KnownView). known.programs) both ∙ more.is }
