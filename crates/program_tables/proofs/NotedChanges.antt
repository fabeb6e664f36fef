-- The noted packets are the packets at which maps change.
use Rattle.std.proofs.Common.{◌≡◌, ◌<◌, ◌≤◌, ℕ, ◌+◌, ◌==◌, nat_eq, cond, Bool, true, false, List, [], ◌∷◌, length, map, drop, get_or, Option, Some, None, refl}
use Rattle.std.proofs.Common.{sym, ap, ◌∙◌}
use Rattle.std.specs.Prelude.{is_some, option_and_then}
use Rattle.std.specs.Map.{lookup}
use Rattle.std.specs.Option.{option_or}
use Rattle.indexmap.specs.IndexMap.{insert_entry}
use Rattle.psi_tables.specs.ProgramMap.{PmtView}
use Rattle.psi_tables.specs.declared.pat.programs.Program.{Program}
use Rattle.pid_findings.specs.Views.{FindingView}
use Rattle.program_tables.specs.ProgramMaps.{any_map, differs, first_differing, map_change, pmt_found, program_map}
use Rattle.program_tables.specs.MapPlaces.{AreChanges, changes_by, changes_from, is_change, map_key, noted, program_found}
use Rattle.program_tables.specs.declared.program_map.MapPart.{MapPart}
use Rattle.program_tables.proofs.MapKeys.{by_key, has_map, inserted, is_key, same_number, same_program}
use Rattle.program_tables.proofs.Slices.{more, done}

-- 1. Findings one after another

pub changes_more : {X : Type 0} (view : X → FindingView) (part : MapPart) (all : List FindingView) (es next : List (ℕ × ℕ)) (i : ℕ) (fs : List X) (f : X) →
    i < length fs → f ≡ get_or fs i f → next ≡ changes_by part all es (view f) (program_found (view f)) →
    changes_from part all es (map view (drop i fs)) ≡ changes_from part all next (map view (drop (i + 1) fs))
unfolding changes_from
changes_more view part all es next i fs f below at made = rw (more view i fs f below at, made) refl

pub changes_end : {X : Type 0} (view : X → FindingView) (part : MapPart) (all : List FindingView) (es : List (ℕ × ℕ)) (i : ℕ) (fs : List X) → length fs ≤ i →
    changes_from part all es (map view (drop i fs)) ≡ es
unfolding changes_from
changes_end view part all es i fs over = rw (done view i fs over) refl

-- 2. What one finding changes

abbrev here : MapPart → Program → List FindingView → FindingView → Option ℕ
here part p all f = cond (is_change part (program_map p all) (pmt_found p f)) (Some f.packet) None

or_none : (o : Option ℕ) → o ≡ option_or o None
or_none None = refl
or_none (Some n) = refl

no_change : (part : MapPart) (last : Option PmtView) → is_change part last None ≡ false
unfolding is_change differs
no_change part None = refl
no_change part (Some last) = refl

nothing_here : (part : MapPart) (p : Program) (all : List FindingView) (f : FindingView) → pmt_found p f ≡ None → here part p all f ≡ None
nothing_here part p all f none =
    ap (λ (found : Option PmtView). cond (is_change part (program_map p all) found) (Some f.packet) None) none
    ∙ ap (λ (t : Bool). cond t (Some f.packet) None) (no_change part (program_map p all))

noted_own : (es : List (ℕ × ℕ)) (key packet : ℕ) (changes : Bool) (before : Option ℕ) → lookup (nat_eq key) es ≡ before → (key == key) ≡ true →
    lookup (nat_eq key) (noted es key packet changes) ≡ option_or before (cond changes (Some packet) None)
unfolding noted
noted_own es key packet changes (Some n) is same = rw is is
noted_own es key packet true None is same = rw is (inserted key key packet es true same)
noted_own es key packet false None is same = rw is is

noted_other : (es : List (ℕ × ℕ)) (key k packet : ℕ) (changes : Bool) (before : Option ℕ) → lookup (nat_eq k) es ≡ before → (k == key) ≡ false →
    lookup (nat_eq key) (noted es k packet changes) ≡ lookup (nat_eq key) es
unfolding noted
noted_other es key k packet changes (Some n) is other = rw is refl
noted_other es key k packet true None is other = rw is (inserted key k packet es false other)
noted_other es key k packet false None is other = rw is refl

step_by : (part : MapPart) (p : Program) (all : List FindingView) (es : List (ℕ × ℕ)) (f : FindingView) (q : Option Program) → p.program_number < 65_536 →
    program_found f ≡ q →
    lookup (nat_eq (map_key p)) (changes_by part all es f q) ≡ option_or (lookup (nat_eq (map_key p)) es) (here part p all f)
unfolding changes_by
step_by part p all es f None below is =
    let none : pmt_found p f ≡ None = by_key p f below ∙ ap (λ (q : Option Program). cond (is_key (map_key p) q) (any_map f) None) is in
    or_none (lookup (nat_eq (map_key p)) es) ∙ ap (option_or (lookup (nat_eq (map_key p)) es)) (sym (nothing_here part p all f none))
step_by part p all es f (Some q) below is = by (map_key q == map_key p) refl
  where
    by : (t : Bool) → (map_key q == map_key p) ≡ t →
        lookup (nat_eq (map_key p)) (noted es (map_key q) f.packet (is_change part (program_map q all) (pmt_found q f)))
        ≡ option_or (lookup (nat_eq (map_key p)) es) (here part p all f)
    by true e =
        let one = has_map f.pid (any_map f) q is in
        let same : q ≡ p = same_program q p one.below below (same_number (map_key q) (map_key p) e) in
        ap (λ (r : Program). lookup (nat_eq (map_key p)) (noted es (map_key r) f.packet (is_change part (program_map r all) (pmt_found r f)))) same
        ∙ noted_own es (map_key p) f.packet (is_change part (program_map p all) (pmt_found p f)) (lookup (nat_eq (map_key p)) es) refl
        (ap (λ (r : Program). map_key r == map_key p) (sym same) ∙ e)
    by false e =
        let none : pmt_found p f ≡ None =
        by_key p f below ∙ ap (λ (q : Option Program). cond (is_key (map_key p) q) (any_map f) None) is
        ∙ ap (λ (t : Bool). cond t (any_map f) None) e in
        noted_other es (map_key p) (map_key q) f.packet (is_change part (program_map q all) (pmt_found q f)) (lookup (nat_eq (map_key q)) es) refl e
        ∙ or_none (lookup (nat_eq (map_key p)) es) ∙ ap (option_or (lookup (nat_eq (map_key p)) es)) (sym (nothing_here part p all f none))

-- 3. All findings

abbrev later : MapPart → Program → Option PmtView → List FindingView → Option ℕ
later part p o fs = option_and_then (λ last. first_differing part p last fs) o

or_assoc : (a b c : Option ℕ) → option_or (option_or a b) c ≡ option_or a (option_or b c)
or_assoc None b c = refl
or_assoc (Some x) b c = refl

first_of : (part : MapPart) (p : Program) (o : Option PmtView) (f : FindingView) (fs : List FindingView) →
    option_or (cond (is_change part o (pmt_found p f)) (Some f.packet) None) (later part p o fs) ≡ later part p o (f ∷ fs)
unfolding is_change first_differing
first_of part p None f fs = refl
first_of part p (Some last) f fs = by (differs part last (pmt_found p f))
  where
    by : (t : Bool) → option_or (cond t (Some f.packet) None) (first_differing part p last fs) ≡ cond t (Some f.packet) (first_differing part p last fs)
    by true = refl
    by false = refl

all_noted : (part : MapPart) (p : Program) (all : List FindingView) (es : List (ℕ × ℕ)) (fs : List FindingView) → p.program_number < 65_536 →
    lookup (nat_eq (map_key p)) (changes_from part all es fs) ≡ option_or (lookup (nat_eq (map_key p)) es) (later part p (program_map p all) fs)
unfolding changes_from first_differing
all_noted part p all es [] below = or_none (lookup (nat_eq (map_key p)) es) ∙ ap (option_or (lookup (nat_eq (map_key p)) es)) (none (program_map p all))
  where
    none : (o : Option PmtView) → None ≡ later part p o []
    none None = refl
    none (Some last) = refl
all_noted part p all es (f ∷ fs) below =
    all_noted part p all (changes_by part all es f (program_found f)) fs below
    ∙ ap (λ (o : Option ℕ). option_or o (later part p (program_map p all) fs)) (step_by part p all es f (program_found f) below refl)
    ∙ or_assoc (lookup (nat_eq (map_key p)) es) (here part p all f) (later part p (program_map p all) fs)
    ∙ ap (option_or (lookup (nat_eq (map_key p)) es)) (first_of part p (program_map p all) f fs)

pub are_changes : (part : MapPart) (all : List FindingView) → AreChanges part all (changes_from part all [] all)
unfolding map_change
are_changes part all p below = all_noted part p all [] all below
