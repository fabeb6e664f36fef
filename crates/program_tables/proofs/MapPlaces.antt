-- The last table of a program is at its place.
use Rattle.std.proofs.Common.{◌≡◌, ◌<◌, ◌≤◌, ℕ, ◌+◌, zero, suc, ◌==◌, nat_eq, cond, Bool, true, false, List, [], ◌∷◌, length, map, drop, get_or, slice_get}
use Rattle.std.proofs.Common.{Option, Some, None, refl, sym, ap, ◌∙◌, add-one}
use Rattle.std.specs.Prelude.{option_and_then}
use Rattle.std.specs.Map.{lookup}
use Rattle.std.specs.Option.{option_or}
use Rattle.indexmap.specs.IndexMap.{insert_entry}
use Rattle.psi_tables.specs.ProgramMap.{PmtView}
use Rattle.psi_tables.specs.declared.pat.programs.Program.{Program}
use Rattle.pid_findings.specs.Views.{FindingView}
use Rattle.program_tables.specs.ProgramMaps.{any_map, pmt_found, program_map}
use Rattle.program_tables.specs.MapPlaces.{MapsAreThere, map_key, map_there, places_from, places_with, program_found}
use Rattle.program_tables.proofs.MapKeys.{HasMap, by_key, has_map, inserted, is_key}
use Rattle.program_tables.proofs.Slices.{more, done}

-- 1. Findings one after another

pub places_more : {X : Type 0} (view : X → FindingView) (es next : List (ℕ × ℕ)) (i : ℕ) (fs : List X) (f : X) → i < length fs → f ≡ get_or fs i f →
    next ≡ places_with es (program_found (view f)) i → places_from es i (map view (drop i fs)) ≡ places_from next (i + 1) (map view (drop (i + 1) fs))
unfolding places_from
places_more view es next i fs f below at made = rw (more view i fs f below at, made) refl

pub places_end : {X : Type 0} (view : X → FindingView) (es : List (ℕ × ℕ)) (i : ℕ) (fs : List X) → length fs ≤ i → places_from es i (map view (drop i fs)) ≡ es
unfolding places_from
places_end view es i fs over = rw (done view i fs over) refl

-- 2. The finding at a place

pub record IsAt (all : List FindingView) (at : ℕ) (f : FindingView) (fs : List FindingView) : Type 0 where
  pub here : slice_get all at ≡ Some f
  pub later : drop (suc at) all ≡ fs

pub at_front : (all : List FindingView) (at : ℕ) (f : FindingView) (fs : List FindingView) → drop at all ≡ f ∷ fs → IsAt all at f fs
at_front [] zero f fs is = absurd cc
at_front [] (suc at) f fs is = absurd cc
at_front (x ∷ xs) zero f fs is =
    let first : x ≡ f = cc in
    let rest : xs ≡ fs = cc in
    record { here = ap (λ (y : FindingView). Some y) first; later = rest }
at_front (x ∷ xs) (suc at) f fs is = let one = at_front xs at f fs is in record { here = one.here; later = one.later }

-- 3. What one finding changes

or_none : (o : Option PmtView) → option_or None o ≡ o
or_none o = refl

step_by : (p : Program) (all : List FindingView) (es : List (ℕ × ℕ)) (at : ℕ) (f : FindingView) (q : Option Program) → p.program_number < 65_536 →
    slice_get all at ≡ Some f → program_found f ≡ q →
    map_there p (lookup (nat_eq (map_key p)) (places_with es q at)) all ≡ option_or (pmt_found p f) (map_there p (lookup (nat_eq (map_key p)) es) all)
unfolding places_with map_there
step_by p all es at f None below here is =
    let none : pmt_found p f ≡ None = by_key p f below ∙ ap (λ (q : Option Program). cond (is_key (map_key p) q) (any_map f) None) is in
    rw none refl
step_by p all es at f (Some q) below here is = by (map_key q == map_key p) refl
  where
    by : (t : Bool) → (map_key q == map_key p) ≡ t →
        map_there p (lookup (nat_eq (map_key p)) (insert_entry nat_eq es (map_key q) at)) all ≡ option_or (pmt_found p f)
        (map_there p (lookup (nat_eq (map_key p)) es) all)
    by true e =
        let one = has_map f.pid (any_map f) q is in
        let found : pmt_found p f ≡ Some one.pmt =
        by_key p f below ∙ ap (λ (q : Option Program). cond (is_key (map_key p) q) (any_map f) None) is
        ∙ ap (λ (t : Bool). cond t (any_map f) None) e ∙ one.is in
        ap (λ (o : Option ℕ). map_there p o all) (inserted (map_key p) (map_key q) at es true e)
        ∙ ap (option_and_then (pmt_found p)) here ∙ (rw found refl)
    by false e =
        let none : pmt_found p f ≡ None =
        by_key p f below ∙ ap (λ (q : Option Program). cond (is_key (map_key p) q) (any_map f) None) is
        ∙ ap (λ (t : Bool). cond t (any_map f) None) e in
        ap (λ (o : Option ℕ). map_there p o all) (inserted (map_key p) (map_key q) at es false e) ∙ (rw none refl)

or_assoc : (a b c : Option PmtView) → option_or a (option_or b c) ≡ option_or (option_or a b) c
or_assoc None b c = refl
or_assoc (Some x) b c = refl

-- 4. All findings

all_there : (p : Program) (all : List FindingView) (es : List (ℕ × ℕ)) (at : ℕ) (fs : List FindingView) → p.program_number < 65_536 → drop at all ≡ fs →
    map_there p (lookup (nat_eq (map_key p)) (places_from es at fs)) all ≡ option_or (program_map p fs) (map_there p (lookup (nat_eq (map_key p)) es) all)
unfolding places_from program_map
all_there p all es at [] below is = refl
all_there p all es at (f ∷ fs) below is =
    let one = at_front all at f fs is in
    all_there p all (places_with es (program_found f) at) (at + 1) fs below (ap (λ (n : ℕ). drop n all) (add-one at) ∙ one.later)
    ∙ ap (option_or (program_map p fs)) (step_by p all es at f (program_found f) below one.here refl)
    ∙ or_assoc (program_map p fs) (pmt_found p f) (map_there p (lookup (nat_eq (map_key p)) es) all)

pub maps_are_there : MapsAreThere
unfolding map_there
maps_are_there p findings below = all_there p findings [] 0 findings below refl ∙ last (program_map p findings)
  where
    last : (o : Option PmtView) → option_or o (map_there p (lookup (nat_eq (map_key p)) []) findings) ≡ o
    last None = refl
    last (Some pmt) = refl
