-- The places of the findings of a PID; all findings between two consecutive places are of other PIDs.
use Rattle.std.proofs.Common.{◌≡◌, ◌≢◌, ◌∙◌, ℕ, zero, suc, ◌+◌, ◌<◌, ◌≤◌, ◌==◌, Bool, true, false, if◌then◌else◌, Option, Some, None, List, [], ◌∷◌}
use Rattle.std.proofs.Common.{length, drop, map, set, replicate, get_or, slice_get, option_map, refl, sym, ap, arith, inl, inr, drop-drop, drop-cons}
use Rattle.std.proofs.lemmas.Bool.{cases_Bool, eqb-false}
use Rattle.std.proofs.lemmas.List.{drop_all, drop-map, map-set, length-map, length-drop, length-set, length-replicate, get_or-replicate}
use Rattle.std.proofs.lemmas.Option.{slice_get-get_or, slice_get_past, slice_get_within, slice_get-map, get_or_from_slice_get, none-some, same_Some}
use Rattle.pid_findings.specs.Views.{FindingView}
use Rattle.demux.specs.Laws.{found_of, has_pid}
use Rattle.es_moments.proofs.ApartUnits.{same_number}
use Rattle.es_units.specs.PidPlaces.{IsOnWay, pids_in, place_from, next_place, AreLinks}

-- 1. The first finding of a PID in a list

-- The number of findings before it
unfoldable pub before_first : ℕ → List (Option ℕ) → ℕ
before_first pid [] = 0
before_first pid (p ∷ ps) = if has_pid pid p then 0 else suc (before_first pid ps)

pub place_is : (pid at : ℕ) (ps : List (Option ℕ)) → place_from pid at ps ≡ at + before_first pid ps
unfolding place_from before_first
place_is pid at [] = let same : at ≡ at + 0 = omega arith in same
place_is pid at (p ∷ ps) = elim (cases_Bool (has_pid pid p)) [
  | inl own ↦ rw own (let same : at ≡ at + 0 = omega arith in same)
  | inr other ↦ rw other (let later = place_is pid (at + 1) ps in omega (arith, later))
]

own_pid : (pid : ℕ) (p : Option ℕ) → has_pid pid p ≡ true → p ≡ Some pid
own_pid pid None own = absurd cc
own_pid pid (Some other) own = ap Some (same_number other pid own)

first_by : (pid : ℕ) (p : Option ℕ) (ps : List (Option ℕ)) (b : Bool) → has_pid pid p ≡ b →
    (before_first pid ps < length ps → slice_get ps (before_first pid ps) ≡ Some (Some pid)) →
    before_first pid (p ∷ ps) < length (p ∷ ps) → slice_get (p ∷ ps) (before_first pid (p ∷ ps)) ≡ Some (Some pid)
unfolding before_first
first_by pid p ps true own later = rw own (λ below. ap Some (own_pid pid p own))
first_by pid p ps false other later = rw other (λ below. later (let less : before_first pid ps < length ps = omega (arith, below) in less))

first_on : (pid : ℕ) (ps : List (Option ℕ)) → before_first pid ps < length ps → slice_get ps (before_first pid ps) ≡ Some (Some pid)
first_on pid [] below = absurd (let no : ⊥ = omega (arith, below) in no)
first_on pid (p ∷ ps) below = first_by pid p ps (has_pid pid p) refl (first_on pid ps) below

past_by : (pid : ℕ) (f : FindingView) (fs : List FindingView) (b : Bool) → has_pid pid f.pid ≡ b →
    found_of pid (drop (before_first pid (pids_in fs)) fs) ≡ found_of pid fs →
    found_of pid (drop (before_first pid (pids_in (f ∷ fs))) (f ∷ fs)) ≡ found_of pid (f ∷ fs)
unfolding before_first
past_by pid f fs true own later =
    ap (λ (k : ℕ). found_of pid (drop k (f ∷ fs))) (let none : before_first pid (pids_in (f ∷ fs)) ≡ 0 = rw own refl in none)
past_by pid f fs false other later =
    ap (λ (k : ℕ). found_of pid (drop k (f ∷ fs)))
    (let more : before_first pid (pids_in (f ∷ fs)) ≡ suc (before_first pid (pids_in fs)) = rw other refl in more)
    ∙ later ∙ (let out : found_of pid fs ≡ found_of pid (f ∷ fs) = rw other refl in out)

-- The skipped findings are of other PIDs.
found_past : (pid : ℕ) (fs : List FindingView) → found_of pid (drop (before_first pid (pids_in fs)) fs) ≡ found_of pid fs
unfolding before_first
found_past pid [] = refl
found_past pid (f ∷ fs) = past_by pid f fs (has_pid pid f.pid) refl (found_past pid fs)

-- 2. A walk

-- The walk is at a finding of the PID, or past all findings.
abbrev pub IsOn : {X : Type 0} → (X → FindingView) → ℕ → ℕ → List X → Type 0
IsOn view pid at fs = IsOnWay pid at (pids_in (map view fs))

-- From place `from` the walk gets to this place: the next finding of the PID, or the end.
abbrev pub ComesTo : {X : Type 0} → (X → FindingView) → ℕ → ℕ → ℕ → List X → Type 0
ComesTo view pid from at fs = at ≡ place_from pid from (drop from (pids_in (map view fs)))

pub long : {X : Type 0} (view : X → FindingView) (fs : List X) → length (pids_in (map view fs)) ≡ length fs
long view fs = length-map (map view fs) (λ (f : FindingView). f.pid) ∙ length-map fs view

pub on_pid : {X : Type 0} (view : X → FindingView) (pid at : ℕ) (fs : List X) → IsOn view pid at fs → at < length fs →
    slice_get (pids_in (map view fs)) at ≡ Some (Some pid)
on_pid view pid at fs on below = on (omega (arith, below, long view fs))

pub not_back : {X : Type 0} (view : X → FindingView) (pid from at : ℕ) (fs : List X) → ComesTo view pid from at fs → from ≤ at
not_back view pid from at fs comes = omega (arith, comes, place_is pid from (drop from (pids_in (map view fs))))

at_drop : {X : Type 0} (n k : ℕ) (xs : List X) → slice_get (drop n xs) k ≡ slice_get xs (n + k)
at_drop zero k xs = ap (slice_get xs) (let same : k ≡ 0 + k = omega arith in same)
at_drop (suc n) k [] = refl
at_drop (suc n) k (x ∷ xs) = at_drop n k xs ∙ ap (slice_get (x ∷ xs)) (let same : suc (n + k) ≡ suc n + k = omega arith in same)

pub comes_on : {X : Type 0} (view : X → FindingView) (pid from at : ℕ) (fs : List X) → ComesTo view pid from at fs → IsOn view pid at fs
comes_on view pid from at fs comes below =
    let ps = pids_in (map view fs) in
    let n = before_first pid (drop from ps) in
    let is : at ≡ from + n = comes ∙ place_is pid from (drop from ps) in
    ap (slice_get ps) is ∙ sym (at_drop from n ps)
    ∙ first_on pid (drop from ps) (omega (arith, is, below, length-drop from ps))

rest_of : {X : Type 0} (view : X → FindingView) (pid from at : ℕ) (fs : List X) → ComesTo view pid from at fs →
    found_of pid (map view (drop at fs)) ≡ found_of pid (map view (drop from fs))
rest_of view pid from at fs comes =
    let rest = map view (drop from fs) in
    let n = before_first pid (pids_in rest) in
    let pids : drop from (pids_in (map view fs)) ≡ pids_in rest = drop-map (λ (f : FindingView). f.pid) from (map view fs)
    ∙ ap pids_in (drop-map view from fs) in
    let is : at ≡ from + n = comes ∙ ap (place_from pid from) pids ∙ place_is pid from (pids_in rest) in
    ap (λ (k : ℕ). found_of pid (map view (drop k fs))) is
    ∙ ap (λ (l : List _). found_of pid (map view l)) (sym (drop-drop n from fs))
    ∙ ap (found_of pid) (sym (drop-map view n (drop from fs)))
    ∙ found_past pid rest

-- A result that depends on the findings of the PID alone is the same from this place on.
pub same_past : {X T : Type 0} (view : X → FindingView) (said : List FindingView → T) (pid from at : ℕ) (fs : List X) →
    ((ls : List FindingView) → said (found_of pid ls) ≡ said ls) → ComesTo view pid from at fs →
    said (map view (drop from fs)) ≡ said (map view (drop at fs))
same_past view said pid from at fs own comes =
    sym (own (map view (drop from fs))) ∙ ap said (sym (rest_of view pid from at fs comes)) ∙ own (map view (drop at fs))

set_same : {X : Type 0} (xs : List X) (i : ℕ) (x : X) → get_or xs i x ≡ x → set xs i x ≡ xs
set_same [] i x is = refl
set_same (y ∷ xs) zero x is = ap (λ (z : _). z ∷ xs) (sym is)
set_same (y ∷ xs) (suc i) x is = ap (λ (l : List _). y ∷ l) (set_same xs i x is)

pub pid_at : {X : Type 0} (view : X → FindingView) (i : ℕ) (fs : List X) (none : X) (p : Option ℕ) → i < length fs → (view (get_or fs i none)).pid ≡ p →
    slice_get (pids_in (map view fs)) i ≡ Some p
pid_at view i fs none p below is =
    slice_get-map (λ (f : FindingView). f.pid) (map view fs) i ∙ ap (option_map (λ (f : FindingView). f.pid)) (slice_get-map view fs i)
    ∙ ap (λ (o : Option _). option_map (λ (f : FindingView). f.pid) (option_map view o)) (slice_get-get_or fs i none below) ∙ ap Some is

-- A changed finding with the same PID leaves the list of PIDs as it is.
pub pids_set : {X : Type 0} (view : X → FindingView) (i : ℕ) (fs : List X) (f g : X) → i < length fs → f ≡ get_or fs i f → (view g).pid ≡ (view f).pid →
    pids_in (map view (set fs i g)) ≡ pids_in (map view fs)
pids_set view i fs f g below at same =
    let ps = pids_in (map view fs) in
    let here : get_or ps i (view f).pid ≡ (view f).pid =
    get_or_from_slice_get ps i (view f).pid (view f).pid (pid_at view i fs f (view f).pid below (ap (λ (x : _). (view x).pid) (sym at))) in
    ap pids_in (map-set view fs i g) ∙ map-set (λ (x : FindingView). x.pid) (map view fs) i (view g) ∙ ap (set ps i) same
    ∙ set_same ps i (view f).pid here

-- 3. Links, made from the last finding to the first finding

-- The links of the findings from a place on
pub record AreLinksFrom (left : ℕ) (firsts nexts : List ℕ) (pids : List (Option ℕ)) : Type 0 where
  pub all_pids : length firsts ≡ 65_536
  pub all_places : length nexts ≡ length pids
  pub first_is : (pid : ℕ) → pid < 65_536 → slice_get firsts pid ≡ Some (place_from pid left (drop left pids))
  pub next_is : (at pid : ℕ) → left ≤ at → slice_get pids at ≡ Some (Some pid) → slice_get nexts at ≡ Some (next_place pid at pids)

set_here : {X : Type 0} (xs : List X) (i : ℕ) (x : X) → i < length xs → slice_get (set xs i x) i ≡ Some x
set_here [] i x below = absurd (let no : ⊥ = omega (arith, below) in no)
set_here (y ∷ xs) zero x below = refl
set_here (y ∷ xs) (suc i) x below = set_here xs i x (omega (arith, below))

set_there : {X : Type 0} (xs : List X) (i j : ℕ) (x : X) → i ≢ j → slice_get (set xs i x) j ≡ slice_get xs j
set_there [] i j x apart = refl
set_there (y ∷ xs) zero zero x apart = absurd (apart refl)
set_there (y ∷ xs) zero (suc j) x apart = refl
set_there (y ∷ xs) (suc i) zero x apart = refl
set_there (y ∷ xs) (suc i) (suc j) x apart = set_there xs i j x (λ same. apart (ap suc same))

all_the_same : (n i x : ℕ) → i < n → slice_get (replicate n x) i ≡ Some x
all_the_same n i x below =
    slice_get-get_or (replicate n x) i 0 (omega (arith, below, length-replicate n x)) ∙ ap Some (get_or-replicate n i x 0 below)

pub links_before : (count : ℕ) (firsts nexts : List ℕ) (pids : List (Option ℕ)) → length pids ≡ count → firsts ≡ replicate 65_536 count →
    nexts ≡ replicate count count → AreLinksFrom count firsts nexts pids
unfolding place_from
links_before count firsts nexts pids long firsts_are nexts_are = record {
  all_pids = ap length firsts_are ∙ length-replicate 65_536 count;
  all_places = ap length nexts_are ∙ length-replicate count count ∙ sym long;
  first_is = λ pid below. ap (λ (l : List ℕ). slice_get l pid) firsts_are ∙ all_the_same 65_536 pid count below
      ∙ (let none : drop count pids ≡ [] = drop_all count pids (omega (arith, long)) in
      ap (λ (l : List (Option ℕ)). Some (place_from pid count l)) (sym none));
  next_is = λ at pid over is. absurd (none-some (Some pid) (sym (slice_get_past pids at (omega (arith, long, over))) ∙ is));
}

split_at : (left : ℕ) (pids : List (Option ℕ)) (p : Option ℕ) → slice_get pids left ≡ Some p → drop left pids ≡ p ∷ drop (left + 1) pids
split_at left pids p is =
    drop-cons pids left p (slice_get_within pids left p is)
    ∙ ap (λ (x : Option ℕ). x ∷ drop (suc left) pids) (get_or_from_slice_get pids left p p is)
    ∙ ap (λ (k : ℕ). p ∷ drop k pids) (let one : suc left ≡ left + 1 = omega arith in one)

here_or_past : (left at : ℕ) → left ≤ at → (left == at) ≡ false → left + 1 ≤ at
here_or_past left at over apart = omega (arith, over, eqb-false left at apart)

-- A finding without a PID
pub links_passed : (left next : ℕ) (firsts nexts : List ℕ) (pids : List (Option ℕ)) → next ≡ left + 1 → slice_get pids left ≡ Some None →
    AreLinksFrom next firsts nexts pids → AreLinksFrom left firsts nexts pids
unfolding place_from
links_passed left next firsts nexts pids after here links = record {
  all_pids = links.all_pids;
  all_places = links.all_places;
  first_is = λ pid below. links.first_is pid below ∙ ap (λ (k : ℕ). Some (place_from pid k (drop k pids))) after
      ∙ ap (λ (l : List (Option ℕ)). Some (place_from pid left l)) (sym (split_at left pids None here));
  next_is = λ at pid over is. elim (cases_Bool (left == at)) [
    | inl same ↦ absurd (none-some pid (same_Some None (Some pid) (sym here ∙ ap (slice_get pids) (same_number left at same) ∙ is)))
    | inr apart ↦ links.next_is at pid (omega (arith, after, here_or_past left at over apart)) is
  ];
}

own_first : (left pid q : ℕ) (firsts : List ℕ) (rest pids : List (Option ℕ)) → pid < length firsts → pids ≡ Some pid ∷ rest →
    slice_get firsts q ≡ Some (place_from q (left + 1) rest) → slice_get (set firsts pid left) q ≡ Some (place_from q left pids)
unfolding place_from
own_first left pid q firsts rest pids below split later = elim (cases_Bool (pid == q)) [
  | inl same ↦ rw (split, same) (ap (slice_get (set firsts pid left)) (sym (same_number pid q same)) ∙ set_here firsts pid left below)
  | inr apart ↦ rw (split, apart) (set_there firsts pid q left (eqb-false pid q apart) ∙ later)
]

-- A finding with a PID
pub links_taken : (left next pid first : ℕ) (firsts nexts : List ℕ) (pids : List (Option ℕ)) → next ≡ left + 1 → pid < 65_536 →
    slice_get pids left ≡ Some (Some pid) → first ≡ get_or firsts pid first →
    AreLinksFrom next firsts nexts pids → AreLinksFrom left (set firsts pid left) (set nexts left first) pids
links_taken left next pid first firsts nexts pids after below here is links =
    let split = split_at left pids (Some pid) here in
    let within : left < length nexts = omega (arith, links.all_places, slice_get_within pids left (Some pid) here) in
    let later : (q : ℕ) → q < 65_536 → slice_get firsts q ≡ Some (place_from q (left + 1) (drop (left + 1) pids)) =
    λ q low. links.first_is q low ∙ ap (λ (k : ℕ). Some (place_from q k (drop k pids))) after in
    let first_as : first ≡ next_place pid left pids = is ∙ get_or_from_slice_get firsts pid (next_place pid left pids) first (later pid below) in
    record {
      all_pids = length-set firsts pid left ∙ links.all_pids;
      all_places = length-set nexts left first ∙ links.all_places;
      first_is = λ q low. own_first left pid q firsts (drop (left + 1) pids) (drop left pids) (omega (arith, below, links.all_pids)) split (later q low);
      next_is = λ at q over on. elim (cases_Bool (left == at)) [
        | inl same ↦ (let there = same_number left at same in
            let own : pid ≡ q = same_Some pid q (same_Some (Some pid) (Some q) (sym here ∙ ap (slice_get pids) there ∙ on)) in
            ap (slice_get (set nexts left first)) (sym there) ∙ set_here nexts left first within ∙ ap Some first_as
            ∙ ap (λ (n : ℕ). Some (next_place n left pids)) own ∙ ap (λ (n : ℕ). Some (next_place q n pids)) there)
        | inr apart ↦ set_there nexts left at first (eqb-false left at apart)
            ∙ links.next_is at q (omega (arith, after, here_or_past left at over apart)) on
      ];
    }

pub links_whole : (firsts nexts : List ℕ) (pids : List (Option ℕ)) → AreLinksFrom 0 firsts nexts pids →
    AreLinks (record { firsts = firsts; nexts = nexts }) pids
links_whole firsts nexts pids links = record {
  all_pids = links.all_pids;
  all_places = links.all_places;
  first_is = links.first_is;
  next_is = λ at pid on. links.next_is at pid (omega arith) on;
}
