-- The units that findings give one by one are the units that the findings carry.
use Rattle.std.proofs.Common.{◌≡◌, ◌∙◌, ℕ, ◌≤◌, ◌<◌, ◌+◌, ◌++◌, ◌==◌, ◌&&◌, ◌||◌, Bool, true, false, if◌then◌else◌, Option, Some, None, unwrap_or, List, []}
use Rattle.std.proofs.Common.{◌∷◌, length, map, drop, get_or, option_map, refl, sym, ap, ap₂, add-one, inl, inr}
use Rattle.std.specs.Option.{option_to_list}
use Rattle.std.proofs.Math.Seq.{drop-cons}
use Rattle.std.proofs.lemmas.List.{append_assoc, append-nil, drop_all}
use Rattle.std.proofs.lemmas.Bool.{cases_Bool}
use Rattle.pid_findings.specs.Views.{FindingView}
use Rattle.demux.specs.Laws.{found_of, has_pid}
use Rattle.es_units.specs.CarriedUnits.{RoleView, Ignored, Start, Continuation, Interruption, role_of, more_bytes, continued_by}
use Rattle.es_units.specs.CarriedUnits.{continuation, end_of, is_cut, is_split, with_more, whole_unit, units_from, units_in}
use Rattle.es_units.specs.UnitWarnings.{current_after}
use Rattle.es_units.specs.UnitSteps.{UnitsSoFar, if_whole, ended_unit, cuts, has_id, lengthened, made_whole, goes_on_as, after_finding, given, after_findings}
use Rattle.es_units.specs.UnitSteps.{none_so_far, GivenInTurn, GivenAreCarried, is_start_cut, has_cut, UncutAreCarried}
use Rattle.es_units.proofs.CarriedUnits.{other_pid_ignored, same_continuation, same_cut, same_in}
use Rattle.es_units.proofs.PidPlaces.{ComesTo, same_past}
use Rattle.es_moments.specs.WireUnits.{CarriedUnit, unit_with}

-- 1. Findings in two consecutive lists

pub in_turn : GivenInTurn
unfolding given after_findings
in_turn s [] more = refl
in_turn s (f ∷ fs) more =
    ap (λ (us : List CarriedUnit). option_to_list (made_whole s.split s.unit (role_of s.pid f)) ++ us) (in_turn (after_finding s f) fs more)
    ∙ sym (append_assoc (option_to_list (made_whole s.split s.unit (role_of s.pid f))) (given (after_finding s f) fs)
    (given (after_findings (after_finding s f) fs) more))

pub not_lengthened : (id : ℕ) (body : List ℕ) (u : Option CarriedUnit) → has_id id u ≡ false → lengthened id body u ≡ None
unfolding has_id lengthened
not_lengthened id body None is = refl
not_lengthened id body (Some u) is = rw is refl

-- 2. The current unit, with the findings after it

-- The current unit and the units after it
pub units_with : Bool → ℕ → Option CarriedUnit → List FindingView → List CarriedUnit
units_with split pid None fs = units_in split pid fs
units_with split pid (Some u) fs = whole_unit (split && is_cut u.stream_id pid fs) (with_more u (continuation u.stream_id pid fs)) (units_in split pid fs)

-- The current unit and the units after it, with a role before these findings
units_past : Bool → ℕ → Option CarriedUnit → RoleView → List FindingView → List CarriedUnit
units_past split pid None b fs = units_from split pid b fs (units_in split pid fs)
units_past split pid (Some u) b fs = whole_unit (split && unwrap_or (end_of u.stream_id b) (is_cut u.stream_id pid fs))
    (with_more u (continued_by (more_bytes u.stream_id b) (continuation u.stream_id pid fs))) (units_from split pid b fs (units_in split pid fs))

same_unit : (u : CarriedUnit) → with_more u [] ≡ u
same_unit u = ap (λ (bs : List ℕ). unit_with u.packet u.stream_id u.unit.dts u.unit.pts u.unit.marks bs) (append-nil u.unit.bytes)

longer_unit : (u : CarriedUnit) (body more : List ℕ) → with_more u (body ++ more) ≡ with_more (with_more u body) more
longer_unit u body more = ap (λ (bs : List ℕ). unit_with u.packet u.stream_id u.unit.dts u.unit.pts u.unit.marks bs) (sym (append_assoc u.unit.bytes body more))

if_empty : (b : Bool) (u : CarriedUnit) (later : List CarriedUnit) → (if b then later else u ∷ later) ≡ option_to_list (if b then None else Some u) ++ later
if_empty true u later = refl
if_empty false u later = refl

if_kept : (lost : Bool) (u : CarriedUnit) (later : List CarriedUnit) → whole_unit lost u later ≡ option_to_list (if_whole lost u) ++ later
if_kept true u later = refl
if_kept false u later = if_empty (length u.unit.bytes == 0) u later

-- The current unit ends with no more bytes.
ends : (lost : Bool) (u : CarriedUnit) (later : List CarriedUnit) → whole_unit lost (with_more u []) later ≡ option_to_list (if_whole lost u) ++ later
ends lost u later = ap (λ (w : CarriedUnit). whole_unit lost w later) (same_unit u) ∙ if_kept lost u later

pub and_false : (a : Bool) → (a && false) ≡ false
and_false true = refl
and_false false = refl

and_true : (a : Bool) → (a && true) ≡ a
and_true true = refl
and_true false = refl

by_next : (split : Bool) (pid : ℕ) (u next : CarriedUnit) (fs : List FindingView) →
    units_past split pid (Some u) (Start next) fs ≡ option_to_list (ended_unit false (Some u)) ++ units_with split pid (Some next) fs
unfolding units_past units_with units_from end_of more_bytes continued_by ended_unit
by_next split pid u next fs =
    let later = whole_unit (split && is_cut next.stream_id pid fs) (with_more next (continuation next.stream_id pid fs)) (units_in split pid fs) in
    ap (λ (lost : Bool). whole_unit lost (with_more u []) later) (and_false split) ∙ ends false u later

by_break : (split : Bool) (pid : ℕ) (u : CarriedUnit) (fs : List FindingView) →
    whole_unit (split && true) (with_more u []) (units_in split pid fs) ≡ option_to_list (ended_unit split (Some u)) ++ units_with split pid None fs
unfolding units_with ended_unit
by_break split pid u fs = ap (λ (lost : Bool). whole_unit lost (with_more u []) (units_in split pid fs)) (and_true split) ∙ ends split u (units_in split pid fs)

by_more : (split : Bool) (pid id : ℕ) (u : CarriedUnit) (body : List ℕ) (fs : List FindingView) (same : Bool) → (id == u.stream_id) ≡ same →
    units_past split pid (Some u) (Continuation id body) fs ≡ option_to_list (made_whole split (Some u) (Continuation id body))
    ++ units_with split pid (goes_on_as (Some u) (Continuation id body)) fs
unfolding units_past units_with units_from end_of more_bytes continued_by made_whole goes_on_as has_id lengthened
by_more split pid id u body fs true is =
    rw is (ap (λ (w : CarriedUnit). whole_unit (split && is_cut u.stream_id pid fs) w (units_in split pid fs))
    (longer_unit u body (continuation u.stream_id pid fs)))
by_more split pid id u body fs false is = rw is (by_break split pid u fs)

one_step : (split : Bool) (pid : ℕ) (u : Option CarriedUnit) (b : RoleView) (fs : List FindingView) →
    units_past split pid u b fs ≡ option_to_list (made_whole split u b) ++ units_with split pid (goes_on_as u b) fs
unfolding units_past units_with units_from end_of more_bytes continued_by made_whole goes_on_as ended_unit has_id lengthened
one_step split pid None Ignored fs = refl
one_step split pid None (Start next) fs = refl
one_step split pid None (Continuation id body) fs = refl
one_step split pid None (Interruption unstamped) fs = refl
one_step split pid (Some u) Ignored fs = refl
one_step split pid (Some u) (Start next) fs = by_next split pid u next fs
one_step split pid (Some u) (Continuation id body) fs = by_more split pid id u body fs (id == u.stream_id) refl
one_step split pid (Some u) (Interruption unstamped) fs = by_break split pid u fs

past_here : (split : Bool) (pid : ℕ) (u : Option CarriedUnit) (f : FindingView) (fs : List FindingView) →
    units_with split pid u (f ∷ fs) ≡ units_past split pid u (role_of pid f) fs
unfolding units_with units_past units_in is_cut continuation
past_here split pid None f fs = refl
past_here split pid (Some u) f fs = refl

with_next : (s : UnitsSoFar) (f : FindingView) (fs : List FindingView) →
    units_with s.split s.pid s.unit (f ∷ fs) ≡ option_to_list (made_whole s.split s.unit (role_of s.pid f))
    ++ units_with s.split s.pid (after_finding s f).unit fs
with_next s f fs = past_here s.split s.pid s.unit f fs ∙ one_step s.split s.pid s.unit (role_of s.pid f) fs

-- 3. All findings

with_none : (split : Bool) (pid : ℕ) (u : Option CarriedUnit) → units_with split pid u [] ≡ option_to_list (ended_unit false u)
unfolding units_with units_in is_cut continuation ended_unit
with_none split pid None = refl
with_none split pid (Some u) = ap (λ (lost : Bool). whole_unit lost (with_more u []) []) (and_false split) ∙ ends false u []
    ∙ append-nil (option_to_list (if_whole false u))

each_given : (s : UnitsSoFar) (fs : List FindingView) → units_with s.split s.pid s.unit fs ≡ given s fs
    ++ option_to_list (ended_unit false (after_findings s fs).unit)
unfolding given after_findings
each_given s [] = with_none s.split s.pid s.unit
each_given s (f ∷ fs) =
    let here = option_to_list (made_whole s.split s.unit (role_of s.pid f)) in
    let t = after_finding s f in
    with_next s f fs ∙ ap (λ (us : List CarriedUnit). here ++ us) (each_given t fs)
    ∙ sym (append_assoc here (given t fs) (option_to_list (ended_unit false (after_findings t fs).unit)))

pub are_carried : GivenAreCarried
unfolding units_with
are_carried pid fs = each_given (none_so_far pid (is_split pid fs)) fs

-- 4. No unit is cut

pub or_none : (a b : Bool) → (a || b) ≡ false → (a ≡ false) × (b ≡ false)
or_none false false is = (refl, refl)
or_none true b is = absurd cc
or_none false true is = absurd cc

same_from : (a b : Bool) (pid : ℕ) (r : RoleView) (fs : List FindingView) (one other : List CarriedUnit) → is_start_cut pid r fs ≡ false → one ≡ other →
    units_from a pid r fs one ≡ units_from b pid r fs other
unfolding is_start_cut units_from
same_from a b pid Ignored fs one other whole same = same
same_from a b pid (Continuation id body) fs one other whole same = same
same_from a b pid (Interruption unstamped) fs one other whole same = same
same_from a b pid (Start u) fs one other whole same = rw (whole, and_false a, and_false b, same) refl

pub uncut : (a b : Bool) (pid : ℕ) (fs : List FindingView) → has_cut pid fs ≡ false → units_in a pid fs ≡ units_in b pid fs
unfolding has_cut units_in
uncut a b pid [] whole = refl
uncut a b pid (f ∷ fs) whole =
    let two = or_none (is_start_cut pid (role_of pid f) fs) (has_cut pid fs) whole in
    same_from a b pid (role_of pid f) fs (units_in a pid fs) (units_in b pid fs) two.0 (uncut a b pid fs two.1)

pub uncut_carried : UncutAreCarried
unfolding units_with
uncut_carried split pid fs whole = uncut (is_split pid fs) split pid fs whole ∙ each_given (none_so_far pid split) fs

-- 5. A walk over a list

pub units_step : {X : Type 0} (view : X → FindingView) (s t : UnitsSoFar) (i : ℕ) (fs : List X) (f : X) (given_one : Option CarriedUnit)
    (all before after : List CarriedUnit) →
    i < length fs → f ≡ get_or fs i f →
    all ≡ before ++ units_with s.split s.pid s.unit (map view (drop i fs)) →
    given_one ≡ made_whole s.split s.unit (role_of s.pid (view f)) → t ≡ after_finding s (view f) → after ≡ before ++ option_to_list given_one →
    all ≡ after ++ units_with t.split t.pid t.unit (map view (drop (i + 1) fs))
units_step view s t i fs f given_one all before after below at is gives goes pushed =
    let rest = units_with s.split s.pid (after_finding s (view f)).unit (map view (drop (i + 1) fs)) in
    let here = option_to_list (made_whole s.split s.unit (role_of s.pid (view f))) in
    let next : map view (drop i fs) ≡ view f ∷ map view (drop (i + 1) fs) = rw (drop-cons fs i f below, add-one i, sym at) refl in
    let grown : after ≡ before ++ here = pushed ∙ ap (λ (o : Option CarriedUnit). before ++ option_to_list o) gives in
    rw (goes, grown) (is ∙ ap (λ (l : List FindingView). before ++ units_with s.split s.pid s.unit l) next
    ∙ ap (λ (us : List CarriedUnit). before ++ us) (with_next s (view f) (map view (drop (i + 1) fs))) ∙ sym (append_assoc before here rest))

pub units_start : {X : Type 0} (view : X → FindingView) (split : Bool) (pid : ℕ) (fs : List X) (none : List CarriedUnit) → none ≡ [] →
    units_in split pid (map view fs) ≡ none ++ units_with split pid None (map view (drop 0 fs))
unfolding units_with
units_start view split pid fs none is = rw is refl

pub units_finish : {X : Type 0} (view : X → FindingView) (s : UnitsSoFar) (i : ℕ) (fs : List X) (last : Option CarriedUnit)
    (all before after : List CarriedUnit) → length fs ≤ i →
    all ≡ before ++ units_with s.split s.pid s.unit (map view (drop i fs)) → last ≡ ended_unit false s.unit → after ≡ before ++ option_to_list last →
    after ≡ all
units_finish view s i fs last all before after over is ends_as pushed =
    let none : map view (drop i fs) ≡ [] = rw (drop_all i fs over) refl in
    pushed ∙ ap (λ (o : Option CarriedUnit). before ++ option_to_list o) ends_as
    ∙ sym (is ∙ ap (λ (l : List FindingView). before ++ units_with s.split s.pid s.unit l) none
    ∙ ap (λ (us : List CarriedUnit). before ++ us) (with_none s.split s.pid s.unit))

-- 6. Whether a unit is cut

-- Whether the current unit with this stream_id, or a unit of these findings, is cut
pub cut_with : ℕ → Option ℕ → List FindingView → Bool
cut_with pid None fs = has_cut pid fs
cut_with pid (Some id) fs = is_cut id pid fs || has_cut pid fs

-- Whether a unit is cut, with a role before these findings
cut_past : ℕ → Option ℕ → RoleView → List FindingView → Bool
cut_past pid None b fs = is_start_cut pid b fs || has_cut pid fs
cut_past pid (Some id) b fs = unwrap_or (end_of id b) (is_cut id pid fs) || (is_start_cut pid b fs || has_cut pid fs)

cut_cons : (pid : ℕ) (current : Option ℕ) (f : FindingView) (fs : List FindingView) → cut_with pid current (f ∷ fs) ≡ cut_past pid current (role_of pid f) fs
unfolding cut_with cut_past has_cut is_cut
cut_cons pid None f fs = refl
cut_cons pid (Some id) f fs = refl

cut_more : (pid id c : ℕ) (body : List ℕ) (fs : List FindingView) (same : Bool) → (id == c) ≡ same →
    cut_past pid (Some c) (Continuation id body) fs ≡ (cuts (Some c) (Continuation id body) || cut_with pid (current_after (Some c) (Continuation id body)) fs)
unfolding cut_past cut_with cuts current_after end_of is_start_cut
cut_more pid id c body fs true is = rw is refl
cut_more pid id c body fs false is = rw is refl

one_cut : (pid : ℕ) (current : Option ℕ) (b : RoleView) (fs : List FindingView) →
    cut_past pid current b fs ≡ (cuts current b || cut_with pid (current_after current b) fs)
unfolding cut_past cut_with cuts current_after end_of is_start_cut
one_cut pid None Ignored fs = refl
one_cut pid None (Start u) fs = refl
one_cut pid None (Continuation id body) fs = refl
one_cut pid None (Interruption unstamped) fs = refl
one_cut pid (Some c) Ignored fs = refl
one_cut pid (Some c) (Start u) fs = refl
one_cut pid (Some c) (Continuation id body) fs = cut_more pid id c body fs (id == c) refl
one_cut pid (Some c) (Interruption unstamped) fs = refl

or_group : (a b c : Bool) → (a || (b || c)) ≡ ((a || b) || c)
or_group true b c = refl
or_group false b c = refl

or_false : (a : Bool) → (a || false) ≡ a
or_false true = refl
or_false false = refl

pub cut_step : {X : Type 0} (view : X → FindingView) (pid i : ℕ) (fs : List X) (f : X) (current next : Option ℕ) (cut now all : Bool) → i < length fs →
    f ≡ get_or fs i f →
    now ≡ (cut || cuts current (role_of pid (view f))) → next ≡ current_after current (role_of pid (view f)) →
    all ≡ (cut || cut_with pid current (map view (drop i fs))) → all ≡ (now || cut_with pid next (map view (drop (i + 1) fs)))
cut_step view pid i fs f current next cut now all below at cuts_as goes is =
    let rest = map view (drop (i + 1) fs) in
    let split : map view (drop i fs) ≡ view f ∷ rest = rw (drop-cons fs i f below, add-one i, sym at) refl in
    rw (cuts_as, goes) (is ∙ ap (λ (l : List FindingView). cut || cut_with pid current l) split
    ∙ ap (λ (b : Bool). cut || b) (cut_cons pid current (view f) rest ∙ one_cut pid current (role_of pid (view f)) rest)
    ∙ or_group cut (cuts current (role_of pid (view f))) (cut_with pid (current_after current (role_of pid (view f))) rest))

none_cut : (pid : ℕ) (current : Option ℕ) → cut_with pid current [] ≡ false
unfolding cut_with has_cut is_cut
none_cut pid None = refl
none_cut pid (Some id) = refl

pub cut_finish : {X : Type 0} (view : X → FindingView) (pid i : ℕ) (fs : List X) (current : Option ℕ) (cut all : Bool) → length fs ≤ i →
    all ≡ (cut || cut_with pid current (map view (drop i fs))) → cut ≡ all
cut_finish view pid i fs current cut all over is =
    let none : map view (drop i fs) ≡ [] = rw (drop_all i fs over) refl in
    sym (is ∙ ap (λ (l : List FindingView). cut || cut_with pid current l) none ∙ ap (λ (b : Bool). cut || b) (none_cut pid current) ∙ or_false cut)

abbrev pub id_under_way : Option CarriedUnit → Option ℕ
id_under_way u = option_map (λ (w : CarriedUnit). w.stream_id) u

id_more : (id : ℕ) (body : List ℕ) (u : CarriedUnit) (same : Bool) → (id == u.stream_id) ≡ same →
    id_under_way (goes_on_as (Some u) (Continuation id body)) ≡ current_after (id_under_way (Some u)) (Continuation id body)
unfolding goes_on_as lengthened current_after
id_more id body u true is = rw is refl
id_more id body u false is = rw is refl

pub same_id : (u : Option CarriedUnit) (b : RoleView) → id_under_way (goes_on_as u b) ≡ current_after (id_under_way u) b
unfolding goes_on_as lengthened current_after
same_id None Ignored = refl
same_id None (Start next) = refl
same_id None (Continuation id body) = refl
same_id None (Interruption unstamped) = refl
same_id (Some u) Ignored = refl
same_id (Some u) (Start next) = refl
same_id (Some u) (Continuation id body) = id_more id body u (id == u.stream_id) refl
same_id (Some u) (Interruption unstamped) = refl

pub cut_start : {X : Type 0} (view : X → FindingView) (pid : ℕ) (fs : List X) (u : Option CarriedUnit) → u ≡ None →
    has_cut pid (map view fs) ≡ (false || cut_with pid (id_under_way u) (map view (drop 0 fs)))
unfolding cut_with
cut_start view pid fs u is = rw is refl

-- 7. Findings of other PIDs change nothing

same_with : (split : Bool) (pid : ℕ) (u : Option CarriedUnit) (fs : List FindingView) → units_with split pid u (found_of pid fs) ≡ units_with split pid u fs
unfolding units_with
same_with split pid None fs = same_in split pid fs
same_with split pid (Some u) fs = rw (same_cut u.stream_id pid fs, same_continuation u.stream_id pid fs, same_in split pid fs) refl

same_start : (pid : ℕ) (b : RoleView) (fs : List FindingView) → is_start_cut pid b (found_of pid fs) ≡ is_start_cut pid b fs
unfolding is_start_cut
same_start pid Ignored fs = refl
same_start pid (Start u) fs = same_cut u.stream_id pid fs
same_start pid (Continuation id body) fs = refl
same_start pid (Interruption unstamped) fs = refl

no_start : (pid : ℕ) (b : RoleView) (fs : List FindingView) → b ≡ Ignored → (is_start_cut pid b fs || has_cut pid fs) ≡ has_cut pid fs
unfolding is_start_cut
no_start pid b fs is = rw is refl

same_has : (pid : ℕ) (fs : List FindingView) → has_cut pid (found_of pid fs) ≡ has_cut pid fs
unfolding has_cut
same_has pid [] = refl
same_has pid (f ∷ fs) = elim (cases_Bool (has_pid pid f.pid)) [
  | inl own ↦ rw own (ap₂ (λ (a b : Bool). a || b) (same_start pid (role_of pid f) fs) (same_has pid fs))
  | inr other ↦ rw other (same_has pid fs ∙ sym (no_start pid (role_of pid f) fs (other_pid_ignored pid f other)))
]

same_cut_with : (pid : ℕ) (current : Option ℕ) (fs : List FindingView) → cut_with pid current (found_of pid fs) ≡ cut_with pid current fs
unfolding cut_with
same_cut_with pid None fs = same_has pid fs
same_cut_with pid (Some id) fs = ap₂ (λ (a b : Bool). a || b) (same_cut id pid fs) (same_has pid fs)

pub units_past_others : {X : Type 0} (view : X → FindingView) (s : UnitsSoFar) (pid from at : ℕ) (fs : List X) (before : List CarriedUnit) →
    s.pid ≡ pid → ComesTo view pid from at fs →
    before ++ units_with s.split s.pid s.unit (map view (drop from fs)) ≡ before ++ units_with s.split s.pid s.unit (map view (drop at fs))
units_past_others view s pid from at fs before own comes =
    rw own (ap (λ (us : List CarriedUnit). before ++ us) (same_past view (units_with s.split pid s.unit) pid from at fs (same_with s.split pid s.unit) comes))

pub cut_past_others : {X : Type 0} (view : X → FindingView) (pid from at : ℕ) (fs : List X) (current : Option ℕ) (cut : Bool) → ComesTo view pid from at fs →
    (cut || cut_with pid current (map view (drop from fs))) ≡ (cut || cut_with pid current (map view (drop at fs)))
cut_past_others view pid from at fs current cut comes =
    ap (λ (b : Bool). cut || b) (same_past view (cut_with pid current) pid from at fs (same_cut_with pid current) comes)
