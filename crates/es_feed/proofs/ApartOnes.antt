-- Whether the next unit of a stream is due at the same moment as a unit that is given.
use Rattle.std.proofs.Common.{◌≡◌, ◌∙◌, ◌<◌, ℕ, suc, ◌++◌, ◌==◌, ◌||◌, Bool, true, false, Option, Some, None, List, [], ◌∷◌, length, refl, sym, ap, arith}
use Rattle.std.specs.Option.{option_to_list}
use Rattle.std.proofs.lemmas.Bool.Decides.{nat_tests}
use Rattle.pid_findings.specs.Views.{FindingView}
use Rattle.es_units.specs.ApartSteps.{is_same_after, set_apart}
use Rattle.es_moments.specs.ApartUnits.{has_same, is_same_next}
use Rattle.es_units.specs.CarriedUnits.{RoleView, Ignored, Start, Continuation, Interruption, end_of, is_cut, role_of, with_more}
use Rattle.es_units.specs.UnitSteps.{after_finding, ended_unit, goes_on_as, has_id, lengthened, made_whole}
use Rattle.es_units.proofs.ApartSteps.{set_own}
use Rattle.es_feed.specs.EachStream.{next_starts}
use Rattle.fed_streams.specs.Feeding.{FedStreamView, made_by, same_by, unit_after, whole_by}
use Rattle.es_feed.proofs.OwnUnits.{AreAlone, follows, more_as, next_uncut, so_far, to_come, to_come_last}
use Rattle.fed_streams.proofs.UncutUnits.{past_cut, past_here, under_cut}
use Rattle.es_moments.specs.WireUnits.{CarriedUnit}

-- 1. The current unit is the next unit, if it has bytes and is not cut

same_head : (w : CarriedUnit) (x : Option CarriedUnit) (us : List CarriedUnit) → is_same_next w (option_to_list x) ≡ true →
    is_same_next w (option_to_list x ++ us) ≡ true
unfolding is_same_next
same_head w None us same = absurd cc
same_head w (Some u) us same = same

over_none : (n : ℕ) → 0 < n → (n == 0) ≡ false
over_none n some = grind (arith, nat_tests)

more_test : (bytes body : List ℕ) → (length bytes == 0) ≡ false → (length (bytes ++ body) == 0) ≡ false
more_test [] body some = absurd cc
more_test (b ∷ bytes) body some =
    let more : 0 < suc (length (bytes ++ body)) = omega arith in
    over_none (suc (length (bytes ++ body))) more

whole_some : (u : CarriedUnit) → (length u.unit.bytes == 0) ≡ false → ended_unit false (Some u) ≡ Some u
unfolding ended_unit
whole_some u is = rw is refl

more_by : (w u : CarriedUnit) (body : List ℕ) (none : Bool) → (length u.unit.bytes == 0) ≡ none →
    is_same_next w (option_to_list (ended_unit false (Some u))) ≡ true →
    is_same_next w (option_to_list (ended_unit false (Some (with_more u body)))) ≡ true
unfolding is_same_next ended_unit
more_by w u body true is same = absurd (let no : false ≡ true = rw is at same in cc)
more_by w u body false is same =
    let here : is_same_next w (u ∷ []) ≡ true = sym (ap (λ (x : Option CarriedUnit). is_same_next w (option_to_list x)) (whole_some u is)) ∙ same in
    let there : is_same_next w (with_more u body ∷ []) ≡ true = here in
    ap (λ (x : Option CarriedUnit). is_same_next w (option_to_list x)) (whole_some (with_more u body) (more_test u.unit.bytes body is)) ∙ there

first_more : (w : CarriedUnit) (pid : ℕ) (split : Bool) (u : CarriedUnit) (f : FindingView) (fs : List FindingView) (id : ℕ) (body : List ℕ) (own : Bool) →
    (id == u.stream_id) ≡ own → role_of pid f ≡ Continuation id body → past_cut pid (Some u) (Continuation id body) fs ≡ false →
    is_same_next w (option_to_list (ended_unit false (Some u))) ≡ true →
    ((v : CarriedUnit) → is_cut v.stream_id pid fs ≡ false → is_same_next w (option_to_list (ended_unit false (Some v))) ≡ true →
    is_same_next w (to_come (so_far pid split (Some v)) fs) ≡ true) →
    is_same_next w (to_come (so_far pid split (Some u)) (f ∷ fs)) ≡ true
unfolding past_cut end_of made_whole goes_on_as has_id lengthened
first_more w pid split u f fs id body true own is uncut same later =
    let on : is_cut u.stream_id pid fs ≡ false = rw own at uncut in
    let more : option_to_list (made_whole split (Some u) (Continuation id body))
    ++ to_come (so_far pid split (goes_on_as (Some u) (Continuation id body))) fs
    ≡ to_come (so_far pid split (Some (with_more u body))) fs = rw own refl in
    ap (λ (us : List CarriedUnit). is_same_next w us) (more_as pid split (Some u) f fs (Continuation id body) is ∙ more)
    ∙ later (with_more u body) on (more_by w u body (length u.unit.bytes == 0) refl same)
first_more w pid split u f fs id body false own is uncut same later = absurd (let no : true ≡ false = rw own at uncut in cc)

first_by : (w : CarriedUnit) (pid : ℕ) (split : Bool) (u : CarriedUnit) (f : FindingView) (fs : List FindingView) (r : RoleView) → role_of pid f ≡ r →
    past_cut pid (Some u) r fs ≡ false →
    is_same_next w (option_to_list (ended_unit false (Some u))) ≡ true →
    ((v : CarriedUnit) → is_cut v.stream_id pid fs ≡ false → is_same_next w (option_to_list (ended_unit false (Some v))) ≡ true →
    is_same_next w (to_come (so_far pid split (Some v)) fs) ≡ true) →
    is_same_next w (to_come (so_far pid split (Some u)) (f ∷ fs)) ≡ true
unfolding past_cut end_of made_whole goes_on_as
first_by w pid split u f fs Ignored is uncut same later =
    ap (λ (us : List CarriedUnit). is_same_next w us) (more_as pid split (Some u) f fs Ignored is) ∙ later u uncut same
first_by w pid split u f fs (Start n) is uncut same later =
    ap (λ (us : List CarriedUnit). is_same_next w us) (more_as pid split (Some u) f fs (Start n) is)
    ∙ same_head w (ended_unit false (Some u)) (to_come (so_far pid split (Some n)) fs) same
first_by w pid split u f fs (Continuation id body) is uncut same later = first_more w pid split u f fs id body (id == u.stream_id) refl is uncut same later
first_by w pid split u f fs (Interruption unstamped) is uncut same later = absurd cc

pub first_here : (w : CarriedUnit) (pid : ℕ) (split : Bool) (x : Option CarriedUnit) (fs : List FindingView) → under_cut pid x fs ≡ false →
    is_same_next w (option_to_list (ended_unit false x)) ≡ true → is_same_next w (to_come (so_far pid split x) fs) ≡ true
unfolding is_same_next ended_unit under_cut
first_here w pid split None fs uncut same = absurd cc
first_here w pid split (Some u) [] uncut same = ap (λ (us : List CarriedUnit). is_same_next w us) (to_come_last (so_far pid split (Some u))) ∙ same
first_here w pid split (Some u) (f ∷ fs) uncut same =
    first_by w pid split u f fs (role_of pid f) refl (sym (past_here pid (Some u) f fs) ∙ uncut) same
    (λ v on more. first_here w pid split (Some v) fs on more)

-- 2. A finding that gives a unit

alone_uncut : (pid : ℕ) (x : Option CarriedUnit) (fs : List FindingView) → follows x (next_starts pid fs) ≡ true → under_cut pid x fs ≡ false
unfolding follows under_cut
alone_uncut pid None fs is = refl
alone_uncut pid (Some u) fs is = next_uncut u.stream_id pid fs is

pub same_comes : (s : FedStreamView) (f : FindingView) (fs : List FindingView) → under_cut s.units.pid (unit_after s f) fs ≡ false →
    (u : CarriedUnit) → made_by s f ≡ Some u → same_by s f ≡ true → is_same_next u (to_come (after_finding s.units f) fs) ≡ true
unfolding is_same_after
same_comes s f fs uncut u made same =
    first_here u s.units.pid s.units.split (unit_after s f) fs uncut
    (ap (λ (m : Option CarriedUnit). is_same_after m (unit_after s f)) (sym made) ∙ same)

pub same_alone : (s : FedStreamView) (f : FindingView) (fs : List FindingView) → AreAlone (after_finding s.units f) fs →
    (u : CarriedUnit) → made_by s f ≡ Some u → same_by s f ≡ true → is_same_next u (to_come (after_finding s.units f) fs) ≡ true
same_alone s f fs alone u made same =
    same_comes s f fs (alone_uncut s.units.pid (unit_after s f) fs alone.under_way) u made same

-- 3. No two units are due at the same moment

neither : (a b : Bool) → (a || b) ≡ false → (a ≡ false) × (b ≡ false)
neither true b none = absurd cc
neither false b none = (refl, none)

none_after : (next : Option CarriedUnit) → false ≡ is_same_after None next
unfolding is_same_after
none_after next = refl

none_later : (made : Option CarriedUnit) (later : List CarriedUnit) → has_same (option_to_list made ++ later) ≡ false → has_same later ≡ false
unfolding has_same
none_later None later none = none
none_later (Some u) later none = (neither (is_same_next u later) (has_same later) none).1

-- No two consecutive units are due at the same moment.
pub record NoneSame (s : FedStreamView) (f : FindingView) (fs : List FindingView) : Type 0 where
  pub whole : whole_by s f ≡ made_by s f
  pub later : has_same (to_come (after_finding s.units f) fs) ≡ false

pub not_apart : (s : FedStreamView) (f : FindingView) (fs : List FindingView) (same : Bool) (made : Option CarriedUnit) → same_by s f ≡ same →
    made_by s f ≡ made → under_cut s.units.pid (unit_after s f) fs ≡ false →
    has_same (option_to_list made ++ to_come (after_finding s.units f) fs) ≡ false → NoneSame s f fs
unfolding has_same
not_apart s f fs false made is whole uncut none = record {
  whole = ap (λ (b : Bool). set_apart b s.place (made_by s f)) is ∙ set_own s.place (made_by s f);
  later = none_later made (to_come (after_finding s.units f) fs) none;
}
not_apart s f fs true None is whole uncut none =
    let after = unit_after s f in
    absurd (let no : false ≡ true = none_after after ∙ ap (λ (m : Option CarriedUnit). is_same_after m after) (sym whole) ∙ is in cc)
not_apart s f fs true (Some u) is whole uncut none =
    let later = to_come (after_finding s.units f) fs in
    absurd (let no : true ≡ false = sym (same_comes s f fs uncut u whole is) ∙ (neither (is_same_next u later) (has_same later) none).0 in cc)
