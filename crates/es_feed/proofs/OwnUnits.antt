-- The remaining units of a PID, even if a unit is given before the next finding.
use Rattle.std.proofs.Common.{◌≡◌, ◌∙◌, ℕ, ◌++◌, ◌&&◌, ◌||◌, Bool, true, false, Option, Some, None, List, [], ◌∷◌, refl, sym, ap}
use Rattle.std.specs.Option.{option_to_list}
use Rattle.std.specs.Prelude.{unwrap_or}
use Rattle.std.proofs.lemmas.List.{append_assoc, append-nil}
use Rattle.pid_findings.specs.Views.{FindingView}
use Rattle.es_units.specs.CarriedUnits.{RoleView, Ignored, Start, Continuation, Interruption, end_of, is_cut, role_of, carried_units}
use Rattle.es_units.specs.UnitSteps.{UnitsSoFar, after_finding, after_findings, ended_unit, given, goes_on_as, has_cut, is_start_cut, lengthened, made_whole}
use Rattle.es_units.specs.UnitSteps.{none_so_far}
use Rattle.es_units.proofs.UnitSteps.{uncut_carried}
use Rattle.es_feed.specs.EachStream.{if_start, next_starts, one_by_one, starts_next}
use Rattle.es_moments.specs.WireUnits.{CarriedUnit}

-- 1. The remaining units

-- The units that findings make whole, and the last unit
unfoldable pub to_come : UnitsSoFar → List FindingView → List CarriedUnit
to_come u fs = given u fs ++ option_to_list (ended_unit false (after_findings u fs).unit)

pub to_come_last : (u : UnitsSoFar) → to_come u [] ≡ option_to_list (ended_unit false u.unit)
unfolding to_come given after_findings
to_come_last u = refl

pub to_come_more : (u : UnitsSoFar) (f : FindingView) (fs : List FindingView) →
    to_come u (f ∷ fs) ≡ option_to_list (made_whole u.split u.unit (role_of u.pid f)) ++ to_come (after_finding u f) fs
unfolding to_come given after_findings
to_come_more u f fs = append_assoc (option_to_list (made_whole u.split u.unit (role_of u.pid f))) (given (after_finding u f) fs)
    (option_to_list (ended_unit false (after_findings (after_finding u f) fs).unit))

nothing : (ws : List CarriedUnit) → option_to_list (let none : Option CarriedUnit = None in none) ++ ws ≡ ws
nothing ws = refl

none_ends : option_to_list (ended_unit false None) ≡ []
unfolding ended_unit
none_ends = refl

-- 2. Units of one PES packet each

and_first : (a b : Bool) → (a && b) ≡ true → a ≡ true
and_first true b is = refl
and_first false b is = absurd cc

and_last : (a b : Bool) → (a && b) ≡ true → b ≡ true
and_last true b is = is
and_last false b is = absurd cc

unfoldable pub follows : Option CarriedUnit → Bool → Bool
follows None next = true
follows (Some w) next = next

-- The current unit and the later units have one PES packet each.
pub record AreAlone (u : UnitsSoFar) (fs : List FindingView) : Type 0 where
  pub under_way : follows u.unit (next_starts u.pid fs) ≡ true
  pub later : one_by_one u.pid fs ≡ true

alone_as : (w : Option CarriedUnit) (r : RoleView) (next : Bool) → follows w (starts_next r next) ≡ true → if_start r next ≡ true →
    follows (goes_on_as w r) next ≡ true
unfolding follows starts_next if_start goes_on_as lengthened
alone_as None Ignored next is starts = refl
alone_as None (Start n) next is starts = starts
alone_as None (Continuation id body) next is starts = refl
alone_as None (Interruption unstamped) next is starts = refl
alone_as (Some w) Ignored next is starts = is
alone_as (Some w) (Start n) next is starts = starts
alone_as (Some w) (Continuation id body) next is starts = absurd cc
alone_as (Some w) (Interruption unstamped) next is starts = refl

pub alone_after : (u : UnitsSoFar) (f : FindingView) (fs : List FindingView) → AreAlone u (f ∷ fs) → AreAlone (after_finding u f) fs
unfolding next_starts one_by_one
alone_after u f fs a =
    let r = role_of u.pid f in
    let next = next_starts u.pid fs in
    record {
      under_way = alone_as u.unit r next a.under_way (and_first (if_start r next) (one_by_one u.pid fs) a.later);
      later = and_last (if_start r next) (one_by_one u.pid fs) a.later;
    }

pub alone_without : (u : UnitsSoFar) (fs : List FindingView) → AreAlone u fs → AreAlone (record { pid = u.pid; split = u.split; unit = None }) fs
unfolding follows
alone_without u fs a = record { under_way = refl; later = a.later }

-- 3. The current unit is given before the next finding

abbrev pub so_far : ℕ → Bool → Option CarriedUnit → UnitsSoFar
so_far pid split w = record { pid = pid; split = split; unit = w }

pub more_as : (pid : ℕ) (split : Bool) (w : Option CarriedUnit) (f : FindingView) (fs : List FindingView) (r : RoleView) → role_of pid f ≡ r →
    to_come (so_far pid split w) (f ∷ fs) ≡ option_to_list (made_whole split w r) ++ to_come (so_far pid split (goes_on_as w r)) fs
more_as pid split w f fs r is =
    to_come_more (so_far pid split w) f fs ∙ ap (λ (r : RoleView). option_to_list (made_whole split w r) ++ to_come (so_far pid split (goes_on_as w r)) fs) is

early_by : (pid : ℕ) (split : Bool) (x : CarriedUnit) (f : FindingView) (fs : List FindingView) (r : RoleView) → role_of pid f ≡ r →
    starts_next r (next_starts pid fs) ≡ true →
    (next_starts pid fs ≡ true → to_come (so_far pid split (Some x)) fs ≡ option_to_list (ended_unit false (Some x)) ++ to_come (so_far pid split None) fs) →
    to_come (so_far pid split (Some x)) (f ∷ fs) ≡ option_to_list (ended_unit false (Some x)) ++ to_come (so_far pid split None) (f ∷ fs)
unfolding starts_next made_whole goes_on_as to_come ended_unit
early_by pid split x f fs Ignored is next later =
    let ended = option_to_list (ended_unit false (Some x)) in
    more_as pid split (Some x) f fs Ignored is ∙ later next
    ∙ ap (λ (ws : List CarriedUnit). ended ++ ws) (sym (more_as pid split None f fs Ignored is))
early_by pid split x f fs (Start n) is next later =
    let ended = option_to_list (ended_unit false (Some x)) in
    more_as pid split (Some x) f fs (Start n) is
    ∙ ap (λ (ws : List CarriedUnit). ended ++ ws) (sym (more_as pid split None f fs (Start n) is ∙ nothing (to_come (so_far pid split (Some n)) fs)))
early_by pid split x f fs (Continuation id body) is next later = absurd cc
early_by pid split x f fs (Interruption unstamped) is next later = absurd cc

early : (pid : ℕ) (split : Bool) (w : Option CarriedUnit) (fs : List FindingView) → follows w (next_starts pid fs) ≡ true →
    to_come (so_far pid split w) fs ≡ option_to_list (ended_unit false w) ++ to_come (so_far pid split None) fs
unfolding follows next_starts ended_unit
early pid split None fs is = sym (nothing (to_come (so_far pid split None) fs))
early pid split (Some x) [] is =
    let ended = option_to_list (ended_unit false (Some x)) in
    to_come_last (so_far pid split (Some x)) ∙ sym (append-nil ended)
    ∙ ap (λ (ws : List CarriedUnit). ended ++ ws) (sym (to_come_last (so_far pid split None) ∙ none_ends))
early pid split (Some x) (f ∷ fs) is = early_by pid split x f fs (role_of pid f) refl is (λ next. early pid split (Some x) fs next)

pub to_come_early : (u : UnitsSoFar) (fs : List FindingView) → AreAlone u fs →
    to_come u fs ≡ option_to_list (ended_unit false u.unit) ++ to_come (record { pid = u.pid; split = u.split; unit = None }) fs
to_come_early u fs a = early u.pid u.split u.unit fs a.under_way

-- 4. All units of a PID

uncut_by : (id : ℕ) (r : RoleView) (next cut : Bool) → starts_next r next ≡ true → (next ≡ true → cut ≡ false) → unwrap_or (end_of id r) cut ≡ false
unfolding starts_next end_of
uncut_by id Ignored next cut is later = later is
uncut_by id (Start n) next cut is later = refl
uncut_by id (Continuation other body) next cut is later = absurd cc
uncut_by id (Interruption unstamped) next cut is later = absurd cc

pub next_uncut : (id pid : ℕ) (fs : List FindingView) → next_starts pid fs ≡ true → is_cut id pid fs ≡ false
unfolding next_starts is_cut
next_uncut id pid [] is = refl
next_uncut id pid (f ∷ fs) is = uncut_by id (role_of pid f) (next_starts pid fs) (is_cut id pid fs) is (λ next. next_uncut id pid fs next)

start_uncut : (pid : ℕ) (r : RoleView) (fs : List FindingView) → if_start r (next_starts pid fs) ≡ true → is_start_cut pid r fs ≡ false
unfolding if_start is_start_cut
start_uncut pid Ignored fs is = refl
start_uncut pid (Start n) fs is = next_uncut n.stream_id pid fs is
start_uncut pid (Continuation id body) fs is = refl
start_uncut pid (Interruption unstamped) fs is = refl

neither : (a b : Bool) → a ≡ false → b ≡ false → (a || b) ≡ false
neither a b one two = rw (one, two) refl

no_cut : (pid : ℕ) (fs : List FindingView) → one_by_one pid fs ≡ true → has_cut pid fs ≡ false
unfolding one_by_one has_cut
no_cut pid [] is = refl
no_cut pid (f ∷ fs) is =
    let start = if_start (role_of pid f) (next_starts pid fs) in
    neither (is_start_cut pid (role_of pid f) fs) (has_cut pid fs) (start_uncut pid (role_of pid f) fs (and_first start (one_by_one pid fs) is))
    (no_cut pid fs (and_last start (one_by_one pid fs) is))

pub alone_first : (pid : ℕ) (split : Bool) (fs : List FindingView) → one_by_one pid fs ≡ true → AreAlone (none_so_far pid split) fs
unfolding follows
alone_first pid split fs is = record { under_way = refl; later = is }

pub come_carried : (pid : ℕ) (split : Bool) (fs : List FindingView) → one_by_one pid fs ≡ true → to_come (none_so_far pid split) fs ≡ carried_units pid fs
unfolding to_come
come_carried pid split fs is = sym (uncut_carried split pid fs (no_cut pid fs is))
