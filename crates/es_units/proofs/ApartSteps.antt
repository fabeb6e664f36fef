-- Units of data streams that are due at the same moment, one by one.
use Rattle.std.proofs.Common.{◌≡◌, ◌≤◌, ◌∙◌, ℕ, ◌+◌, ◌%◌, ◌^◌, ◌++◌, ◌==◌, ◌||◌, nat_le, Bool, true, false, Option, Some, None, List, [], ◌∷◌, refl, ap}
use Rattle.std.proofs.Common.{arith}
use Rattle.std.specs.Prelude.{⊤}
use Rattle.std.specs.Option.{option_to_list}
use Rattle.std.proofs.lemmas.Bool.Decides.{nat_tests}
use Rattle.unit_queue.proofs.CauseLemmas.{or_false}
use Rattle.es_units.specs.ApartSteps.{place_past, set_apart, unit_apart}
use Rattle.es_moments.specs.ApartUnits.{apart_by, apart_dts, apart_from, is_same_next, next_place}
use Rattle.es_moments.specs.MadeDts.{with_dts}
use Rattle.es_moments.specs.Stamps.{distance, dts_at, dts_not_increasing}
use Rattle.es_moments.specs.declared.stamps.StampFault.TheVariants.{DtsNotIncreasing}
use Rattle.es_moments.proofs.ApartUnits.{and_false, not_true, rises, same_number}
use Rattle.es_moments.proofs.StampFaults.{test_none}
use Rattle.es_moments.proofs.StampMoments.{shows_dts}
use Rattle.es_moments.specs.WireUnits.{CarriedUnit}

-- 1. One unit

pub set_own : (place : ℕ) (w : Option CarriedUnit) → set_apart false place w ≡ w
unfolding set_apart unit_apart apart_by
set_own place None = refl
set_own place (Some u) = refl

apart_more : (place : ℕ) (u : CarriedUnit) (us : List CarriedUnit) → apart_from place (u ∷ us)
    ≡ unit_apart (is_same_next u us) place u ∷ apart_from (next_place (is_same_next u us) place) us
unfolding apart_dts with_dts unit_apart
apart_more place u us = refl

apart_some : (same : Bool) (place : ℕ) (u : CarriedUnit) (us : List CarriedUnit) → is_same_next u us ≡ same →
    apart_from place (u ∷ us) ≡ option_to_list (set_apart same place (Some u)) ++ apart_from (place_past same place (Some u)) us
unfolding set_apart place_past
apart_some same place u us is = apart_more place u us ∙ ap (λ (b : Bool). unit_apart b place u ∷ apart_from (next_place b place) us) is

pub apart_last : (place : ℕ) (w : Option CarriedUnit) → apart_from place (option_to_list w) ≡ option_to_list w
unfolding apart_dts with_dts is_same_next apart_by
apart_last place None = refl
apart_last place (Some u) = refl

-- 2. Units, the first of them due at a moment after a DTS

unfoldable pub Soon : ℕ → Option ℕ → List CarriedUnit → Type 0
Soon base before [] = ⊤
Soon base before (u ∷ us) = dts_not_increasing base before u.unit.dts ≡ None

far_back : (a d e : ℕ) → a % 2 ^ 33 ≡ d % 2 ^ 33 → e ≡ d → 2 ^ 32 ≤ distance a (distance 63 e)
unfolding distance
far_back a d e shown same = omega (arith, shown, same)

is_far : (n : ℕ) → 2 ^ 32 ≤ n → nat_le (2 ^ 32) n ≡ true
is_far n far = grind (arith, nat_tests)

-- The unit's DTS differs from the DTS before it, whether or not the next unit has the same DTS.
other_dts : (base : ℕ) (before : Option ℕ) (d e : ℕ) (same : Bool) → dts_not_increasing base (Some (dts_at base before d)) (apart_by same 0 e) ≡ None →
    (e == d) ≡ false
unfolding apart_by dts_not_increasing
other_dts base before d e false none = rises base before d e none
other_dts base before d e true none =
    let at = dts_at base before d + base in
    let stamp = distance 63 e in
    let apart = test_none ((distance at stamp == 0) || nat_le (2 ^ 32) (distance at stamp)) (DtsNotIncreasing (distance stamp at)) none in
    let near = (or_false (distance at stamp == 0) (nat_le (2 ^ 32) (distance at stamp)) apart).1 in
    not_true (e == d) (λ same.
    let far = is_far (distance at stamp) (far_back at d e (shows_dts base before d) (same_number e d same)) in
    let no : ⊥ = cc in no)

not_same : (base : ℕ) (before : Option ℕ) (u : CarriedUnit) (us : List CarriedUnit) →
    Soon base (Some (dts_at base before u.unit.dts)) (apart_from 0 us) → is_same_next u us ≡ false
unfolding is_same_next Soon apart_dts with_dts
not_same base before u [] soon = refl
not_same base before u (v ∷ us) soon =
    and_false (u.stream_id == 0xBD) (v.unit.dts == u.unit.dts) (other_dts base before u.unit.dts v.unit.dts (is_same_next v us) soon)

-- 3. A unit that is given, and the units after it

-- The last DTS after a unit that is given
unfoldable pub dts_past : ℕ → Option ℕ → Option CarriedUnit → Option ℕ
dts_past base before None = before
dts_past base before (Some u) = Some (dts_at base before u.unit.dts)

pub given_first : (base place : ℕ) (before : Option ℕ) (whole : Option CarriedUnit) (same : Bool) (later : List CarriedUnit) →
    ((u : CarriedUnit) → whole ≡ Some u → same ≡ true → is_same_next u later ≡ true) →
    Soon base (dts_past base before (set_apart same place whole)) (apart_from (place_past same place whole) later) →
    apart_from place (option_to_list whole ++ later) ≡ option_to_list (set_apart same place whole) ++ apart_from (place_past same place whole) later
unfolding set_apart place_past dts_past next_place unit_apart apart_by
given_first base place before None same later is soon = refl
given_first base place before (Some u) true later is soon = apart_some true place u later (is u refl refl)
given_first base place before (Some u) false later is soon = apart_some false place u later (not_same base before u later soon)
