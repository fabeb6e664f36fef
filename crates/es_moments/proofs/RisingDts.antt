-- DTS that rise, one by one
use Rattle.std.proofs.Common.{◌≡◌, ◌≤◌, ◌<◌, ℕ, ◌+◌, ◌%◌, ◌^◌, ◌==◌, ◌&&◌, ◌||◌, nat_le, nat_lt, Bool, true, false, if◌then◌else◌, Option, Some, None, List}
use Rattle.std.proofs.Common.{[], ◌∷◌, length, map, refl, sym, arith, drop, get_or}
use Rattle.std.proofs.lemmas.List.{drop_all}
use Rattle.std.proofs.lemmas.Bool.Decides.{nat_tests}
use Rattle.unit_queue.proofs.CauseLemmas.{or_false}
use Rattle.es_moments.specs.ApartUnits.{is_same_next, next_place, apart_by, apart_dts, apart_units}
use Rattle.es_moments.specs.MadeDts.{made_units, with_dts}
use Rattle.es_moments.specs.RisingDts.{is_later, all_later, dts_rise, dts_are_made, rising_units, SoundKeep}
use Rattle.es_moments.specs.Stamps.{distance, dts_at, dts_not_increasing, unit_fault, first_fault}
use Rattle.es_moments.specs.declared.stamps.StampFault.TheVariants.{DtsNotIncreasing}
use Rattle.es_moments.proofs.ApartUnits.{apart_contents, length_apart, next_unit}
use Rattle.es_moments.proofs.MadeDts.{made_contents}
use Rattle.es_moments.proofs.StampFaults.{or_none, place_none, test_none}
use Rattle.es_moments.proofs.StampMoments.{shows_dts}
use Rattle.es_moments.proofs.UnitMoments.{contents}
use Rattle.es_moments.specs.WireUnits.{CarriedUnit, unit_with}

-- 1. One unit after another

pub rise_more : (i : ℕ) (us : List CarriedUnit) (u : CarriedUnit) (place next d : ℕ) (before : Option ℕ) → i < length us → u ≡ get_or us i u →
    d ≡ apart_by (is_same_next u (drop (i + 1) us)) place u.unit.dts → next ≡ next_place (is_same_next u (drop (i + 1) us)) place →
    is_later before d ≡ true →
    all_later before (apart_dts place (drop i us)) ≡ all_later (Some d) (apart_dts next (drop (i + 1) us))
unfolding apart_dts all_later
rise_more i us u place next d before below here made on later = rw (next_unit i us u below here, on, sym made, later) refl

pub rise_fails : (i : ℕ) (us : List CarriedUnit) (u : CarriedUnit) (place d : ℕ) (before : Option ℕ) → i < length us → u ≡ get_or us i u →
    d ≡ apart_by (is_same_next u (drop (i + 1) us)) place u.unit.dts → is_later before d ≡ false →
    all_later before (apart_dts place (drop i us)) ≡ false
unfolding apart_dts all_later
rise_fails i us u place d before below here made falls = rw (next_unit i us u below here, sym made, falls) refl

pub rise_ends : (i : ℕ) (us : List CarriedUnit) (place : ℕ) (before : Option ℕ) → length us ≤ i → all_later before (apart_dts place (drop i us)) ≡ true
unfolding apart_dts all_later
rise_ends i us place before over = rw (drop_all i us over) refl

-- 2. Stamps that can be moments

from_shown : (a b w : ℕ) → a % 2 ^ 33 ≡ b % 2 ^ 33 → distance a w ≡ distance b w
unfolding distance
from_shown a b w same = rw same refl

within_half : (n : ℕ) → (n == 0) ≡ false → nat_le (2 ^ 32) n ≡ false → (nat_lt 0 n && nat_lt n (2 ^ 32)) ≡ true
within_half n some near = grind (arith, nat_tests)

sound_later : (base : ℕ) (before : Option ℕ) (d e : ℕ) → dts_not_increasing base (Some (dts_at base before d)) e ≡ None → is_later (Some d) e ≡ true
unfolding dts_not_increasing is_later
sound_later base before d e none =
    let at = dts_at base before d in
    let two = or_false (distance (at + base) e == 0) (nat_le (2 ^ 32) (distance (at + base) e))
    (test_none ((distance (at + base) e == 0) || nat_le (2 ^ 32) (distance (at + base) e)) (DtsNotIncreasing (distance e (at + base))) none) in
    let same : distance (at + base) e ≡ distance d e = from_shown (at + base) d e (shows_dts base before d) in
    rw (sym same) (within_half (distance (at + base) e) two.0 two.1)

sound_rest : (limit base place : ℕ) (before : Option ℕ) (d : ℕ) (ds : List ℕ) (us : List CarriedUnit) → length ds ≡ length us →
    first_fault limit base (Some (dts_at base before d)) place (map (λ x. x.unit) (with_dts ds us)) ≡ None → all_later (Some d) ds ≡ true
unfolding first_fault with_dts all_later
sound_rest limit base place before d [] us same none = refl
sound_rest limit base place before d (e ∷ ds) [] same none = absurd cc
sound_rest limit base place before d (e ∷ ds) (u ∷ us) same none =
    let at = Some (dts_at base before d) in
    let v = unit_with u.packet u.stream_id e u.unit.pts u.unit.marks u.unit.bytes in
    let both = place_none place (unit_fault limit base at v.unit)
    (first_fault limit base (Some (dts_at base at e)) (place + 1) (map (λ x. x.unit) (with_dts ds us))) none in
    let later = sound_later base before d e (or_none (dts_not_increasing base at e) _ both.0).0 in
    let less : length ds ≡ length us = omega (arith, same) in
    rw (later, sound_rest limit base (place + 1) at e ds us less both.1) refl

sound_all : (limit base place : ℕ) (ds : List ℕ) (us : List CarriedUnit) → length ds ≡ length us →
    first_fault limit base None place (map (λ x. x.unit) (with_dts ds us)) ≡ None → all_later None ds ≡ true
unfolding first_fault with_dts all_later is_later
sound_all limit base place [] us same none = refl
sound_all limit base place (d ∷ ds) [] same none = absurd cc
sound_all limit base place (d ∷ ds) (u ∷ us) same none =
    let v = unit_with u.packet u.stream_id d u.unit.pts u.unit.marks u.unit.bytes in
    let both = place_none place (unit_fault limit base None v.unit)
    (first_fault limit base (Some (dts_at base None d)) (place + 1) (map (λ x. x.unit) (with_dts ds us))) none in
    let less : length ds ≡ length us = omega (arith, same) in
    sound_rest limit base (place + 1) None d ds us less both.1

pub sound_keep : SoundKeep
unfolding dts_are_made
sound_keep limit base place us none =
    let rise : dts_rise us ≡ true = sound_all limit base place (apart_dts 0 us) us (length_apart 0 us) none in
    rw rise refl

-- 3. Units with DTS that rise if their stamps allow it

pub rising_made : (us : List CarriedUnit) → dts_are_made us ≡ true → rising_units us ≡ made_units us
unfolding rising_units
rising_made us made = rw made refl

pub rising_own : (us : List CarriedUnit) → dts_are_made us ≡ false → rising_units us ≡ apart_units us
unfolding rising_units
rising_own us own = rw own refl

either_contents : (made : Bool) (us : List CarriedUnit) → contents (if made then made_units us else apart_units us) ≡ contents us
either_contents true us = made_contents us
either_contents false us = apart_contents us

pub rising_contents : (us : List CarriedUnit) → contents (rising_units us) ≡ contents us
unfolding rising_units
rising_contents us = either_contents (dts_are_made us) us
