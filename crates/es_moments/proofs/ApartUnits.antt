-- Units of data streams that are due at the same moment, one by one
use Rattle.std.proofs.Common.{◌≡◌, ◌≤◌, ◌<◌, ◌∙◌, ℕ, zero, suc, ◌+◌, ◌-◌, ◌%◌, ◌^◌, ◌++◌, ◌==◌, ◌&&◌, ◌||◌, nat_le, Bool, true, false, Option, Some, None, List}
use Rattle.std.proofs.Common.{[], ◌∷◌, length, map, refl, sym, ap, ap₂, arith, drop, get_or, add-one}
use Rattle.std.proofs.Math.Seq.{drop-cons}
use Rattle.std.proofs.lemmas.List.{append_assoc, append-nil, drop_all}
use Rattle.std.proofs.lemmas.Bool.Decides.{nat_tests}
use Rattle.pes_packet.specs.declared.marks.Marks.{Marks}
use Rattle.unit_queue.proofs.CauseLemmas.{or_false}
use Rattle.es_moments.specs.ApartUnits.{is_same_next, has_same, next_place, apart_by, apart_dts, apart_units, ApartKeep, ApartStay, RowRises, SoundStay}
use Rattle.es_moments.specs.MadeDts.{with_dts}
use Rattle.es_moments.specs.Stamps.{distance, dts_at, dts_not_increasing, unit_fault, first_fault}
use Rattle.es_moments.specs.declared.stamps.StampFault.TheVariants.{DtsNotIncreasing}
use Rattle.es_moments.proofs.MadeDts.{restamped_contents}
use Rattle.es_moments.proofs.StampFaults.{or_none, place_none, test_none}
use Rattle.es_moments.proofs.StampMoments.{shows_dts}
use Rattle.es_moments.proofs.UnitMoments.{contents}
use Rattle.es_moments.specs.WireUnits.{CarriedUnit, unit_with}

pub same_number : (a b : ℕ) → (a == b) ≡ true → a ≡ b
same_number a b e = grind (arith, nat_tests)

-- 1. One unit after another

pub next_unit : (i : ℕ) (us : List CarriedUnit) (u : CarriedUnit) → i < length us → u ≡ get_or us i u → drop i us ≡ u ∷ drop (i + 1) us
next_unit i us u below here = rw (drop-cons us i u below, add-one i, sym here) refl

-- In a data stream a unit is due at the same moment as the next unit if their DTS are equal.
same_head : (u v : CarriedUnit) (us later : List CarriedUnit) → later ≡ v ∷ us → is_same_next u later ≡ (u.stream_id == 0xBD && v.unit.dts == u.unit.dts)
unfolding is_same_next
same_head u v us later is = rw is refl

pub same_at : (i : ℕ) (u v : CarriedUnit) (us : List CarriedUnit) → i < length us → v ≡ get_or us i v →
    is_same_next u (drop i us) ≡ (u.stream_id == 0xBD && v.unit.dts == u.unit.dts)
same_at i u v us below here = same_head u v (drop (i + 1) us) (drop i us) (next_unit i us v below here)

pub same_end : (i : ℕ) (u : CarriedUnit) (us : List CarriedUnit) → length us ≤ i → is_same_next u (drop i us) ≡ false
unfolding is_same_next
same_end i u us over = rw (drop_all i us over) refl

pub dts_more : (all out after : List ℕ) (i : ℕ) (us : List CarriedUnit) (u : CarriedUnit) (place next d : ℕ) → all ≡ out ++ apart_dts place (drop i us) →
    i < length us → u ≡ get_or us i u →
    d ≡ apart_by (is_same_next u (drop (i + 1) us)) place u.unit.dts → next ≡ next_place (is_same_next u (drop (i + 1) us)) place → after ≡ out ++ d ∷ [] →
    all ≡ after ++ apart_dts next (drop (i + 1) us)
unfolding apart_dts
dts_more all out after i us u place next d is below here made on pushed =
    let later = drop (i + 1) us in
    rw (pushed, made, on) (is ∙ ap (λ (l : List CarriedUnit). out ++ apart_dts place l) (next_unit i us u below here)
    ∙ sym (append_assoc out (apart_by (is_same_next u later) place u.unit.dts ∷ []) (apart_dts (next_place (is_same_next u later) place) later)))

pub dts_end : (all out : List ℕ) (i : ℕ) (us : List CarriedUnit) (place : ℕ) → all ≡ out ++ apart_dts place (drop i us) → length us ≤ i → out ≡ all
unfolding apart_dts
dts_end all out i us place is over =
    sym (is ∙ ap (λ (l : List CarriedUnit). out ++ apart_dts place l) (drop_all i us over) ∙ append-nil out)

-- 2. Two units in a row that are due at the same moment

pub same_here : (i : ℕ) (us : List CarriedUnit) (u : CarriedUnit) → i < length us → u ≡ get_or us i u → is_same_next u (drop (i + 1) us) ≡ true →
    has_same (drop i us) ≡ true
unfolding has_same
same_here i us u below here same = rw (next_unit i us u below here, same) refl

pub same_later : (i : ℕ) (us : List CarriedUnit) (u : CarriedUnit) → i < length us → u ≡ get_or us i u → is_same_next u (drop (i + 1) us) ≡ false →
    has_same (drop i us) ≡ has_same (drop (i + 1) us)
unfolding has_same
same_later i us u below here other = rw (next_unit i us u below here, other) refl

pub same_none : (i : ℕ) (us : List CarriedUnit) → length us ≤ i → has_same (drop i us) ≡ false
unfolding has_same
same_none i us over = rw (drop_all i us over) refl

-- 3. Only the DTS changes

pub length_apart : (place : ℕ) (us : List CarriedUnit) → length (apart_dts place us) ≡ length us
unfolding apart_dts
length_apart place [] = refl
length_apart place (u ∷ us) = ap suc (length_apart (next_place (is_same_next u us) place) us)

pub apart_contents : (us : List CarriedUnit) → contents (apart_units us) ≡ contents us
apart_contents us = restamped_contents (apart_dts 0 us) us (length_apart 0 us)

AllKept : List CarriedUnit → List CarriedUnit → Type 0
AllKept us vs =
    (map (λ u. u.packet) us ≡ map (λ u. u.packet) vs)
    × (map (λ u. u.stream_id) us ≡ map (λ u. u.stream_id) vs)
    × (map (λ u. u.unit.pts) us ≡ map (λ u. u.unit.pts) vs)
    × (map (λ u. u.unit.marks) us ≡ map (λ u. u.unit.marks) vs)
    × (map (λ u. u.unit.bytes) us ≡ map (λ u. u.unit.bytes) vs)

restamped_keep : (dts : List ℕ) (us : List CarriedUnit) → length dts ≡ length us → AllKept (with_dts dts us) us
unfolding with_dts AllKept
restamped_keep [] [] same = (refl, refl, refl, refl, refl)
restamped_keep [] (u ∷ us) same = absurd cc
restamped_keep (d ∷ dts) [] same = absurd cc
restamped_keep (d ∷ dts) (u ∷ us) same =
    let less : length dts ≡ length us = omega (arith, same) in
    let rest = restamped_keep dts us less in (
      ap (λ (l : List ℕ). u.packet ∷ l) rest.0,
      ap (λ (l : List ℕ). u.stream_id ∷ l) rest.1,
      ap (λ (l : List ℕ). u.unit.pts ∷ l) rest.2,
      ap (λ (l : List Marks). u.unit.marks ∷ l) rest.3,
      ap (λ (l : List (List ℕ)). u.unit.bytes ∷ l) rest.4,
    )

pub apart_keep : ApartKeep
unfolding AllKept
apart_keep us = restamped_keep (apart_dts 0 us) us (length_apart 0 us)

-- 4. No two units in a row are due at the same moment

own_dts : (same : Bool) (place dts : ℕ) → same ≡ false → apart_by same place dts ≡ dts
unfolding apart_by
own_dts same place dts is = rw is refl

first_place : (same : Bool) (place : ℕ) → same ≡ false → next_place same place ≡ 0
unfolding next_place
first_place same place is = rw is refl

stay_from : (place : ℕ) (us : List CarriedUnit) → has_same us ≡ false → with_dts (apart_dts place us) us ≡ us
unfolding has_same apart_dts with_dts
stay_from place [] none = refl
stay_from place (u ∷ us) none =
    let two = or_false (is_same_next u us) (has_same us) none in
    ap₂ (λ (d : ℕ) (l : List CarriedUnit). unit_with u.packet u.stream_id d u.unit.pts u.unit.marks u.unit.bytes ∷ l)
    (own_dts (is_same_next u us) place u.unit.dts two.0)
    (stay_from (next_place (is_same_next u us) place) us two.1)

pub apart_stay : ApartStay
apart_stay us none = stay_from 0 us none

-- 5. Stamps that can be moments

no_distance : (a w : ℕ) → a % 2 ^ 33 ≡ w % 2 ^ 33 → distance a w ≡ 0
unfolding distance
no_distance a w same = omega (arith, same)

pub not_true : (b : Bool) → (b ≡ true → ⊥) → b ≡ false
not_true true never = absurd (never refl)
not_true false never = refl

pub and_false : (b c : Bool) → c ≡ false → (b && c) ≡ false
and_false true c is = is
and_false false c is = refl

zero_test : (n : ℕ) → n ≡ 0 → (n == 0) ≡ true
zero_test n is = rw is refl

-- A DTS that rises differs from the DTS before it.
pub rises : (base : ℕ) (before : Option ℕ) (d e : ℕ) → dts_not_increasing base (Some (dts_at base before d)) e ≡ None → (e == d) ≡ false
unfolding dts_not_increasing
rises base before d e none =
    let at = dts_at base before d in
    let apart = test_none ((distance (at + base) e == 0) || nat_le (2 ^ 32) (distance (at + base) e)) (DtsNotIncreasing (distance e (at + base))) none in
    let some : (distance (at + base) e == 0) ≡ false = (or_false (distance (at + base) e == 0) (nat_le (2 ^ 32) (distance (at + base) e)) apart).0 in
    not_true (e == d) (λ same.
    let is : e ≡ d = same_number e d same in
    let shown : (at + base) % 2 ^ 33 ≡ e % 2 ^ 33 = shows_dts base before d ∙ ap (λ (n : ℕ). n % 2 ^ 33) (sym is) in
    let yes = zero_test (distance (at + base) e) (no_distance (at + base) e shown) in
    let no : ⊥ = cc in no)

next_rises : (limit base place : ℕ) (before : Option ℕ) (u : CarriedUnit) (us : List CarriedUnit) →
    first_fault limit base (Some (dts_at base before u.unit.dts)) place (map (λ x. x.unit) us) ≡ None → is_same_next u us ≡ false
unfolding is_same_next first_fault
next_rises limit base place before u [] none = refl
next_rises limit base place before u (v ∷ us) none =
    let at = Some (dts_at base before u.unit.dts) in
    let own = (place_none place (unit_fault limit base at v.unit) _ none).0 in
    let apart = (or_none (dts_not_increasing base at v.unit.dts) _ own).0 in
    and_false (u.stream_id == 0xBD) (v.unit.dts == u.unit.dts) (rises base before u.unit.dts v.unit.dts apart)

pub none_same : (limit base place : ℕ) (before : Option ℕ) (us : List CarriedUnit) → first_fault limit base before place (map (λ x. x.unit) us) ≡ None →
    has_same us ≡ false
unfolding first_fault has_same
none_same limit base place before [] none = refl
none_same limit base place before (u ∷ us) none =
    let later = (place_none place (unit_fault limit base before u.unit)
    (first_fault limit base (Some (dts_at base before u.unit.dts)) (place + 1) (map (λ x. x.unit) us)) none).1 in
    rw (next_rises limit base (place + 1) before u us later, none_same limit base (place + 1) (Some (dts_at base before u.unit.dts)) us later) refl

pub sound_stay : SoundStay
sound_stay limit base place us none = apart_stay us (none_same limit base place None us none)

-- 6. A row of units due at the same moment

-- The stamps of a row rise by one, and the stamp of unit n is 63 - n before its own DTS.
one_later : (n d : ℕ) → n < 63 → distance (distance (63 - n) d) (distance (63 - (n + 1)) d) ≡ 1
unfolding distance
one_later n d few = omega (arith, few)

to_own : (n d : ℕ) → n < 63 → distance (distance (63 - n) d) d ≡ 63 - n
unfolding distance
to_own n d few = omega (arith, few)

pub row_rises : RowRises
unfolding apart_by
row_rises place dts true few =
    let one = one_later place dts few in
    let own = to_own place dts few in
    (omega (arith, one), omega (arith, one), omega (arith, own))
row_rises place dts false few =
    let own = to_own place dts few in
    (omega (arith, own, few), omega (arith, own), omega (arith, own))
