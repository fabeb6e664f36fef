-- The records of each stream at the end, if no fault is reported.
use Rattle.std.proofs.Common.{◌≡◌, ◌≢◌, ◌∙◌, ◌<◌, ℕ, zero, suc, ◌+◌, ◌++◌, false, Some, List, [], ◌∷◌, map, slice_get, refl, sym, ap, subst, arith}
use Rattle.std.specs.Option.{option_to_list}
use Rattle.std.proofs.lemmas.Grind.{flat_map-append}
use Rattle.std.proofs.lemmas.List.{append-nil}
use Rattle.pes_packet.specs.AccessUnits.{AccessUnit}
use Rattle.es_moments.specs.Stamps.{moved}
use Rattle.es_units.specs.UnitSteps.{ended_unit}
use Rattle.es_units.proofs.ApartSteps.{Soon}
use Rattle.es_feed.specs.EachStream.{fed_if, have_fault, units_fed}
use Rattle.fed_streams.specs.Feeding.{FedStreamView, fed_by, fed_last, origin_after}
use Rattle.fed_streams.specs.declared.due.Due.{Due}
use Rattle.fed_streams.specs.declared.origin.Origin.{Origin}
use Rattle.es_feed.proofs.GivenSoon.{given_soon}
use Rattle.es_feed.proofs.OneStream.{fixed}
use Rattle.es_feed.proofs.FedSteps.{fault_split, fixes_fixed, given_others, given_units, units_in}
use Rattle.es_moments.specs.WireUnits.{CarriedUnit}

-- The last unit of each stream, in the order of the streams

abbrev pub units_of_all : List CarriedUnit → List AccessUnit
units_of_all ws = map (λ (w : CarriedUnit). w.unit) ws

unfoldable pub AreFrom : ℕ → List FedStreamView → Type 0
AreFrom k ss = (i : ℕ) (t : FedStreamView) → slice_get ss i ≡ Some t → t.number ≡ k + i

from_next : (k : ℕ) (t : FedStreamView) (ts : List FedStreamView) → AreFrom k (t ∷ ts) → AreFrom (k + 1) ts
unfolding AreFrom
from_next k t ts from i u at = let there = from (suc i) u at in omega (arith, there)

from_head : (k : ℕ) (t : FedStreamView) (ts : List FedStreamView) → AreFrom k (t ∷ ts) → t.number ≡ k
unfolding AreFrom
from_head k t ts from = let here = from zero t refl in omega (arith, here)

not_less : (n k number : ℕ) → number ≡ k → n < k → n ≢ number
not_less n k number is below same = let no : ⊥ = omega (arith, is, below, same) in no

last_none : (d : Due) (base k n : ℕ) (ss : List FedStreamView) → AreFrom k ss → n < k → units_fed n (fed_last d (fixed base) ss) ≡ []
unfolding fed_last
last_none d base k n [] from below = refl
last_none d base k n (t ∷ ts) from below =
    let w = ended_unit false t.units.unit in
    let one = option_to_list (fed_by d (fixed base) t w) in
    flat_map-append (fed_if n) one (fed_last d (origin_after d (fixed base) w) ts)
    ∙ ap (λ (us : List AccessUnit). us ++ units_fed n (fed_last d (origin_after d (fixed base) w) ts))
    (given_others d (fixed base) t.number n t.before w (not_less n k t.number (from_head k t ts from) below))
    ∙ ap (λ (o : Origin). units_fed n (fed_last d o ts)) (fixes_fixed d (fixed base) w base refl).then_fixed
    ∙ last_none d base (k + 1) n ts (from_next k t ts from) (omega (arith, below))

last_own : (d : Due) (base k : ℕ) (t : FedStreamView) (ts : List FedStreamView) → AreFrom k (t ∷ ts) → have_fault (fed_last d (fixed base) (t ∷ ts)) ≡ false →
    units_fed t.number (fed_last d (fixed base) (t ∷ ts)) ≡ moved base t.before (units_in (ended_unit false t.units.unit))
unfolding fed_last
last_own d base k t ts from none =
    let w = ended_unit false t.units.unit in
    let one = option_to_list (fed_by d (fixed base) t w) in
    let rest = fed_last d (origin_after d (fixed base) w) ts in
    let fixes = fixes_fixed d (fixed base) w base refl in
    let number = from_head k t ts from in
    let own = moved base t.before (units_in w) in
    flat_map-append (fed_if t.number) one rest
    ∙ ap (λ (us : List AccessUnit). us ++ units_fed t.number rest)
    (given_units d (fixed base) t.number base t.before w fixes.here (fault_split one rest none).0)
    ∙ ap (λ (o : Origin). own ++ units_fed t.number (fed_last d o ts)) fixes.then_fixed
    ∙ ap (λ (us : List AccessUnit). own ++ us) (last_none d base (k + 1) t.number ts (from_next k t ts from) (omega (arith, number)))
    ∙ append-nil own

last_later : (d : Due) (base k i : ℕ) (t : FedStreamView) (ts : List FedStreamView) (us : List AccessUnit) → AreFrom k (t ∷ ts) →
    have_fault (fed_last d (fixed base) (t ∷ ts)) ≡ false →
    (have_fault (fed_last d (fixed base) ts) ≡ false → units_fed ((k + 1) + i) (fed_last d (fixed base) ts) ≡ us) →
    units_fed (k + suc i) (fed_last d (fixed base) (t ∷ ts)) ≡ us
unfolding fed_last
last_later d base k i t ts us from none rest_is =
    let w = ended_unit false t.units.unit in
    let one = option_to_list (fed_by d (fixed base) t w) in
    let rest = fed_last d (origin_after d (fixed base) w) ts in
    let fixes = fixes_fixed d (fixed base) w base refl in
    let number = from_head k t ts from in
    let n : k + suc i ≡ (k + 1) + i = omega arith in
    let clear : have_fault (fed_last d (fixed base) ts) ≡ false = ap (λ (o : Origin). have_fault (fed_last d o ts)) (sym fixes.then_fixed)
    ∙ (fault_split one rest none).1 in
    flat_map-append (fed_if (k + suc i)) one rest
    ∙ ap (λ (us : List AccessUnit). us ++ units_fed (k + suc i) rest)
    (given_others d (fixed base) t.number (k + suc i) t.before w (λ same. let no : ⊥ = omega (arith, same, number) in no))
    ∙ ap (λ (o : Origin). units_fed (k + suc i) (fed_last d o ts)) fixes.then_fixed
    ∙ ap (λ (m : ℕ). units_fed m (fed_last d (fixed base) ts)) n
    ∙ rest_is clear

pub last_moved : (d : Due) (base k i : ℕ) (ss : List FedStreamView) (s : FedStreamView) → AreFrom k ss → slice_get ss i ≡ Some s →
    have_fault (fed_last d (fixed base) ss) ≡ false →
    units_fed (k + i) (fed_last d (fixed base) ss) ≡ moved base s.before (units_in (ended_unit false s.units.unit))
last_moved d base k i [] s from at none = absurd cc
last_moved d base k zero (t ∷ ts) s from at none =
    let same : t ≡ s = cc in
    let n : k + 0 ≡ t.number = let number = from_head k t ts from in omega (arith, number) in
    ap (λ (n : ℕ). units_fed n (fed_last d (fixed base) (t ∷ ts))) n ∙ last_own d base k t ts from none
    ∙ ap (λ (x : FedStreamView). moved base x.before (units_in (ended_unit false x.units.unit))) same
last_moved d base k (suc i) (t ∷ ts) s from at none =
    last_later d base k i t ts (moved base s.before (units_in (ended_unit false s.units.unit))) from none
    (λ clear. last_moved d base (k + 1) i ts s (from_next k t ts from) at clear)

-- The last unit can be due at a moment after the units before it.
pub last_soon : (d : Due) (base i : ℕ) (ss : List FedStreamView) (s : FedStreamView) → slice_get ss i ≡ Some s →
    have_fault (fed_last d (fixed base) ss) ≡ false →
    Soon base s.before (option_to_list (ended_unit false s.units.unit))
unfolding fed_last
last_soon d base i [] s at none = absurd cc
last_soon d base zero (t ∷ ts) s at none =
    let same : t ≡ s = cc in
    let w = ended_unit false t.units.unit in
    let two = fault_split (option_to_list (fed_by d (fixed base) t w)) (fed_last d (origin_after d (fixed base) w) ts) none in
    subst (λ (x : FedStreamView). Soon base x.before (option_to_list (ended_unit false x.units.unit))) same
    (given_soon d (fixed base) t.number base t.before w (fixes_fixed d (fixed base) w base refl).here two.0)
last_soon d base (suc i) (t ∷ ts) s at none =
    let w = ended_unit false t.units.unit in
    let two = fault_split (option_to_list (fed_by d (fixed base) t w)) (fed_last d (origin_after d (fixed base) w) ts) none in
    last_soon d base i ts s at
    (ap (λ (o : Origin). have_fault (fed_last d o ts)) (sym (fixes_fixed d (fixed base) w base refl).then_fixed) ∙ two.1)
