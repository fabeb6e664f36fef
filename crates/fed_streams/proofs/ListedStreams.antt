-- Streams of a list, by their places
use Rattle.std.proofs.Common.{◌≡◌, ◌≢◌, ◌∙◌, ℕ, zero, suc, ◌+◌, Bool, true, false, if◌then◌else◌, Option, Some, None, List, [], ◌∷◌, map, slice_get, slice_set}
use Rattle.std.proofs.Common.{refl, sym, ap, subst, arith}
use Rattle.std.proofs.lemmas.Option.{slice_get-map}
use Rattle.std.specs.Prelude.{option_map}
use Rattle.demux.specs.Laws.{has_pid}
use Rattle.fed_streams.specs.declared.origin.Origin.{Origin}
use Rattle.fed_streams.specs.Feeding.{FedStreamView, place_from}
use Rattle.fed_streams.specs.Ticks.{is_passed, passed_from}

-- 1. A stream that is written

pub get_set_same : (ss : List FedStreamView) (j : ℕ) (s t : FedStreamView) → slice_get ss j ≡ Some s → slice_get (slice_set ss j t) j ≡ Some t
get_set_same [] j s t at = absurd cc
get_set_same (x ∷ xs) zero s t at = refl
get_set_same (x ∷ xs) (suc j) s t at = get_set_same xs j s t at

pub get_set_other : (ss : List FedStreamView) (j k : ℕ) (t : FedStreamView) → k ≢ j → slice_get (slice_set ss j t) k ≡ slice_get ss k
get_set_other [] j k t other = refl
get_set_other (x ∷ xs) zero zero t other = absurd (other refl)
get_set_other (x ∷ xs) zero (suc k) t other = refl
get_set_other (x ∷ xs) (suc j) zero t other = refl
get_set_other (x ∷ xs) (suc j) (suc k) t other = get_set_other xs j k t (λ e. other (ap suc e))

-- 2. The number and the PID of a stream stay the same

pub record Key : Type 0 where
  pub number : ℕ
  pub pid : ℕ

abbrev pub key : FedStreamView → Key
key s = record { number = s.number; pid = s.units.pid }

abbrev pub keys : List FedStreamView → List Key
keys ss = map key ss

pub set_keys : (ss : List FedStreamView) (j : ℕ) (s t : FedStreamView) → slice_get ss j ≡ Some s → key t ≡ key s → keys (slice_set ss j t) ≡ keys ss
set_keys [] j s t at same = refl
set_keys (x ∷ xs) zero s t at same = let is : x ≡ s = cc in ap (λ (k : Key). k ∷ keys xs) (same ∙ ap key (sym is))
set_keys (x ∷ xs) (suc j) s t at same = ap (λ (ks : List Key). key x ∷ ks) (set_keys xs j s t at same)

pub key_at : (ss : List FedStreamView) (k : ℕ) (s : FedStreamView) → slice_get ss k ≡ Some s → slice_get (keys ss) k ≡ Some (key s)
key_at ss k s at = slice_get-map key ss k ∙ ap (λ (o : Option FedStreamView). option_map key o) at

-- The streams are numbered by their places, and each has a PID of its own.
pub record AreKeys (ks : List Key) : Type 0 where
  pub number : (k : ℕ) (x : Key) → slice_get ks k ≡ Some x → x.number ≡ k
  pub own : (j k : ℕ) (x y : Key) → slice_get ks j ≡ Some x → slice_get ks k ≡ Some y → x.pid ≡ y.pid → j ≡ k

-- 3. The stream of a PID

pub record Placed (pid : Option ℕ) (k j : ℕ) (ss : List FedStreamView) : Type 0 where
  pub place : ℕ
  pub stream : FedStreamView
  pub at : slice_get ss place ≡ Some stream
  pub is : j ≡ k + place
  pub has : has_pid stream.units.pid pid ≡ true

later_place : (pid : Option ℕ) (k j : ℕ) (s : FedStreamView) (ss : List FedStreamView) → Placed pid (k + 1) j ss → Placed pid k j (s ∷ ss)
later_place pid k j s ss p = record { place = suc p.place; stream = p.stream; at = p.at; is = omega (arith, p.is); has = p.has }

placed_if : (pid : Option ℕ) (k j : ℕ) (s : FedStreamView) (ss : List FedStreamView) (own : Bool) → has_pid s.units.pid pid ≡ own →
    (place_from pid (k + 1) ss ≡ Some j → Placed pid (k + 1) j ss) → (if own then Some k else place_from pid (k + 1) ss) ≡ Some j → Placed pid k j (s ∷ ss)
placed_if pid k j s ss true has later is = record { place = zero; stream = s; at = refl; is = let same : k ≡ j = cc in omega (arith, same); has = has }
placed_if pid k j s ss false has later is = later_place pid k j s ss (later is)

placed_from : (pid : Option ℕ) (k j : ℕ) (ss : List FedStreamView) → place_from pid k ss ≡ Some j → Placed pid k j ss
unfolding place_from
placed_from pid k j [] is = absurd cc
placed_from pid k j (s ∷ ss) is = placed_if pid k j s ss (has_pid s.units.pid pid) refl (λ e. placed_from pid (k + 1) j ss e) is

pub record PlacedAt (pid : Option ℕ) (j : ℕ) (ss : List FedStreamView) : Type 0 where
  pub stream : FedStreamView
  pub at : slice_get ss j ≡ Some stream
  pub has : has_pid stream.units.pid pid ≡ true

pub placed : (pid : Option ℕ) (j : ℕ) (ss : List FedStreamView) → place_from pid 0 ss ≡ Some j → PlacedAt pid j ss
placed pid j ss is =
    let p = placed_from pid 0 j ss is in
    let same : j ≡ p.place = omega (arith, p.is) in
    record { stream = p.stream; at = subst (λ i. slice_get ss i ≡ Some p.stream) (sym same) p.at; has = p.has }

-- If no place is found for a PID, no stream has this PID.
none_if : (pid : Option ℕ) (k i : ℕ) (s t : FedStreamView) (ss : List FedStreamView) (own : Bool) → has_pid s.units.pid pid ≡ own →
    ((i : ℕ) → place_from pid (k + 1) ss ≡ None → slice_get ss i ≡ Some t → has_pid t.units.pid pid ≡ false) →
    (if own then Some k else place_from pid (k + 1) ss) ≡ None → slice_get (s ∷ ss) i ≡ Some t → has_pid t.units.pid pid ≡ false
none_if pid k i s t ss true has later none at = absurd cc
none_if pid k zero s t ss false has later none at = let same : s ≡ t = cc in subst (λ x. has_pid x.units.pid pid ≡ false) same has
none_if pid k (suc i) s t ss false has later none at = later i none at

pub not_placed : (pid : Option ℕ) (k i : ℕ) (t : FedStreamView) (ss : List FedStreamView) → place_from pid k ss ≡ None → slice_get ss i ≡ Some t →
    has_pid t.units.pid pid ≡ false
unfolding place_from
not_placed pid k i t [] none at = absurd cc
not_placed pid k i t (s ∷ ss) none at = none_if pid k i s t ss (has_pid s.units.pid pid) refl (λ i none at. not_placed pid (k + 1) i t ss none at) none at

-- 4. A stream whose current unit is passed

pub record Passed (o : Origin) (late k j : ℕ) (ss : List FedStreamView) : Type 0 where
  pub place : ℕ
  pub stream : FedStreamView
  pub at : slice_get ss place ≡ Some stream
  pub is : j ≡ k + place
  pub due : is_passed o late stream ≡ true

passed_if : (o : Origin) (late k j : ℕ) (s : FedStreamView) (ss : List FedStreamView) (own : Bool) → is_passed o late s ≡ own →
    (passed_from o late (k + 1) ss ≡ Some j → Passed o late (k + 1) j ss) → (if own then Some k else passed_from o late (k + 1) ss) ≡ Some j →
    Passed o late k j (s ∷ ss)
passed_if o late k j s ss true due later is =
    record { place = zero; stream = s; at = refl; is = let same : k ≡ j = cc in omega (arith, same); due = due }
passed_if o late k j s ss false due later is =
    let p = later is in record { place = suc p.place; stream = p.stream; at = p.at; is = omega (arith, p.is); due = p.due }

passed_first : (o : Origin) (late k j : ℕ) (ss : List FedStreamView) → passed_from o late k ss ≡ Some j → Passed o late k j ss
unfolding passed_from
passed_first o late k j [] is = absurd cc
passed_first o late k j (s ∷ ss) is = passed_if o late k j s ss (is_passed o late s) refl (λ e. passed_first o late (k + 1) j ss e) is

pub passed_due : (o : Origin) (late j : ℕ) (ss : List FedStreamView) → passed_from o late 0 ss ≡ Some j →
    (s : FedStreamView) × (slice_get ss j ≡ Some s) × (is_passed o late s ≡ true)
passed_due o late j ss is =
    let p = passed_first o late 0 j ss is in
    let same : j ≡ p.place = omega (arith, p.is) in
    (p.stream, subst (λ i. slice_get ss i ≡ Some p.stream) (sym same) p.at, p.due)

pub passed : (o : Origin) (late j : ℕ) (ss : List FedStreamView) → passed_from o late 0 ss ≡ Some j → (s : FedStreamView) × (slice_get ss j ≡ Some s)
passed o late j ss is = let s = passed_due o late j ss is in (s.0, s.1)
