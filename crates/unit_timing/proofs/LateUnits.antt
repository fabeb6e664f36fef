-- No unit is found late exactly if each due unit has left in time.
use Rattle.std.proofs.Common.{◌≡◌, ℕ, suc, ◌*◌, ◌≤◌, Bool, true, false, cond, nat_le, ◌&&◌, not, Option, Some, None, List, [], ◌∷◌, length, take, drop, refl}
use Rattle.std.proofs.Common.{inl, inr, All}
use Rattle.std.specs.List.{list_all}
use Rattle.std.proofs.lemmas.Bool.{cases_Bool, leb-true, le-leb, and_parts, and_from}
use Rattle.std.proofs.lemmas.List.Elements.{All-nil, All-cons, All-head, All-tail}
use Rattle.unit_timing.specs.PesPacket.{PesPacket}
use Rattle.unit_timing.specs.Arrived.{is_due, has_left, AllLeft, first_late, LateLaw}

passes : (limit : ℕ) (ds : List ℕ) → All (λ d. d * 720000 ≤ limit) ds → list_all (λ d. nat_le (d * 720000) limit) ds ≡ true
passes limit [] all = refl
passes limit (d ∷ ds) all =
    rw (le-leb (d * 720000) limit (All-head (λ d. d * 720000 ≤ limit) d ds all)) (passes limit ds (All-tail (λ d. d * 720000 ≤ limit) d ds all))

own_before_all : (limit : ℕ) (ds : List ℕ) → list_all (λ d. nat_le (d * 720000) limit) ds ≡ true → All (λ d. d * 720000 ≤ limit) ds
own_before_all limit [] e = All-nil (λ d. d * 720000 ≤ limit)
own_before_all limit (d ∷ ds) e =
    let parts = and_parts (nat_le (d * 720000) limit) (list_all (λ d. nat_le (d * 720000) limit) ds) e in
    All-cons (λ d. d * 720000 ≤ limit) d ds (leb-true (d * 720000) limit parts.0) (own_before_all limit ds parts.1)

none_late : (rate r n number : ℕ) (units : List PesPacket) (left : List ℕ) → AllLeft rate r n units left → first_late rate r n number units left ≡ None
unfolding AllLeft first_late
none_late rate r n number [] left all = refl
none_late rate r n number (unit ∷ units) left all = elim (cases_Bool (is_due rate n unit)) [
  | inl due ↦
      let has = all.0 (leb-true (unit.dts * rate) (n * 135360000) due) in
      let is : has_left rate r unit left ≡ true =
      and_from _ _ (le-leb unit.size (length left) has.0) (passes (unit.dts * rate * r) (take unit.size left) has.1) in
      rw (due, is) (none_late rate r n (suc number) units (drop unit.size left) all.1)
  | inr later ↦ rw later (none_late rate r n (suc number) units (drop unit.size left) all.1)
]

due_left : (rate r n number : ℕ) (unit : PesPacket) (left : List ℕ) (rest : Option ℕ) →
    cond (is_due rate n unit && not (has_left rate r unit left)) (Some number) rest ≡ None → unit.dts * rate ≤ n * 135360000 →
    (unit.size ≤ length left) × All (λ d. d * 720000 ≤ unit.dts * rate * r) (take unit.size left)
due_left rate r n number unit left rest e due = elim (cases_Bool (has_left rate r unit left)) [
  | inl is ↦
      let parts = and_parts (nat_le unit.size (length left)) (list_all (λ d. nat_le (d * 720000) (unit.dts * rate * r)) (take unit.size left)) is in
      (leb-true unit.size (length left) parts.0, own_before_all (unit.dts * rate * r) (take unit.size left) parts.1)
  | inr late ↦ let bad = rw (le-leb (unit.dts * rate) (n * 135360000) due, late) at e in absurd (let no : ⊥ = cc in no)
]

rest_none : (b : Bool) (number : ℕ) (rest : Option ℕ) → cond b (Some number) rest ≡ None → rest ≡ None
rest_none true number rest e = cc
rest_none false number rest e = e

all_left : (rate r n number : ℕ) (units : List PesPacket) (left : List ℕ) → first_late rate r n number units left ≡ None → AllLeft rate r n units left
unfolding AllLeft first_late
all_left rate r n number [] left e = tt
all_left rate r n number (unit ∷ units) left e = (
  due_left rate r n number unit left _ e,
  all_left rate r n (suc number) units (drop unit.size left) (rest_none (is_due rate n unit && not (has_left rate r unit left)) number _ e),
)

pub late_law : LateLaw
late_law = record { none_late = none_late; all_left = all_left }
