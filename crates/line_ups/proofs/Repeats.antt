-- A list that is repeated, in a longer period that repeats it.
use Rattle.std.proofs.Common.{◌≡◌, ℕ, zero, suc, ◌+◌, ◌*◌, ◌/◌, ◌%◌, ◌<◌, ◌≤◌, ◌==◌, ◌&&◌, ◌||◌, nat_lt, max, Bool, true, List, length, slice_index_or, sym, ap, ◌∙◌, arith}
use Rattle.std.proofs.Common.{inl, inr, ltb-true, eqb-true}
use Rattle.std.proofs.lemmas.Bool.{and_parts, cases_Bool}
use Rattle.std.proofs.Math.Nat.{add-mul-mod_self_right, div-add-mod'}
use Rattle.std.proofs.lemmas.Nat.{mod_below}
use Rattle.slot_plan.specs.declared.slot.Slot.{Slot}
use Rattle.slot_plan.specs.declared.slot.Slot.TheVariants.{Null}
use Rattle.slot_plan.specs.Schedule.{repeated}
use Rattle.line_ups.specs.Faults.{divides}

spread : (a x c : ℕ) → (a + x) * c ≡ a * c + x * c
spread a x zero = omega arith
spread a x (suc c) = omega (arith, spread a x c)

grouped : (d x n : ℕ) → d * (x * n) ≡ d * x * n
grouped zero x n = omega arith
grouped (suc d) x n = omega (arith, grouped d x n, spread (d * x) x n)

-- slot s of a repeated period is the slot of the same place in a longer period that repeats it
again : (slots : List Slot) (period x s : ℕ) → period ≡ x * length slots → repeated slots s ≡ repeated slots (s % period)
again slots period x s e =
    let whole : s / period * period ≡ s / period * x * length slots = ap (λ (v : ℕ). s / period * v) e ∙ grouped (s / period) x (length slots) in
    let split : s ≡ s % period + s / period * x * length slots = omega (arith, div-add-mod' s period, whole) in
    let same : s % length slots ≡ s % period % length slots =
    ap (λ (v : ℕ). v % length slots) split ∙ add-mul-mod_self_right (s % period) (s / period * x) (length slots) in
    ap (λ (v : ℕ). slice_index_or slots v Null) same

-- a period of which two are parts
pub record Common (one other period : ℕ) : Type 0 where
  pub x : ℕ
  pub y : ℕ
  pub some : 0 < period
  pub first : period ≡ x * one
  pub second : period ≡ y * other

multiple_more : (q n m : ℕ) → m ≡ q * n → 0 < m → n ≤ m
multiple_more zero n m e some = absurd (omega (arith, e, some))
multiple_more (suc q) n m e some = let f : (q + 1) * n ≡ q * n + 1 * n = spread q 1 n in omega (arith, e, f)

whole : (one other : ℕ) → 0 < one → one % other ≡ 0 → one ≡ one / other * other
whole one other some z = omega (arith, div-add-mod' one other, z)

in_common : (one other : ℕ) → 0 < one → 0 < other → (one % other ≡ 0) → Common one other (max one other)
in_common one other some more z =
    let e = whole one other some z in
    let le : other ≤ one = multiple_more (one / other) other one e some in
    record { x = 1; y = one / other; some = omega (arith, some); first = omega (arith, le); second = omega (arith, le, e) }

common_turned : (one other : ℕ) → Common other one (max other one) → Common one other (max one other)
common_turned one other c =
    let e : max one other ≡ max other one = omega arith in
    record { x = c.y; y = c.x; some = omega (arith, c.some, e); first = e ∙ c.second; second = e ∙ c.first }

pub common : (one other : ℕ) → divides one other ≡ true → Common one other (max one other)
common one other h =
    let both = and_parts (nat_lt 0 one && nat_lt 0 other) ((one % other == 0) || (other % one == 0)) h in
    let sizes = and_parts (nat_lt 0 one) (nat_lt 0 other) both.0 in
    elim (cases_Bool (one % other == 0)) [
      | inl y ↦ in_common one other (ltb-true 0 one sizes.0) (ltb-true 0 other sizes.1) (eqb-true (one % other) 0 y)
      | inr n ↦
          let y : (other % one == 0) ≡ true = sym (ap (λ (b : Bool). b || (other % one == 0)) n) ∙ both.1 in
          common_turned one other (in_common other one (ltb-true 0 other sizes.1) (ltb-true 0 one sizes.0) (eqb-true (other % one) 0 y))
    ]

-- Two repeated plans that agree in one common period agree for ever.
pub all_time : (old new : List Slot) (f g : Slot → Bool) (s : ℕ) → Common (length old) (length new) (max (length old) (length new)) →
    ((t : ℕ) → t < max (length old) (length new) → f (repeated old t) ≡ g (repeated new t)) → f (repeated old s) ≡ g (repeated new s)
all_time old new f g s c same =
    let period : ℕ = max (length old) (length new) in
    ap f (again old period c.x s c.first) ∙ same (s % period) (mod_below s period c.some) ∙ sym (ap g (again new period c.y s c.second))
