-- Rounds of a table, and recurrence of the own slots' bytes
use Rattle.std.proofs.Common.{◌≡◌, ℕ, zero, suc, ◌+◌, ◌-◌, ◌*◌, ◌/◌, ◌%◌, ◌<◌, ◌≤◌, Bool, true, false, eqb, map, refl, ap, ◌∙◌, inl, inr, arith}
use Rattle.std.proofs.Math.Nat.{div-add-mod', add-zero}
use Rattle.std.proofs.lemmas.Nat.{mod_below, mod-mul-add}
use Rattle.std.proofs.lemmas.Bool.{cases_Bool, cases_lt, cond-true, eq-eqb}
use Rattle.clock27.specs.Recurrence.{Recur}
use Rattle.own_slots.specs.Slots.{own_before, AtLeastPerWindow, own_slots}
use Rattle.own_slots.specs.Rounds.{starts, RoundLaw, RecurrenceLaw, PcrLaw, TableLaw}
use Rattle.own_slots.proofs.Counts.{own_before_other, own_before_lt, own_before_le, before_from, number_of, Numbered}

-- ---- Rounds

record Next (k place a : ℕ) : Type 0 where
  number : ℕ
  from : a ≤ number
  near : number < a + k
  is_place : number % k ≡ place

-- Among k numbers in a row, one number is at the place.
next_place : (k place a : ℕ) → place < k → Next k place a
next_place k place a lt = elim (cases_lt place (a % k)) [
  | inl past ↦ record {
    number = (a / k + 1) * k + place;
    from = omega (arith, split, small);
    near = omega (arith, split, small, past);
    is_place =
        mod-mul-add (a / k + 1) k place lt;
  }
  | inr here ↦ record {
    number = a / k * k + place;
    from = omega (arith, split, here);
    near = omega (arith, split, small);
    is_place =
        mod-mul-add (a / k) k place lt;
  }
]
  where
    split : a / k * k + a % k ≡ a
    split = div-add-mod' a k

    small : a % k < k
    small = mod_below a k (omega arith)

is_start : (own : ℕ → Bool) (k place s n : ℕ) → own s ≡ true → own_before own s ≡ n → n % k ≡ place → starts own k place s ≡ true
is_start own k place s n y e p = cond-true (own s) (eqb (own_before own s % k) place) false y
    ∙ eq-eqb (own_before own s % k) place (ap (λ (v : ℕ). v % k) e ∙ p)

pub round_law : RoundLaw
round_law own k place g lt serves s =
    let n : Next k place (own_before own s) = next_place k place (own_before own s) lt in
    let r : Numbered own n.number (s + g) = number_of own (s + g) n.number (omega (arith, serves s, n.near)) in
    let after : s ≤ r.slot = from s r.slot r.is_own (omega (arith, r.number, n.from)) in
    omega (
      arith,
      own_before_lt (starts own k place) r.slot (s + g) (is_start own k place r.slot n.number r.is_own r.number n.is_place) r.before,
      own_before_le (starts own k place) s r.slot after,
    )
  where
    from : (s t : ℕ) → own t ≡ true → own_before own s ≤ own_before own t → s ≤ t
    from s t y le = elim (cases_lt t s) [ inl k ↦ absurd (omega (arith, own_before_lt own t s y k)) | inr k ↦ k ]

-- ---- Recurrence

-- The bytes recur from slot s on, if the last byte before s is at `before` and no own slot lies from slot b to s.
recur_from : (own : ℕ → Bool) (g offset rate limit : ℕ) → AtLeastPerWindow own g 1 → g * 1504000 ≤ limit * rate → (n s b before : ℕ) →
    b ≤ s → own_before own s ≡ own_before own b → 188 * b + offset ≤ before + 188 →
    Recur rate limit before (map (λ t. 188 * t + offset) (own_slots own s n)) (188 * (s + n))
unfolding Recur own_slots
recur_from own g offset rate limit serves fast zero s b before le none last =
    let near : s < b + g = before_from own s (b + g) (omega (arith, serves b)) in omega (arith, near)
recur_from own g offset rate limit serves fast (suc n) s b before le none last =
    let e : 188 * (s + suc n) ≡ 188 * (suc s + n) = omega arith in
    elim (cases_Bool (own s)) [
      | inl y ↦ rw (e, y) (here, recur_from own g offset rate limit serves fast n (suc s) (suc s) (188 * s + offset) (omega arith) refl (omega arith))
      | inr o ↦ rw (e, o) (recur_from own g offset rate limit serves fast n (suc s) b before (omega arith) (own_before_other own s o ∙ none) last)
    ]
  where
    here : ((188 * s + offset) - before) * 8000 ≤ limit * rate
    here = let near : s < b + g = before_from own s (b + g) (omega (arith, serves b)) in omega (arith, near)

pub recurrence_law : RecurrenceLaw
recurrence_law own g offset rate limit slots serves small fast =
    let e : 188 * slots ≡ 188 * (0 + slots) = omega arith in
    rw e (recur_from own g offset rate limit serves fast slots 0 0 0 (omega arith) refl (omega arith))

pub pcr_law : PcrLaw
pcr_law own g rate limit slots serves fast = recurrence_law own g 10 rate limit slots serves (omega arith) fast

pub table_law : TableLaw
table_law own k place g rate limit slots lt serves fast =
    simp add-zero at (recurrence_law (starts own k place) g 0 rate limit slots (round_law own k place g lt serves) (omega arith) fast)
