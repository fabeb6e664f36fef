-- The bounds of a slot with twice as many windows join the bounds of its halves.
use Rattle.std.proofs.Common.{◌≡◌, ◌≢◌, ◌∙◌, ℕ, ◌+◌, ◌-◌, ◌*◌, ◌/◌, ◌^◌, ◌==◌, min, max, Bool, true, false, List, [], ◌∷◌, Option, Some, None, refl, sym, ap}
use Rattle.std.proofs.Common.{ap₂, arith}
use Rattle.std.proofs.lemmas.Bool.Decides.{nat_tests}
use Rattle.std.proofs.Math.Nat.{div-div-eq-div-mul, mul_comm}
use Rattle.page_curves.specs.declared.bounds.Bounds.{Bounds}
use Rattle.page_curves.specs.Bounds.{both, joined, value_if}
use Rattle.page_curves.specs.Curves.{Sample, bounds_in}

pub equal : (a b : ℕ) → (a == b) ≡ true → a ≡ b
equal a b e = grind (arith, nat_tests)

pub unequal : (a b : ℕ) → (a == b) ≡ false → a ≢ b
unequal a b e = grind (arith, nat_tests)

count_assoc : (x y z m : ℕ) → min (min (x + y) m + z) m ≡ min (x + min (y + z) m) m
count_assoc x y z m = omega arith

min_assoc : (x y z : ℕ) → min (min x y) z ≡ min x (min y z)
min_assoc x y z = omega arith

max_assoc : (x y z : ℕ) → max (max x y) z ≡ max x (max y z)
max_assoc x y z = omega arith

same_bounds : (c c' l l' g g' : ℕ) → c ≡ c' → l ≡ l' → g ≡ g' →
    (λ (x y z : ℕ). let b : Bounds = record { count = x; least = y; greatest = z } in b) c l g ≡
    (λ (x y z : ℕ). let b : Bounds = record { count = x; least = y; greatest = z } in b) c' l' g'
same_bounds c c' l l' g g' p q r = rw (p, q, r) refl

both_assoc : (a b c : Bounds) → both (both a b) c ≡ both a (both b c)
both_assoc a b c =
    same_bounds (min (min (a.count + b.count) (2 ^ 64 - 1) + c.count) (2 ^ 64 - 1)) (min (a.count + min (b.count + c.count) (2 ^ 64 - 1)) (2 ^ 64 - 1))
    (min (min a.least b.least) c.least) (min a.least (min b.least c.least)) (max (max a.greatest b.greatest) c.greatest)
    (max a.greatest (max b.greatest c.greatest))
    (count_assoc a.count b.count c.count (2 ^ 64 - 1)) (min_assoc a.least b.least c.least) (max_assoc a.greatest b.greatest c.greatest)

sum_comm : (x y m : ℕ) → min (x + y) m ≡ min (y + x) m
sum_comm x y m = omega arith

min_comm : (x y : ℕ) → min x y ≡ min y x
min_comm x y = omega arith

max_comm : (x y : ℕ) → max x y ≡ max y x
max_comm x y = omega arith

both_comm : (a b : Bounds) → both a b ≡ both b a
both_comm a b = same_bounds (min (a.count + b.count) (2 ^ 64 - 1)) (min (b.count + a.count) (2 ^ 64 - 1)) (min a.least b.least) (min b.least a.least)
    (max a.greatest b.greatest) (max b.greatest a.greatest) (sum_comm a.count b.count (2 ^ 64 - 1)) (min_comm a.least b.least) (max_comm a.greatest b.greatest)

joined_assoc : (a b c : Option Bounds) → joined (joined a b) c ≡ joined a (joined b c)
unfolding joined
joined_assoc None b c = refl
joined_assoc (Some a) None c = refl
joined_assoc (Some a) (Some b) None = refl
joined_assoc (Some a) (Some b) (Some c) = ap (λ (x : Bounds). Some x) (both_assoc a b c)

joined_comm : (a b : Option Bounds) → joined a b ≡ joined b a
unfolding joined
joined_comm None None = refl
joined_comm None (Some b) = refl
joined_comm (Some a) None = refl
joined_comm (Some a) (Some b) = ap (λ (x : Bounds). Some x) (both_comm a b)

joined_across : (a b c d : Option Bounds) → joined (joined a b) (joined c d) ≡ joined (joined a c) (joined b d)
joined_across a b c d =
    joined_assoc a b (joined c d)
    ∙ ap (joined a) (sym (joined_assoc b c d) ∙ ap (λ (x : Option Bounds). joined x d) (joined_comm b c) ∙ joined_assoc c b d)
    ∙ sym (joined_assoc a c (joined b d))

-- A window of a slot is in its first or in its second half.
value_halved : (q slot v : ℕ) → value_if (q / 2 == slot) v ≡ joined (value_if (q == 2 * slot) v) (value_if (q == 2 * slot + 1) v)
unfolding joined
value_halved q slot v = by (q / 2 == slot) (q == 2 * slot) (q == 2 * slot + 1) refl refl refl
  where
    by : (s t u : Bool) → (q / 2 == slot) ≡ s → (q == 2 * slot) ≡ t → (q == 2 * slot + 1) ≡ u → value_if s v ≡ joined (value_if t v) (value_if u v)
    by true true false a b c = refl
    by true false true a b c = refl
    by false false false a b c = refl
    by true true true a b c = absurd (omega (arith, equal q (2 * slot) b, equal q (2 * slot + 1) c))
    by true false false a b c = absurd (omega (arith, equal (q / 2) slot a, unequal q (2 * slot) b, unequal q (2 * slot + 1) c))
    by false true true a b c = absurd (omega (arith, equal q (2 * slot) b, equal q (2 * slot + 1) c))
    by false true false a b c = absurd (omega (arith, unequal (q / 2) slot a, equal q (2 * slot) b))
    by false false true a b c = absurd (omega (arith, unequal (q / 2) slot a, equal q (2 * slot + 1) c))

pub quotient : (n span : ℕ) → n / (2 * span) ≡ n / span / 2
quotient n span = ap (λ (d : ℕ). n / d) (mul_comm 2 span) ∙ sym (div-div-eq-div-mul n span 2)

pub merged : (span slot : ℕ) (xs : List Sample) → bounds_in (2 * span) slot xs ≡ joined (bounds_in span (2 * slot) xs) (bounds_in span (2 * slot + 1) xs)
unfolding bounds_in joined
merged span slot [] = refl
merged span slot (x ∷ xs) =
    ap (λ (q : ℕ). joined (value_if (q == slot) x.value) (bounds_in (2 * span) slot xs)) (quotient x.number span)
    ∙ ap₂ joined (value_halved (x.number / span) slot x.value) (merged span slot xs)
    ∙ joined_across (value_if (x.number / span == 2 * slot) x.value) (value_if (x.number / span == 2 * slot + 1) x.value) (bounds_in span (2 * slot) xs)
    (bounds_in span (2 * slot + 1) xs)
