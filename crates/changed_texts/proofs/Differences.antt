-- Lists without a difference
use Rattle.std.proofs.Common.{◌≡◌, ℕ, zero, suc, ◌+◌, ◌<◌, ◌≤◌, max, not, Bool, true, false, cond, List, [], ◌∷◌, length, map, Option, None, Some, refl}
use Rattle.std.proofs.Common.{find, slice_get, ap₂, subst, arith}
use Rattle.std.specs.List.{range_with_len}
use Rattle.changed_texts.specs.Fixed.{is_same_option, first_difference}

not_false : (b : Bool) → not b ≡ false → b ≡ true
not_false true h = refl
not_false false h = absurd (cc)

-- A search that finds nothing: no element passes.
passed_over : (b : Bool) (x : ℕ) (rest : Option ℕ) → cond b (Some x) rest ≡ None → (b ≡ false) × (rest ≡ None)
passed_over true x rest h = absurd (cc)
passed_over false x rest h = (refl, h)

passes_not : (p : ℕ → Bool) (a n i : ℕ) → find p (range_with_len a n) ≡ None → i < n → p (a + i) ≡ false
passes_not p a zero i h l = absurd (omega (arith, l))
passes_not p a (suc n) zero h l =
    let here : a + 0 ≡ a = omega arith in
    rw here (passed_over (p a) a (find p (range_with_len (a + 1) n)) h).0
passes_not p a (suc n) (suc i) h l =
    let there : a + suc i ≡ a + 1 + i = omega arith in
    rw there (passes_not p (a + 1) n i (passed_over (p a) a (find p (range_with_len (a + 1) n)) h).1 (omega (arith, l)))

pub none_passes : (p : ℕ → Bool) (n i : ℕ) → find p (range_with_len 0 n) ≡ None → i < n → p i ≡ false
none_passes p n i h l = let here : 0 + i ≡ i = omega arith in subst (λ j. p j ≡ false) here (passes_not p 0 n i h l)

-- Two lists that are alike at each place, as far as the longer one goes
alike : {X Y : Type 0} (same : X → X → Bool) (f : X → Y) → ((x y : X) → same x y ≡ true → f x ≡ f y) → (n : ℕ) (xs ys : List X) → length xs ≤ n → length ys ≤ n
    → ((i : ℕ) → i < n → is_same_option same (slice_get xs i) (slice_get ys i) ≡ true) → map f xs ≡ map f ys
alike same f law n [] [] h k each = refl
alike same f law zero [] (y ∷ ys) h k each = absurd (omega (arith, k))
alike same f law (suc n) [] (y ∷ ys) h k each = absurd (let no = each 0 (omega arith) in cc)
alike same f law zero (x ∷ xs) ys h k each = absurd (omega (arith, h))
alike same f law (suc n) (x ∷ xs) [] h k each = absurd (let no = each 0 (omega arith) in cc)
alike same f law (suc n) (x ∷ xs) (y ∷ ys) h k each =
    ap₂ (λ z zs. z ∷ zs) (law x y (each 0 (omega arith)))
    (alike same f law n xs ys (omega (arith, h)) (omega (arith, k)) (λ i l. each (suc i) (omega (arith, l))))

-- Lists without a difference are alike in what the comparison sees.
pub no_difference : {X Y : Type 0} (same : X → X → Bool) (f : X → Y) → ((x y : X) → same x y ≡ true → f x ≡ f y) → (xs ys : List X)
    → first_difference same xs ys ≡ None → map f xs ≡ map f ys
no_difference same f law xs ys h =
    alike same f law (max (length xs) (length ys)) xs ys (omega arith) (omega arith)
    (λ i l. not_false (is_same_option same (slice_get xs i) (slice_get ys i))
    (none_passes (λ j. not (is_same_option same (slice_get xs j) (slice_get ys j))) (max (length xs) (length ys)) i h l))
