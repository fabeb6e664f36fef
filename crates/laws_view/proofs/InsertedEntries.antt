-- The entry of each PID is the last value that was inserted.
use Rattle.std.proofs.Common.{◌≡◌, ◌∙◌, ℕ, ◌==◌, Bool, true, false, cond, nat_eq, List, [], ◌∷◌, Some, refl, ap, subst, arith}
use Rattle.std.specs.Map.{lookup}
use Rattle.std.proofs.lemmas.Bool.Decides.{nat_tests}
use Rattle.indexmap.specs.IndexMap.{insert_entry}

pub same_number : (a b : ℕ) → (a == b) ≡ true → a ≡ b
same_number a b e = grind (arith, nat_tests)

pub turned_test : (a b : ℕ) → (a == b) ≡ (b == a)
turned_test a b = by (a == b) (b == a) refl refl
  where
    by : (s t : Bool) → (a == b) ≡ s → (b == a) ≡ t → s ≡ t
    by true true p q = refl
    by false false p q = refl
    by true false p q = absurd (grind (arith, nat_tests))
    by false true p q = absurd (grind (arith, nat_tests))

pub kept : {X : Type 0} (pid q : ℕ) (x : X) (es : List (ℕ × X)) (t : Bool) → (q == pid) ≡ t →
    lookup (nat_eq pid) (insert_entry nat_eq es q x) ≡ cond t (Some x) (lookup (nat_eq pid) es)
kept pid q x [] t e = rw (turned_test pid q ∙ e) refl
kept pid q x (y ∷ es) t e = by t e (q == y.0) refl (kept pid q x es t e)
  where
    by : (t : Bool) → (q == pid) ≡ t → (u : Bool) → (q == y.0) ≡ u →
        lookup (nat_eq pid) (insert_entry nat_eq es q x) ≡ cond t (Some x) (lookup (nat_eq pid) es) →
        lookup (nat_eq pid) (cond u ((y.0, x) ∷ es) (y ∷ insert_entry nat_eq es q x)) ≡ cond t (Some x)
        (cond (nat_eq pid y.0) (Some y.1) (lookup (nat_eq pid) es))
    by true e true f h = let g : (pid == y.0) ≡ true = subst (λ (n : ℕ). (n == y.0) ≡ true) (same_number q pid e) f in rw g refl
    by false e true f h = let g : (pid == y.0) ≡ false = subst (λ (n : ℕ). (pid == n) ≡ false) (same_number q y.0 f) (turned_test pid q ∙ e) in rw g refl
    by true e false f h = let g : (pid == y.0) ≡ false = subst (λ (n : ℕ). (n == y.0) ≡ false) (same_number q pid e) f in rw g h
    by false e false f h = ap (cond (nat_eq pid y.0) (Some y.1)) h
