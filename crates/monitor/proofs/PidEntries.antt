-- Entries by PID after an insert; no PID has two entries.
use Rattle.std.proofs.Common.{◌≡◌, ℕ, ◌==◌, Bool, true, false, cond, nat_eq, List, [], ◌∷◌, Option, Some, None, refl, ap, subst, ◌∙◌}
use Rattle.std.specs.Map.{lookup}
use Rattle.indexmap.specs.IndexMap.{insert_entry}
use Rattle.monitor.proofs.LatePlaces.{same_number, turned_test}

pub inserted : {V : Type 0} (pid q : ℕ) (x : V) (es : List (ℕ × V)) (t : Bool) → (q == pid) ≡ t →
    lookup (nat_eq pid) (insert_entry nat_eq es q x) ≡ cond t (Some x) (lookup (nat_eq pid) es)
inserted pid q x [] t e = rw (turned_test pid q ∙ e) refl
inserted {V} pid q x (y ∷ es) t e = by t e (q == y.0) refl (inserted pid q x es t e)
  where
    by : (t : Bool) → (q == pid) ≡ t → (u : Bool) → (q == y.0) ≡ u →
        lookup (nat_eq pid) (insert_entry nat_eq es q x) ≡ cond t (Some x) (lookup (nat_eq pid) es) →
        lookup (nat_eq pid) (cond u ((y.0, x) ∷ es) (y ∷ insert_entry nat_eq es q x)) ≡ cond t (Some x)
        (cond (nat_eq pid y.0) (Some y.1) (lookup (nat_eq pid) es))
    by true e true f h = let g : (pid == y.0) ≡ true = subst (λ (k : ℕ). (k == y.0) ≡ true) (same_number q pid e) f in rw g refl
    by false e true f h = let g : (pid == y.0) ≡ false = subst (λ (k : ℕ). (pid == k) ≡ false) (same_number q y.0 f) (turned_test pid q ∙ e) in rw g refl
    by true e false f h = let g : (pid == y.0) ≡ false = subst (λ (k : ℕ). (k == y.0) ≡ false) (same_number q pid e) f in rw g h
    by false e false f h = ap (λ (o : Option V). cond (nat_eq pid y.0) (Some y.1) o) h

abbrev pub absent : {V : Type 0} → ℕ → List (ℕ × V) → Type 0
absent pid [] = Unit {0}
absent pid (x ∷ es) = ((pid == x.0) ≡ false) × absent pid es

abbrev pub unique : {V : Type 0} → List (ℕ × V) → Type 0
unique [] = Unit {0}
unique (x ∷ es) = absent x.0 es × unique es

absent_insert : {V : Type 0} (pid q : ℕ) (v : V) (es : List (ℕ × V)) → (pid == q) ≡ false → absent pid es → absent pid (insert_entry nat_eq es q v)
absent_insert pid q v [] e h = (e, tt)
absent_insert pid q v (x ∷ es) e h = by (absent_insert pid q v es e h.1) (q == x.0)
  where
    by : absent pid (insert_entry nat_eq es q v) → (t : Bool) → absent pid (cond t ((x.0, v) ∷ es) (x ∷ insert_entry nat_eq es q v))
    by k true = (h.0, h.1)
    by k false = (h.0, k)

pub unique_insert : {V : Type 0} (q : ℕ) (v : V) (es : List (ℕ × V)) → unique es → unique (insert_entry nat_eq es q v)
unique_insert q v [] h = (tt, tt)
unique_insert q v (x ∷ es) h = by (unique_insert q v es h.1) (q == x.0) refl
  where
    by : unique (insert_entry nat_eq es q v) → (t : Bool) → (q == x.0) ≡ t → unique (cond t ((x.0, v) ∷ es) (x ∷ insert_entry nat_eq es q v))
    by k true e = (h.0, h.1)
    by k false e = (absent_insert x.0 q v es (turned_test x.0 q ∙ e) h.0, k)

pub lookup_absent : {V : Type 0} (pid : ℕ) (es : List (ℕ × V)) → absent pid es → lookup (nat_eq pid) es ≡ None
lookup_absent pid [] h = refl
lookup_absent pid (x ∷ es) h = rw h.0 (lookup_absent pid es h.1)
