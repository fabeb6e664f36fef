-- The names of services by program, each as the bytes of its text.
use Rattle.std.proofs.Common.{◌≡◌, ℕ, Bool, true, false, cond, List, [], ◌∷◌, map, String, Global, string_bytes, nat_eq, Option, Some, None, refl, ap}
use Rattle.std.specs.Prelude.{option_map}
use Rattle.std.specs.Map.{lookup}
use Rattle.indexmap.specs.IndexMap.{insert_entry}

pub insert_each : (es : List (ℕ × String Global)) (k : ℕ) (v : String Global) →
    map (λ e. (e.0, string_bytes e.1)) (insert_entry nat_eq es k v) ≡ insert_entry nat_eq (map (λ e. (e.0, string_bytes e.1)) es) k (string_bytes v)
insert_each [] k v = refl
insert_each (e ∷ es) k v = by (nat_eq k e.0) (insert_each es k v)
  where
    by : (t : Bool) → map (λ e. (e.0, string_bytes e.1)) (insert_entry nat_eq es k v) ≡ insert_entry nat_eq (map (λ e. (e.0, string_bytes e.1)) es) k
        (string_bytes v) →
        map (λ e. (e.0, string_bytes e.1)) (cond t ((e.0, v) ∷ es) (e ∷ insert_entry nat_eq es k v))
        ≡ cond t ((e.0, string_bytes v) ∷ map (λ e. (e.0, string_bytes e.1)) es)
        ((e.0, string_bytes e.1) ∷ insert_entry nat_eq (map (λ e. (e.0, string_bytes e.1)) es) k (string_bytes v))
    by true h = refl
    by false h = ap (λ (xs : List (ℕ × List ℕ)). (e.0, string_bytes e.1) ∷ xs) h

pub lookup_each : (es : List (ℕ × String Global)) (k : ℕ) →
    lookup (nat_eq k) (map (λ e. (e.0, string_bytes e.1)) es) ≡ option_map string_bytes (lookup (nat_eq k) es)
lookup_each [] k = refl
lookup_each (e ∷ es) k = by (nat_eq k e.0) (lookup_each es k)
  where
    by : (t : Bool) → lookup (nat_eq k) (map (λ e. (e.0, string_bytes e.1)) es) ≡ option_map string_bytes (lookup (nat_eq k) es) →
        cond t (Some (string_bytes e.1)) (lookup (nat_eq k) (map (λ e. (e.0, string_bytes e.1)) es)) ≡ option_map string_bytes
        (cond t (Some e.1) (lookup (nat_eq k) es))
    by true h = refl
    by false h = h
