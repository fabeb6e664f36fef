-- The entry of a PID at its index.
use Rattle.std.proofs.Common.{◌≡◌, ℕ, zero, suc, true, List, [], ◌∷◌, nat_eq, is_some, Some, refl, sym, ap, ◌∙◌}
use Rattle.std.specs.Prelude.{position, slice_get}
use Rattle.std.specs.Map.{keys_of, lookup, values_of}
use Rattle.std.specs.List.{IsDistinct}
use Rattle.std.specs.Cmp.{nat_eq_equiv}
use Rattle.indexmap.specs.IndexMap.{insert_entry, set_value_at}
use Rattle.indexmap.proofs.MapLemmas.{Found-position, index-first, some_index, insert_entry-first}
use Rattle.indexmap.proofs.RemoveLemmas.{own_first}

module _ {X : Type 0} (pid i : ℕ) (entries : List (ℕ × X)) where
  -- The index of a PID is the index of its entry.
  pub index_there : (value : X) → IsDistinct nat_eq (keys_of entries) → slice_get entries i ≡ Some (pid, value) →
      position (nat_eq pid) (keys_of entries) ≡ Some i
  index_there value unique at = index-first (nat_eq pid) entries i (own_first nat_eq nat_eq_equiv entries i pid value unique at)

  -- The value at a PID's index is the PID's value.
  pub value_there : position (nat_eq pid) (keys_of entries) ≡ Some i → slice_get (values_of entries) i ≡ lookup (nat_eq pid) entries
  value_there p = sym (Found-position (nat_eq pid) entries i p).value

  pub found_there : position (nat_eq pid) (keys_of entries) ≡ Some i → is_some (lookup (nat_eq pid) entries) ≡ true
  found_there p = sym (some_index (nat_eq pid) entries) ∙ ap is_some p

  -- An insert for a PID with an index sets the value at this index.
  pub set_there : (value : X) → position (nat_eq pid) (keys_of entries) ≡ Some i → insert_entry nat_eq entries pid value ≡ set_value_at entries i value
  set_there value p = insert_entry-first nat_eq pid value entries i (Found-position (nat_eq pid) entries i p).first

-- Setting the same value at an index changes nothing.
pub set_same : {X : Type 0} (i : ℕ) (entries : List (ℕ × X)) (value : X) → slice_get (values_of entries) i ≡ Some value → set_value_at entries i value ≡ entries
set_same i [] value h = refl
set_same zero (x ∷ entries) value h = ap (λ v. (x.0, v) ∷ entries) (sym cc)
set_same (suc i) (x ∷ entries) value h = ap (λ rest. x ∷ rest) (set_same i entries value h)
