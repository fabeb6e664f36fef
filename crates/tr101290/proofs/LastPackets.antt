-- The last packet of a PID, at the PID's index.
use Rattle.std.proofs.Common.{◌≡◌, ℕ, List, nat_eq, is_some, true≢false, Option, Some, None, refl, sym, ap, ◌∙◌}
use Rattle.std.specs.Prelude.{position, slice_get, unwrap_or}
use Rattle.std.specs.Map.{keys_of, lookup, values_of}
use Rattle.indexmap.specs.IndexMap.{insert_entry, set_value_at}
use Rattle.pid_findings.specs.Marks.{LastView}
use Rattle.pid_map.proofs.Entries.{found_there, set_there, value_there}
use Rattle.tr101290.specs.Continuity.{Lasts, last_of}

-- Another packet of the PID at index i replaces the value at i.
pub kept_there : (pid i : ℕ) (last : Option LastView) (lasts : Lasts) → position (nat_eq pid) (keys_of lasts) ≡ Some i →
    insert_entry nat_eq lasts pid last ≡ set_value_at lasts i last
kept_there pid i last lasts p = set_there pid i lasts last p

-- The value at index i is the last packet of the PID.
pub last_there : (pid i : ℕ) (lasts : Lasts) → position (nat_eq pid) (keys_of lasts) ≡ Some i → slice_get (values_of lasts) i ≡ Some (last_of pid lasts)
last_there pid i lasts p = value_there pid i lasts p ∙ by (lookup (nat_eq pid) lasts) refl
  where
    by : (o : Option (Option LastView)) → lookup (nat_eq pid) lasts ≡ o → lookup (nat_eq pid) lasts ≡ Some (last_of pid lasts)
    by (Some last) e = e ∙ ap (λ (o : Option (Option LastView)). Some (unwrap_or o None)) (sym e)
    by None e = absurd (true≢false (sym (found_there pid i lasts p) ∙ ap is_some e))
