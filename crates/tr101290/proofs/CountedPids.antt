-- The counts of a PID at its index
use Rattle.std.proofs.Common.{◌≡◌, ℕ, Bool, List, nat_eq, is_some, true≢false, Option, Some, None, refl, sym, ap, ◌∙◌}
use Rattle.std.specs.Prelude.{position, slice_get}
use Rattle.std.specs.Map.{keys_of, lookup, values_of}
use Rattle.indexmap.specs.IndexMap.{set_value_at}
use Rattle.pid_map.proofs.Entries.{found_there, set_there, value_there}
use Rattle.tr101290.specs.declared.pid_windows.PidCounts.{PidCounts}
use Rattle.tr101290.specs.Windows.{counts_or_zero, counts_of, with_one, with_packet}

-- One more packet of the PID is counted at its index.
pub counted_there : (pid i : ℕ) (pcr : Bool) (entries : List (ℕ × PidCounts)) → position (nat_eq pid) (keys_of entries) ≡ Some i →
    with_packet entries pid pcr ≡ set_value_at entries i (with_one (counts_of pid entries) pcr)
counted_there pid i pcr entries p = set_there pid i entries (with_one (counts_of pid entries) pcr) p

-- The counts of the PID are at its index.
pub counts_there : (pid i : ℕ) (entries : List (ℕ × PidCounts)) → position (nat_eq pid) (keys_of entries) ≡ Some i →
    slice_get (values_of entries) i ≡ Some (counts_of pid entries)
unfolding counts_or_zero
counts_there pid i entries p = value_there pid i entries p ∙ by (lookup (nat_eq pid) entries) refl
  where
    by : (o : Option PidCounts) → lookup (nat_eq pid) entries ≡ o → lookup (nat_eq pid) entries ≡ Some (counts_of pid entries)
    by (Some counts) e = e ∙ ap (λ (o : Option PidCounts). Some (counts_or_zero o)) (sym e)
    by None e = absurd (true≢false (sym (found_there pid i entries p) ∙ ap is_some e))
