-- The counts of a PID that occurred before, and their place among the entries.
use Rattle.std.proofs.Common.{◌≡◌, ℕ, Bool, List, nat_eq, is_some, true≢false, Option, Some, None, refl, sym, ap, ◌∙◌}
use Rattle.std.specs.Prelude.{position, slice_get}
use Rattle.std.specs.Map.{keys_of, lookup, values_of}
use Rattle.indexmap.specs.IndexMap.{insert_entry, set_value_at}
use Rattle.pid_map.proofs.Entries.{found_there, set_there, value_there}
use Rattle.monitor.specs.declared.counts.PacketCounts.{PacketCounts}
use Rattle.monitor.specs.Counts.{one_more_packet, packet_counted, packet_counts_of, packet_counts_or_zero}

-- One more packet of the PID at index i is counted in the entry at i.
pub counted_there : (pid i : ℕ) (start : Bool) (entries : List (ℕ × PacketCounts)) → position (nat_eq pid) (keys_of entries) ≡ Some i →
    packet_counted entries pid start ≡ set_value_at entries i (one_more_packet (packet_counts_of pid entries) start)
counted_there pid i start entries p = set_there pid i entries (one_more_packet (packet_counts_of pid entries) start) p

-- The entry at index i has the counts of its PID.
pub counts_there : (pid i : ℕ) (entries : List (ℕ × PacketCounts)) → position (nat_eq pid) (keys_of entries) ≡ Some i →
    slice_get (values_of entries) i ≡ Some (packet_counts_of pid entries)
unfolding packet_counts_or_zero
counts_there pid i entries p = value_there pid i entries p ∙ by (lookup (nat_eq pid) entries) refl
  where
    by : (o : Option PacketCounts) → lookup (nat_eq pid) entries ≡ o → lookup (nat_eq pid) entries ≡ Some (packet_counts_of pid entries)
    by (Some counts) e = e ∙ ap (λ (o : Option PacketCounts). Some (packet_counts_or_zero o)) (sym e)
    by None e = absurd (true≢false (sym (found_there pid i entries p) ∙ ap is_some e))

-- The last packet of the PID at index i is replaced in the entry at i.
pub replaced_there : (pid i packet : ℕ) (entries : List (ℕ × ℕ)) → position (nat_eq pid) (keys_of entries) ≡ Some i →
    insert_entry nat_eq entries pid packet ≡ set_value_at entries i packet
replaced_there pid i packet entries p = set_there pid i entries packet p

-- The entry at index i has the last packet of its PID.
pub last_there : (pid i : ℕ) (entries : List (ℕ × ℕ)) → position (nat_eq pid) (keys_of entries) ≡ Some i →
    lookup (nat_eq pid) entries ≡ slice_get (values_of entries) i
last_there pid i entries p = sym (value_there pid i entries p)
