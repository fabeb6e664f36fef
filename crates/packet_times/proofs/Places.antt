-- The place of the last packet of a PID, at the PID's index.
use Rattle.std.proofs.Common.{◌≡◌, ℕ, List, nat_eq, Some}
use Rattle.std.specs.Prelude.{position}
use Rattle.std.specs.Map.{keys_of}
use Rattle.indexmap.specs.IndexMap.{insert_entry, set_value_at}
use Rattle.pid_map.proofs.Entries.{set_there}

-- Another packet of the PID at index i replaces the place at i.
pub kept_there : (pid i place : ℕ) (lasts : List (ℕ × ℕ)) → position (nat_eq pid) (keys_of lasts) ≡ Some i →
    insert_entry nat_eq lasts pid place ≡ set_value_at lasts i place
kept_there pid i place lasts p = set_there pid i lasts place p
