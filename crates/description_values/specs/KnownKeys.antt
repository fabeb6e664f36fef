-- The keys that a table of a description may have.
use Rattle.std.specs.Prelude.{ℕ, ◌&&◌, Bool, true, List, None, Some, bytes_eq}
use Rattle.std.specs.List.{list_any}
use Rattle.toml.specs.Data.{Data, Members, no_members, member, as_table}

-- the key is among the names
abbrev pub is_among : List (List ℕ) → List ℕ → Bool
is_among names key = list_any (λ name. bytes_eq name key) names

-- each member of a table passes
abbrev pub all_keys : (List ℕ → Bool) → Members → Bool
all_keys passes no_members = true
all_keys passes (member key d ms) = passes key && all_keys passes ms

-- a table has only these keys; a value that is no table has no keys
abbrev pub knows_keys : List (List ℕ) → Data → Bool
knows_keys names d = elim (as_table d) [ None ↦ true | Some ms ↦ all_keys (is_among names) ms ]
