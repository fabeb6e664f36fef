-- The values that a map keeps for PIDs, as a contract sees them: entries in the order of each PID's first packet.
use Rattle.std.specs.Prelude.{ℕ}
use Rattle.std.specs.Coded.{Coded, coded_ℕ}
use Rattle.std.specs.declared.hash.BuildHasherDefault.{BuildHasherDefault}
use Rattle.std.specs.declared.hash.FoldHasher.{FoldHasher}
use Rattle.std.specs.contracts.hash.BuildHasherDefault as build
use Rattle.std.specs.contracts.hash.FoldHasher as fold
use Rattle.indexmap.specs.IndexMap.{IndexMap}
use Rattle.indexmap.specs.Layout.{hash_map_code}

abbrev pub PidEntries : Type 0 → Type 0
PidEntries V = IndexMap ℕ V (BuildHasherDefault FoldHasher)

-- the code that distinguishes maps
abbrev pub pid_entries_code : {V : Type 0} → Coded V → Coded (PidEntries V)
pid_entries_code v = hash_map_code coded_ℕ v (build.the_row fold.the_row).coded
