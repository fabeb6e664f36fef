-- PIDs with packets and PIDs that are named (ETSI TR 101 290, 5.2.1, 1.6 PID_error; 5.2.3, 3.4 Unreferenced_PID).
use Rattle.std.specs.Prelude.{ℕ, ◌==◌, ◌&&◌, ◌||◌, not, nat_eq, nat_lt, is_some, Bool, if◌then◌else◌, List, [], ◌∷◌, ◌++◌, flat_map}
use Rattle.std.specs.List.{list_any}
use Rattle.std.specs.Map.{lookup}
use Rattle.tr101290.specs.declared.pid_windows.PidCounts.{PidCounts}

-- whether a PID is among these
abbrev pub is_among : ℕ → List ℕ → Bool
is_among pid pids = list_any (λ other. other == pid) pids

-- whether no table has to name a PID: a PID of tables (ISO/IEC 13818-1, table 2-3; ETSI EN 300 468, table 1), or the PID of null packets
abbrev pub is_reserved : ℕ → Bool
is_reserved pid = nat_lt pid 32 || pid == 8191

-- a PID that has to be named and is not
abbrev pub unreferenced : List ℕ → ℕ → List ℕ
unreferenced referenced pid = if not (is_reserved pid) && not (is_among pid referenced) then pid ∷ [] else []

-- the unreferenced PIDs among the PIDs with packets
abbrev pub unreferenced_pids : List ℕ → List (ℕ × PidCounts) → List ℕ
unreferenced_pids referenced entries = flat_map (λ entry. unreferenced referenced entry.0) entries

-- a PID has packets
abbrev pub has_packets : List (ℕ × PidCounts) → ℕ → Bool
has_packets entries pid = is_some (lookup (nat_eq pid) entries)

-- with a PID that has none, once
abbrev pub with_missing : List (ℕ × PidCounts) → List ℕ → ℕ → List ℕ
with_missing entries found pid = if not (has_packets entries pid) && not (is_among pid found) then found ++ pid ∷ [] else found

-- the missing PIDs among the PIDs that tables name
unfoldable pub missing_pids : List (ℕ × PidCounts) → List ℕ → List ℕ → List ℕ
missing_pids entries found [] = found
missing_pids entries found (pid ∷ pids) = missing_pids entries (with_missing entries found pid) pids
