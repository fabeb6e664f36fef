-- Which PIDs are in the lists.
use Rattle.std.specs.Prelude.{◌≡◌, ℕ, ◌&&◌, not, List, [], map}
use Rattle.tr101290.specs.declared.pid_windows.PidCounts.{PidCounts}
use Rattle.tr101290.specs.Packets.{is_among, is_reserved, has_packets, unreferenced_pids, missing_pids}

-- the PIDs with packets that a table has to name and none names
abbrev pub UnreferencedLaw : Type 0
UnreferencedLaw = (referenced : List ℕ) (entries : List (ℕ × PidCounts)) (pid : ℕ) →
    is_among pid (unreferenced_pids referenced entries) ≡ is_among pid (map (λ entry. entry.0) entries)
    && (not (is_reserved pid) && not (is_among pid referenced))

-- the PIDs that a table names and that have no packets
abbrev pub MissingLaw : Type 0
MissingLaw = (entries : List (ℕ × PidCounts)) (referenced : List ℕ) (pid : ℕ) →
    is_among pid (missing_pids entries [] referenced) ≡ is_among pid referenced && not (has_packets entries pid)
