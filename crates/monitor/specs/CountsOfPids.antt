-- The counts of each PID.
use Rattle.std.specs.Prelude.{ℕ, ◌-◌, ◌^◌, ◌==◌, not, min, Bool, true, false, List, [], ◌∷◌, length, map, filter}
use Rattle.ts_packet.specs.PidList.{pid_list}
use Rattle.pid_findings.specs.Views.{WhatView, IsDuplicate, IsScrambled}
use Rattle.monitor.specs.declared.reports.PidCounts.{PidCounts}
use Rattle.monitor.specs.Begins.{found_on}
use Rattle.monitor.specs.Faults.{packet_pids}

-- each number once, where it comes first
abbrev pub first_seen : List ℕ → List ℕ
first_seen [] = []
first_seen (x ∷ xs) = x ∷ filter (λ y. not (y == x)) (first_seen xs)

-- counts stop at 2^64 - 1
abbrev pub counted : ℕ → ℕ
counted n = min n (2 ^ 64 - 1)

unfoldable pub is_duplicate : WhatView → Bool
is_duplicate IsDuplicate = true
is_duplicate what = false

unfoldable pub is_scrambled : WhatView → Bool
is_scrambled IsScrambled = true
is_scrambled what = false

-- how many packets a PID has, how many begin a payload unit, and how many are duplicates or scrambled
unfoldable pub counts_of : List ℕ → ℕ → PidCounts
counts_of bytes pid = record {
  pid = pid;
  packets = counted (length (pid_list pid bytes));
  starts = counted (length (filter (λ entry. entry.packet.header.payload_unit_start_indicator) (pid_list pid bytes)));
  duplicates = counted (length (filter (λ at. is_duplicate at.found.what) (found_on pid bytes)));
  scrambled = counted (length (filter (λ at. is_scrambled at.found.what) (found_on pid bytes)));
}

-- the counts of all PIDs, in the order of their first packets
abbrev pub counts_of_all : List ℕ → List PidCounts
counts_of_all bytes = map (counts_of bytes) (first_seen (packet_pids bytes))
