-- Packets by window of time and by PID.
--
-- Packets arrive in the order of their windows. Only the counts of the last window are kept.
use Rattle.std.specs.Prelude.{ℕ, ◌+◌, ◌^◌, ◌-◌, ◌==◌, min, Bool, if◌then◌else◌, List, [], nat_eq, Option, Some, None}
use Rattle.std.specs.Map.{lookup}
use Rattle.indexmap.specs.IndexMap.{insert_entry}
use Rattle.tr101290.specs.declared.pid_windows.PidCounts.{PidCounts}

-- counts stop at 2^64 - 1
abbrev pub one_more : ℕ → ℕ
one_more n = min (n + 1) (2 ^ 64 - 1)

unfoldable pub counts_or_zero : Option PidCounts → PidCounts
counts_or_zero None = record { packets = 0; pcrs = 0 }
counts_or_zero (Some counts) = counts

-- the counts of a PID
abbrev pub counts_of : ℕ → List (ℕ × PidCounts) → PidCounts
counts_of pid entries = counts_or_zero (lookup (nat_eq pid) entries)

-- the counts with one more packet, with or without a program_clock_reference
unfoldable pub with_one : PidCounts → Bool → PidCounts
with_one counts pcr = record { packets = one_more counts.packets; pcrs = if pcr then one_more counts.pcrs else counts.pcrs }

abbrev pub with_packet : List (ℕ × PidCounts) → ℕ → Bool → List (ℕ × PidCounts)
with_packet entries pid pcr = insert_entry nat_eq entries pid (with_one (counts_of pid entries) pcr)

-- a window by its number, and the counts of the PIDs that have a packet in it, in the order of their first packets
pub record WindowView : Type 0 where
  pub number : ℕ
  pub counts : List (ℕ × PidCounts)

-- before the first packet
abbrev pub no_packet : WindowView
no_packet = record { number = 0; counts = [] }

-- the counts of a window so far: empty if it is not the window of the last packet
unfoldable pub counts_in : WindowView → ℕ → List (ℕ × PidCounts)
counts_in state window = if state.number == window then state.counts else []

-- the state after a packet of a window
abbrev pub taken : WindowView → ℕ → ℕ → Bool → WindowView
taken state window pid pcr = record { number = window; counts = with_packet (counts_in state window) pid pcr }
