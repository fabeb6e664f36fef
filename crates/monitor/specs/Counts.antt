-- Counts of PIDs, packet by packet.
use Rattle.std.specs.Prelude.{ℕ, ◌+◌, ◌-◌, ◌^◌, min, Bool, if◌then◌else◌, List, nat_eq, Option, Some, None}
use Rattle.std.specs.Map.{lookup}
use Rattle.indexmap.specs.IndexMap.{insert_entry}
use Rattle.monitor.specs.declared.counts.PacketCounts.{PacketCounts}
use Rattle.monitor.specs.declared.counts.FindingCounts.{FindingCounts}

-- counts stop at 2^64 - 1
unfoldable pub one_more : ℕ → ℕ
one_more n = min (n + 1) (2 ^ 64 - 1)

unfoldable pub packet_counts_or_zero : Option PacketCounts → PacketCounts
packet_counts_or_zero None = record { packets = 0; starts = 0 }
packet_counts_or_zero (Some counts) = counts

abbrev pub packet_counts_of : ℕ → List (ℕ × PacketCounts) → PacketCounts
packet_counts_of pid entries = packet_counts_or_zero (lookup (nat_eq pid) entries)

unfoldable pub one_more_packet : PacketCounts → Bool → PacketCounts
one_more_packet counts start = record { packets = one_more counts.packets; starts = if start then one_more counts.starts else counts.starts }

abbrev pub packet_counted : List (ℕ × PacketCounts) → ℕ → Bool → List (ℕ × PacketCounts)
packet_counted entries pid start = insert_entry nat_eq entries pid (one_more_packet (packet_counts_of pid entries) start)

unfoldable pub finding_counts_or_zero : Option FindingCounts → FindingCounts
finding_counts_or_zero None = record { duplicates = 0; scrambled = 0 }
finding_counts_or_zero (Some counts) = counts

abbrev pub finding_counts_of : ℕ → List (ℕ × FindingCounts) → FindingCounts
finding_counts_of pid entries = finding_counts_or_zero (lookup (nat_eq pid) entries)

abbrev pub duplicate_counted : ℕ → List (ℕ × FindingCounts) → List (ℕ × FindingCounts)
duplicate_counted pid entries = let n = finding_counts_of pid entries in
    insert_entry nat_eq entries pid (record { duplicates = one_more n.duplicates; scrambled = n.scrambled })

abbrev pub scrambled_counted : ℕ → List (ℕ × FindingCounts) → List (ℕ × FindingCounts)
scrambled_counted pid entries = let n = finding_counts_of pid entries in
    insert_entry nat_eq entries pid (record { duplicates = n.duplicates; scrambled = one_more n.scrambled })
