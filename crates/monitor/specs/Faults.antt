-- All faults of a stream: rule by rule the packets at which it fails, by the stream alone, with no state.
use Rattle.std.specs.Prelude.{ℕ, ◌/◌, ◌%◌, ◌==◌, nat_lt, not, if◌then◌else◌, List, [], ◌∷◌, ◌++◌, length, map, filter, Option, Some, None}
use Rattle.std.specs.List.{enumerate_from, flat_map}
use Rattle.ts_packet.specs.Reading.{packet_at}
use Rattle.ts_packet.specs.PidList.{cut_packets, entries_of, pid_list}
use Rattle.pid_findings.specs.Views.{PidFinding}
use Rattle.monitor.specs.declared.fault.StreamFault.{StreamFault}
use Rattle.monitor.specs.declared.fault.Rule.{Rule}
use Rattle.monitor.specs.declared.fault.Rule.TheVariants as rules
use Rattle.monitor.specs.Gaps.{late}
use Rattle.monitor.specs.Rules.{packet_rule, finding_rule, fault, failing}
use Rattle.monitor.specs.Begins.{found_on, pcr_places, pts_begins, table_begins}
use Rattle.monitor.specs.NamedPids.{named_since, namings}

-- the PIDs of the packets that can be read and are not known to be wrong
abbrev pub packet_pids : List ℕ → List ℕ
packet_pids bytes = map (λ entry. entry.packet.header.pid) (filter (λ entry. not entry.packet.header.transport_error_indicator) (entries_of bytes))

-- for each of these PIDs, the packets at which a rule fails
abbrev pub on_each : Rule → (ℕ → List ℕ) → List ℕ → List StreamFault
on_each rule places pids = flat_map (λ pid. map (fault rule (Some pid)) (places pid)) pids

-- 1 to 3: what packets fail by themselves
abbrev pub packet_faults : List (ℕ × List ℕ) → List StreamFault
packet_faults packets = flat_map (λ p. failing None p.0 (packet_rule (packet_at p.1))) packets

-- 4 to 6: what findings of a PID fail by themselves
abbrev pub finding_faults : ℕ → List PidFinding → List StreamFault
finding_faults pid found = flat_map (λ at. failing (Some pid) at.packet (finding_rule at.found.what)) found

-- 7: from the beginning of the stream to its end, sections of program association begin on PID 0 every 500 ms
abbrev pub pat_late : ℕ → List ℕ → List ℕ
pat_late rate bytes = late rate 500 (0 ∷ table_begins 0x00 (found_on 0 bytes) ++ (length bytes / 188) ∷ [])

-- 8: on a PID that a PAT names, from that packet to the end, sections of the program map begin every 500 ms
unfoldable pub map_late_since : ℕ → ℕ → List ℕ → Option ℕ → List ℕ
map_late_since rate count begins None = []
map_late_since rate count begins (Some since) = late rate 500 (since ∷ filter (λ packet. nat_lt since packet) begins ++ count ∷ [])

abbrev pub map_late : ℕ → List ℕ → ℕ → List ℕ
map_late rate bytes pid = map_late_since rate (length bytes / 188) (table_begins 0x02 (found_on pid bytes)) (named_since pid bytes)

-- 9 to 12: once sections of a table have begun on its PID, they begin so often
abbrev pub table_late : ℕ → ℕ → ℕ → ℕ → List ℕ → List ℕ
table_late rate limit pid table_id bytes = late rate limit (table_begins table_id (found_on pid bytes))

-- 13: packets of a PID with a program clock reference
abbrev pub pcr_late : ℕ → ℕ → List ℕ → ℕ → List ℕ
pcr_late rate limit bytes pid = late rate limit (pcr_places (pid_list pid bytes))

-- 14: PES packets of a PID with a PTS
abbrev pub pts_late : ℕ → List ℕ → ℕ → List ℕ
pts_late rate bytes pid = late rate 700 (pts_begins (found_on pid bytes))

-- 15: bytes are left after the last whole packet
abbrev pub cut_faults : List ℕ → List StreamFault
cut_faults bytes = if length bytes % 188 == 0 then [] else fault rules.Cut None (length bytes / 188) ∷ []

-- what packets fail, at a rate in bits a second, with a greatest gap of clock references in milliseconds
abbrev pub faults_of_packets : ℕ → ℕ → List ℕ → List StreamFault
faults_of_packets rate limit bytes =
    (packet_faults (enumerate_from 0 (cut_packets bytes)) ++ cut_faults bytes) ++ on_each rules.Pcr (pcr_late rate limit bytes) (packet_pids bytes)

-- what findings fail
abbrev pub faults_of_findings : ℕ → List ℕ → List StreamFault
faults_of_findings rate bytes =
    flat_map (λ pid. finding_faults pid (found_on pid bytes)) (packet_pids bytes)
    ++ map (fault rules.Pat (Some 0x00)) (pat_late rate bytes)
    ++ on_each rules.Pmt (map_late rate bytes) (map (λ naming. naming.0) (namings (found_on 0 bytes)))
    ++ map (fault rules.Nit (Some 0x10)) (table_late rate 10000 0x10 0x40 bytes)
    ++ map (fault rules.Sdt (Some 0x11)) (table_late rate 2000 0x11 0x42 bytes)
    ++ map (fault rules.Eit (Some 0x12)) (table_late rate 2000 0x12 0x4E bytes)
    ++ map (fault rules.Tdt (Some 0x14)) (table_late rate 30000 0x14 0x70 bytes)
    ++ on_each rules.Pts (pts_late rate bytes) (packet_pids bytes)

-- all faults of a stream
unfoldable pub faults_of : ℕ → ℕ → List ℕ → List StreamFault
faults_of rate limit bytes = faults_of_packets rate limit bytes ++ faults_of_findings rate bytes
