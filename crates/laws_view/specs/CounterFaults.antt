-- Continuity_count_error (ETSI TR 101 290, 5.2.1, indicator 1.4: wrong order of packets, a packet that occurs more than twice, or a lost packet), by the
-- packets of a PID alone (ISO/IEC 13818-1, 2.4.3.3).
use Rattle.std.specs.Prelude.{◌≡◌, ◌↔◌, ℕ, ◌/◌, ◌-◌, ◌^◌, ◌<◌, ◌==◌, ◌&&◌, not, is_some, Bool, true, false, List, [], ◌∷◌, length, Some}
use Rattle.std.specs.Str.{bytes_eq}
use Rattle.std.specs.List.{Contains}
use Rattle.ts_packet.specs.PidList.{Entry, pid_list}
use Rattle.pid_findings.specs.Marks.{content, following, is_discontinuity}
use Rattle.monitor.specs.declared.fault.Rule.TheVariants as rules
use Rattle.monitor.specs.ReportOf.{stream_report}
use Rattle.monitor.specs.Rules.{fault}

-- whether a packet has all bytes of the last packet except the clock reference's, and both have a payload
abbrev pub is_copy : Entry → Entry → Bool
is_copy last entry = is_some last.packet.payload && is_some entry.packet.payload
    && (entry.packet.header.continuity_counter == last.packet.header.continuity_counter) && bytes_eq (content entry) (content last)

-- a packet occurs for the second time, after packets of its PID, the last one first
unfoldable pub is_second : List Entry → Entry → Bool
is_second [] entry = false
is_second (last ∷ before) entry = not (is_second before last) && is_copy last entry

-- whether the counter neither follows the last counter nor belongs to a second copy, and no discontinuity is signalled
unfoldable pub breaks_after : List Entry → Entry → Bool
breaks_after [] entry = false
breaks_after (last ∷ before) entry = not (is_second (last ∷ before) entry) && (not (is_discontinuity entry.packet.adaptation)
    && not (entry.packet.header.continuity_counter == following last.packet.header.continuity_counter (is_some entry.packet.payload)))

-- packets, given with the last one first, in their order, before `rest`
unfoldable pub turned : List Entry → List Entry → List Entry
turned [] rest = rest
turned (last ∷ before) rest = turned before (last ∷ rest)

-- a packet of a list at which the counter breaks
pub record BreaksAt (packet : ℕ) (all : List Entry) : Type 0 where
  pub before : List Entry
  pub entry : Entry
  pub later : List Entry
  pub parts : all ≡ turned before (entry ∷ later)
  pub here : entry.index ≡ packet
  pub breaks : breaks_after before entry ≡ true

-- by rule 4 the report names a packet of a PID, other than the PID of null packets, if and only if the counter breaks at it
abbrev pub CounterFaultLaw : Type 0
CounterFaultLaw = (rate given pid packet : ℕ) (bytes : List ℕ) → length bytes / 188 < 2 ^ 64 - 1 → (pid == 8191) ≡ false →
    Contains (stream_report rate given bytes).faults (fault rules.Counter (Some pid) packet) ↔ BreaksAt packet (pid_list pid bytes)
