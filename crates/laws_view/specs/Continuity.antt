-- Continuity_count_error (ETSI TR 101 290, 5.2.1, indicator 1.4): one rule, with one meaning.
--
-- Both skip packets that can't be read or have transport_error_indicator, and null packets, whose counter is undefined. Neither names a packet
-- that repeats the one before it, one with discontinuity_indicator 1, or one without payload that keeps the counter (ISO/IEC 13818-1, 2.4.3.3).
use Rattle.std.specs.Prelude.{◌≡◌, ℕ, ◌/◌, ◌-◌, ◌^◌, ◌<◌, ◌==◌, not, is_some, if◌then◌else◌, Bool, List, [], length, map, filter, Some, None}
use Rattle.ts_packet.specs.PidList.{Entry, entries_of, pid_list}
use Rattle.pid_findings.specs.Marks.{Marked, marked}
use Rattle.tr101290.specs.Continuity.{errors_from}
use Rattle.tr101290.specs.declared.continuity.ContinuityError.{ContinuityError}
use Rattle.monitor.specs.declared.fault.StreamFault.{StreamFault}
use Rattle.monitor.specs.declared.fault.Rule.TheVariants as rules
use Rattle.monitor.specs.InOrder.{in_order}
use Rattle.monitor.specs.Rules.{fault}
use Rattle.laws_view.specs.FaultsByRule.{monitored, monitored_on}

-- the packets that can be read and are not known to be wrong
abbrev pub is_sound : Entry → Bool
is_sound entry = not entry.packet.header.transport_error_indicator

abbrev pub sound_packets : List ℕ → List Entry
sound_packets bytes = filter is_sound (entries_of bytes)

-- an error as the monitor names it
abbrev pub counter_fault : ContinuityError → StreamFault
counter_fault e = fault rules.Counter (Some e.pid) e.packet

-- what the monitor names by rule 4 are the continuity errors of the stream
abbrev pub CounterLaw : Type 0
CounterLaw = (rate limit : ℕ) (bytes : List ℕ) → length bytes / 188 < 2 ^ 64 - 1 →
    monitored rules.Counter rate limit bytes ≡ in_order (map counter_fault (errors_from [] (sound_packets bytes)))

-- the packets at which the counter of a PID breaks: each marked by the packet before it on the PID (ISO/IEC 13818-1, 2.4.3.3)
abbrev pub broken_places : List Marked → List ℕ
broken_places ms = map (λ m. m.entry.index) (filter (λ m. is_some m.broken) ms)

-- on a PID the report names just these, each once, whatever packets of other PIDs come between; on the PID of null packets it names none
abbrev pub EachCounterLaw : Type 0
EachCounterLaw = (rate limit pid : ℕ) (bytes : List ℕ) → length bytes / 188 < 2 ^ 64 - 1 → monitored_on pid rules.Counter rate limit bytes
    ≡ (if pid == 8191 then [] else map (fault rules.Counter (Some pid)) (broken_places (marked None (pid_list pid bytes))))
