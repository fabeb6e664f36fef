-- PCR_repetition_error (ETSI TR 101 290, 5.2.2, indicator 2.3.a): the time between program clock references of a PID is greater than a limit.
--
-- The standard has 40 ms; a packet lasts 1,504,000 / R milliseconds at R bits a second.
use Rattle.std.specs.Prelude.{◌≡◌, ◌↔◌, ℕ, ◌-◌, ◌*◌, ◌<◌, List, map, Some}
use Rattle.std.specs.List.{Contains}
use Rattle.ts_packet.specs.PidList.{pid_list}
use Rattle.monitor.specs.declared.fault.Rule.TheVariants as rules
use Rattle.monitor.specs.Gaps.{late}
use Rattle.monitor.specs.Begins.{pcr_places}
use Rattle.monitor.specs.ReportOf.{stream_report}
use Rattle.monitor.specs.Rules.{fault}
use Rattle.laws_view.specs.FaultsByRule.{monitored_on}

-- something that comes at some packets comes at this one, not for the first time, and at none within the limit in milliseconds before it
pub record ComesLate (rate limit : ℕ) (places : List ℕ) (packet : ℕ) : Type 0 where
  pub comes : Contains places packet
  pub not_first : (before : ℕ) × Contains places before × (before < packet)
  pub none_within : (before : ℕ) → Contains places before → before < packet → limit * rate < (packet - before) * 1504000

-- the packets of a PID with a program clock reference
abbrev pub references : ℕ → List ℕ → List ℕ
references pid bytes = pcr_places (pid_list pid bytes)

-- by rule 13 the report names a packet of a PID if and only if its reference comes late
abbrev pub ReferenceLaw : Type 0
ReferenceLaw = (rate limit pid packet : ℕ) (bytes : List ℕ) →
    Contains (stream_report rate limit bytes).faults (fault rules.Pcr (Some pid) packet) ↔ ComesLate rate limit (references pid bytes) packet

-- the report names these packets in order, each once
abbrev pub ReferencesInOrder : Type 0
ReferencesInOrder = (rate limit pid : ℕ) (bytes : List ℕ) →
    monitored_on pid rules.Pcr rate limit bytes ≡ map (fault rules.Pcr (Some pid)) (late rate limit (references pid bytes))
