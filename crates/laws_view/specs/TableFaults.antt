-- Tables and time stamps that come too late (ETSI TR 101 290, 5.2.1: 1.3.a and 1.5.a; 5.2.2: 2.5; 5.2.3: 3.1.a, 3.5.a, 3.6.a and 3.8), and sections
-- that are refused (5.2.2: 2.2).
--
-- Each law says that the report names a packet by a rule if and only if something is true of the stream. The limits are the standard's.
use Rattle.std.specs.Prelude.{◌≡◌, ◌↔◌, ℕ, ◌-◌, ◌*◌, ◌/◌, ◌<◌, nat_lt, List, [], ◌∷◌, ◌++◌, length, map, filter, Some}
use Rattle.std.specs.List.{Contains}
use Rattle.pid_findings.specs.Views.{PidFinding}
use Rattle.tr101290.specs.Intervals.{no_section}
use Rattle.tr101290.specs.declared.intervals.TableTiming.TheVariants.{ConstantRate}
use Rattle.monitor.specs.declared.fault.Rule.{Rule}
use Rattle.monitor.specs.Gaps.{successive}
use Rattle.monitor.specs.Begins.{found_on, pts_begins, table_begins}
use Rattle.monitor.specs.NamedPids.{named_since}
use Rattle.monitor.specs.InOrder.{in_order}
use Rattle.monitor.specs.ReportOf.{stream_report}
use Rattle.monitor.specs.Rules.{fault, finding_rule}
use Rattle.laws_view.specs.FaultsByRule.{monitored}
use Rattle.laws_view.specs.Tables.{errors_from, sections_of}
use Rattle.laws_view.specs.Limits.{Limit, pat_limit, pmt_limit, pts_limit}

-- the report names a packet, by a rule, on a PID
abbrev pub IsReported : ℕ → ℕ → List ℕ → Rule → ℕ → ℕ → Type 0
IsReported rate given bytes rule pid packet = Contains (stream_report rate given bytes).faults (fault rule (Some pid) packet)

-- a packet follows another of these packets after more time than a limit in milliseconds: a packet lasts 1,504,000 / R ms at R bits a second
pub record IsTooLate (rate limit : ℕ) (places : List ℕ) (packet : ℕ) : Type 0 where
  pub before : ℕ
  pub next : Contains (successive places) (before, packet)
  pub too_long : limit * rate < (packet - before) * 1504000

-- 3.1.a, 3.5.a, 3.6.a and 3.8: sections of a table_id on a PID begin at these packets
abbrev pub TableFaultLaw : Limit → ℕ → ℕ → Type 0
TableFaultLaw limit pid table_id = (rate given packet : ℕ) (bytes : List ℕ) →
    IsReported rate given bytes limit.rule pid packet ↔ IsTooLate rate limit.standard (table_begins table_id (found_on pid bytes)) packet

-- for a table without parts that recur by themselves the report names the errors that `tr101290` finds
abbrev pub TableErrorLaw : Limit → ℕ → ℕ → Type 0
TableErrorLaw limit pid table_id = (rate given : ℕ) (bytes : List ℕ) → 0 < rate → monitored limit.rule rate given bytes ≡ in_order
    (map (λ e. fault limit.rule (Some pid) e.section.packet) (errors_from (no_section (ConstantRate rate)) (sections_of pid table_id (found_on pid bytes))))

-- 1.3.a: the beginning of the stream, the packets at which a section of table_id 0x00 begins on PID 0, and the end of the stream
abbrev pub PatFaultLaw : Type 0
PatFaultLaw = (rate given packet : ℕ) (bytes : List ℕ) → IsReported rate given bytes pat_limit.rule 0x00 packet
    ↔ IsTooLate rate pat_limit.standard (0 ∷ table_begins 0x00 (found_on 0 bytes) ++ (length bytes / 188) ∷ []) packet

-- 1.5.a: a PAT names the PID from a packet on; the places are that packet, later packets where a section of table_id 0x02 begins, and the end
pub record IsLateMap (rate limit pid : ℕ) (bytes : List ℕ) (packet : ℕ) : Type 0 where
  pub since : ℕ
  pub named : named_since pid bytes ≡ Some since
  pub too_late : IsTooLate rate limit (since ∷ filter (λ place. nat_lt since place) (table_begins 0x02 (found_on pid bytes)) ++ (length bytes / 188) ∷ [])
      packet

abbrev pub MapFaultLaw : Type 0
MapFaultLaw = (rate given pid packet : ℕ) (bytes : List ℕ) →
    IsReported rate given bytes pmt_limit.rule pid packet ↔ IsLateMap rate pmt_limit.standard pid bytes packet

-- 2.5: PES packets with a PTS begin on a PID at these packets
abbrev pub StampFaultLaw : Type 0
StampFaultLaw = (rate given pid packet : ℕ) (bytes : List ℕ) →
    IsReported rate given bytes pts_limit.rule pid packet ↔ IsTooLate rate pts_limit.standard (pts_begins (found_on pid bytes)) packet

-- 2.2 CRC_error (rule 5), and rule 6: at the packet a section ends on the PID that is refused for its check word, or for another reason
pub record IsFound (rule : Rule) (pid : ℕ) (bytes : List ℕ) (packet : ℕ) : Type 0 where
  pub finding : PidFinding
  pub found : Contains (found_on pid bytes) finding
  pub here : finding.packet ≡ packet
  pub fails : finding_rule finding.found.what ≡ Some rule

abbrev pub FindingFaultLaw : Rule → Type 0
FindingFaultLaw rule = (rate given pid packet : ℕ) (bytes : List ℕ) → IsReported rate given bytes rule pid packet ↔ IsFound rule pid bytes packet
