-- The lines of a report: words and decimal numbers with one space between, and LF.
use Rattle.std.specs.Prelude.{ℕ, List, ◌++◌, length, Option, Some, None, codes, decimal}
use Rattle.std.specs.List.{flat_map}
use Rattle.monitor.specs.declared.fault.StreamFault.{StreamFault}
use Rattle.monitor.specs.declared.fault.Rule.{Rule}
use Rattle.monitor.specs.declared.fault.Rule.TheVariants as rules
use Rattle.monitor.specs.declared.reports.PidCounts.{PidCounts}
use Rattle.monitor.specs.Reports.{ReportView}

-- the name of a rule
unfoldable pub rule_name : Rule → List ℕ
rule_name rules.Sync = codes "sync"
rule_name rules.Packet = codes "packet"
rule_name rules.Error = codes "error"
rule_name rules.Counter = codes "counter"
rule_name rules.Crc = codes "crc"
rule_name rules.Section = codes "section"
rule_name rules.Pat = codes "pat"
rule_name rules.Pmt = codes "pmt"
rule_name rules.Nit = codes "nit"
rule_name rules.Sdt = codes "sdt"
rule_name rules.Eit = codes "eit"
rule_name rules.Tdt = codes "tdt"
rule_name rules.Pcr = codes "pcr"
rule_name rules.Pts = codes "pts"
rule_name rules.Cut = codes "cut"

-- a PID, or `-` for no PID
unfoldable pub pid_text : Option ℕ → List ℕ
pid_text None = codes "-"
pid_text (Some pid) = decimal pid

abbrev pub number_text : List ℕ → ℕ → List ℕ
number_text name number = name ++ decimal number

-- `pid P packets N starts N`
abbrev pub packet_counts_text : PidCounts → List ℕ
packet_counts_text counts = number_text (codes "pid ") counts.pid ++ number_text (codes " packets ") counts.packets
    ++ number_text (codes " starts ") counts.starts

-- ` duplicates N scrambled N`
abbrev pub finding_counts_text : PidCounts → List ℕ
finding_counts_text counts = number_text (codes " duplicates ") counts.duplicates ++ number_text (codes " scrambled ") counts.scrambled

-- both
abbrev pub pid_line : PidCounts → List ℕ
pid_line counts = packet_counts_text counts ++ finding_counts_text counts ++ codes "\n"

-- `fault I P RULE`
abbrev pub fault_line : StreamFault → List ℕ
fault_line fault = codes "fault " ++ decimal fault.packet ++ codes " " ++ pid_text fault.pid ++ codes " " ++ rule_name fault.rule ++ codes "\n"

-- `NAME N`
abbrev pub total_line : List ℕ → ℕ → List ℕ
total_line name number = name ++ codes " " ++ decimal number ++ codes "\n"

abbrev pub pid_lines : List PidCounts → List ℕ
pid_lines pids = flat_map pid_line pids

abbrev pub fault_lines : List StreamFault → List ℕ
fault_lines faults = flat_map fault_line faults

-- the number of packets, a line for each PID, one for each fault, and the number of faults
unfoldable pub report_text : ReportView → List ℕ
report_text report = total_line (codes "packets") report.packets ++ pid_lines report.pids ++ fault_lines report.faults
    ++ total_line (codes "faults") (length report.faults)
