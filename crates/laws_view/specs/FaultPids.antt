-- The PIDs of faults in a report.
use Rattle.std.specs.Prelude.{◌≡◌, ℕ, not, is_some, Bool, true, List, Option}
use Rattle.std.specs.List.{Contains}
use Rattle.monitor.specs.declared.fault.StreamFault.{StreamFault}
use Rattle.monitor.specs.declared.fault.Rule.{Rule}
use Rattle.monitor.specs.declared.fault.Rule.TheVariants as rules
use Rattle.monitor.specs.ReportOf.{stream_report}
use Rattle.laws_view.specs.FaultsByRule.{is_pid}

-- whether a fault has no PID, the PID of its table, or any PID, as its rule asks
unfoldable pub has_its_pid : Rule → Option ℕ → Bool
has_its_pid rules.Sync pid = not (is_some pid)
has_its_pid rules.Packet pid = not (is_some pid)
has_its_pid rules.Error pid = not (is_some pid)
has_its_pid rules.Counter pid = is_some pid
has_its_pid rules.Crc pid = is_some pid
has_its_pid rules.Section pid = is_some pid
has_its_pid rules.Pat pid = is_pid 0x00 pid
has_its_pid rules.Pmt pid = is_some pid
has_its_pid rules.Nit pid = is_pid 0x10 pid
has_its_pid rules.Sdt pid = is_pid 0x11 pid
has_its_pid rules.Eit pid = is_pid 0x12 pid
has_its_pid rules.Tdt pid = is_pid 0x14 pid
has_its_pid rules.Pcr pid = is_some pid
has_its_pid rules.Pts pid = is_some pid
has_its_pid rules.Cut pid = not (is_some pid)

-- so the laws of each rule, which name a PID, cover all of a report
abbrev pub PidLaw : Type 0
PidLaw = (rate given : ℕ) (bytes : List ℕ) (f : StreamFault) → Contains (stream_report rate given bytes).faults f → has_its_pid f.rule f.pid ≡ true
