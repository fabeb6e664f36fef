-- `monitor`: the report on a stream.
use Rattle.std.specs.Prelude.{◌≡◌, ℕ, ◌%◌, ◌==◌, not, if◌then◌else◌, List, length, Result, Ok, Err}
use Rattle.monitor.specs.Reports.{ReportView}
use Rattle.monitor.specs.ReportLines.{report_text}
use Rattle.monitor.specs.ReportOf.{stream_report}
use Rattle.monitor.specs.Taken.{ReportsTaken}
use Rattle.monitor.specs.MonitorStates.{MonitorState}
use Rattle.devices.specs.Devices.{Device}
use Rattle.devices.specs.Outcomes.{Outcome, printed}
use Rattle.devices.specs.WholeInput.{ReadsInput}
use Rattle.tsmux_cli.specs.declared.request.MonitorOptions.{MonitorOptions}
use Rattle.devices.specs.declared.halt.Halt.{Halt}
use Rattle.devices.specs.declared.halt.Halt.TheVariants.{Memory}

-- 1 if there is a fault
abbrev pub report_status : ReportView → ℕ
report_status report = if length report.faults == 0 then 0 else 1

-- the lines of the report on the stream
abbrev pub wanted_report : MonitorOptions → List ℕ → ReportView
wanted_report options bytes = stream_report options.rate options.pcr_limit bytes

unfoldable pub monitored : MonitorOptions → List ℕ → Outcome
monitored options bytes = printed (report_text (wanted_report options bytes)) (report_status (wanted_report options bytes))

abbrev pub Monitors : MonitorOptions → List ℕ → Outcome → Type 0
Monitors options bytes outcome = outcome ≡ monitored options bytes

-- the report of a stream of this size that was taken, if there was memory for it; it may end within a packet
abbrev pub Concludes : MonitorState → Result ℕ Halt → Result ReportView Halt → Type 0
Concludes monitor (Ok size) (Ok report) = ReportsTaken monitor (not (size % 188 == 0)) report
Concludes monitor (Ok size) (Err halt) = halt ≡ Memory
Concludes monitor (Err halt) result = result ≡ Err halt

-- the report is that on the whole input
pub record IsReportOn (options : MonitorOptions) (input : Device) (report : ReportView) : Type 0 where
  pub bytes : List ℕ
  pub read : ReadsInput input (Ok bytes)
  pub is : report ≡ wanted_report options bytes

abbrev pub ReportsOn : MonitorOptions → Device → Result ReportView Halt → Type 0
ReportsOn options input (Ok report) = IsReportOn options input report
ReportsOn options input (Err halt) = ReadsInput input (Err halt)
