-- The report of a stream.
use Rattle.std.specs.Prelude.{ℕ, ◌/◌, List, length}
use Rattle.monitor.specs.InOrder.{in_order}
use Rattle.monitor.specs.Faults.{faults_of}
use Rattle.monitor.specs.CountsOfPids.{counts_of_all}
use Rattle.monitor.specs.Reports.{ReportView}

-- at a rate in bits a second, with a greatest gap of clock references in milliseconds
unfoldable pub stream_report : ℕ → ℕ → List ℕ → ReportView
stream_report rate limit bytes = record {
  packets = length bytes / 188;
  pids = counts_of_all bytes;
  faults = in_order (faults_of rate limit bytes);
}
