-- What the laws of this crate say.
use Rattle.std.specs.Prelude.{◌≡◌, ℕ, false, List}
use Rattle.demux.specs.Laws.{found_of}
use Rattle.pid_findings.specs.Views.{FindingView}
use Rattle.stamp_repair.specs.DataTimes.{is_unstamped, seen_in, timed}
use Rattle.packet_pcr.specs.declared.pcr_reading.FoundPcr.{FoundPcr}

-- the findings of a PID that has no PES packet of private_stream_1, or one with a PTS, stay as they are
abbrev pub OthersStay : Type 0
OthersStay = (references : List FoundPcr) (findings : List FindingView) (pid : ℕ) → is_unstamped (seen_in findings) pid ≡ false →
    found_of pid (timed references findings) ≡ found_of pid findings
