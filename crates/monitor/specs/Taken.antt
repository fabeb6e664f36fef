-- What a monitor has taken, and what its report says of it.
use Rattle.std.specs.Prelude.{◌≡◌, ℕ, ◌/◌, ◌-◌, ◌^◌, ◌<◌, Bool, List, ◌++◌, length}
use Rattle.ts_packet.specs.PidList.{cut_packets}
use Rattle.monitor.specs.ReportOf.{stream_report}
use Rattle.monitor.specs.Reports.{ReportView, is_cut}
use Rattle.monitor.specs.MonitorStates.{MonitorState, none_taken, packets_taken}

-- a monitor at this rate, in bits a second, and with this greatest gap of clock references, in milliseconds, has taken
-- exactly these packets
abbrev pub HasTaken : ℕ → ℕ → List (List ℕ) → MonitorState → Type 0
HasTaken rate limit packets monitor = monitor ≡ packets_taken (none_taken rate limit) packets

-- these packets were taken after the packets before
abbrev pub Takes : List (List ℕ) → MonitorState → MonitorState → Type 0
Takes more before after = (rate limit : ℕ) (packets : List (List ℕ)) → HasTaken rate limit packets before → HasTaken rate limit (packets ++ more) after

-- the bytes are these packets and, in a stream that is cut, some bytes of the next
pub record IsStream (packets : List (List ℕ)) (cut : Bool) (bytes : List ℕ) : Type 0 where
  pub packets_are : cut_packets bytes ≡ packets
  pub cut_is : is_cut bytes ≡ cut

-- the report is exactly the report of the stream that was taken, of fewer than 2^64 - 1 packets
abbrev pub ReportsTaken : MonitorState → Bool → ReportView → Type 0
ReportsTaken monitor cut report = (rate limit : ℕ) (packets : List (List ℕ)) (bytes : List ℕ) →
    HasTaken rate limit packets monitor → IsStream packets cut bytes → length bytes / 188 < 2 ^ 64 - 1 → report ≡ stream_report rate limit bytes
