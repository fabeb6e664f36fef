-- Laws of views.
use Rattle.std.specs.Prelude.{◌≡◌, ℕ, ◌%◌, List, length}
use Rattle.packet_sync.specs.Laws.{IsInStep}
use Rattle.ts_packet.specs.PidList.{cut_packets}
use Rattle.ts_watch.specs.Choices.{RequestView}
use Rattle.analysis.specs.Analysis.{after_all, events_all, start}
use Rattle.tsview_cli.specs.CapturedStreams.{events_before, kept_of, left_in}

-- a stream in step from its first byte on is viewed packet by packet, cut from that byte on
pub record IsViewedInStep (request : RequestView) (bytes : List ℕ) : Type 0 where
  pub kept : kept_of request bytes ≡ after_all (start request) (cut_packets bytes)
  pub events : events_before request bytes ≡ events_all (start request) (cut_packets bytes)
  pub left : left_in bytes ≡ length bytes % 188

abbrev pub InStepViewed : Type 0
InStepViewed = (request : RequestView) (bytes : List ℕ) → IsInStep bytes → IsViewedInStep request bytes
