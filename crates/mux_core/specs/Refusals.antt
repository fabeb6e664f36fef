-- Which unit is refused, if a PID carries a single stream without a plan.
use Rattle.std.specs.Prelude.{ℕ, ◌==◌, not, false, if◌then◌else◌, Option, Some}
use Rattle.pes_packet.specs.AccessUnits.{AccessUnit}
use Rattle.pes_packet.specs.StreamIds.{greatest_size}
use Rattle.unit_queue.specs.Causes.{or_cause, own_cause, time_cause}
use Rattle.unit_queue.specs.declared.refusal.FeedError.{FeedError}
use Rattle.unit_queue.specs.declared.refusal.FeedError.TheVariants.{UnknownStream}

-- how long after its DTS the PTS of a unit may be, as no key gives another limit
abbrev pub pts_limit : ℕ
pts_limit = 90_000

-- the first cause for which stream 0 of this stream_id refuses a unit, if no DTS below `min_next_dts` is accepted: no unit is late
unfoldable pub refusal : ℕ → ℕ → ℕ → AccessUnit → Option FeedError
refusal id min_next_dts stream unit =
    if not (stream == 0) then Some UnknownStream
    else or_cause (own_cause (greatest_size id) pts_limit min_next_dts unit) (time_cause false unit.dts)
