-- What the two buffers of video hold, if they are viewed (ISO/IEC 13818-1, 2.4.2.3).
use Rattle.std.specs.Prelude.{ℕ, ◌==◌, ◌&&◌, ◌^◌, nat_le, nat_lt, Bool, true, if◌then◌else◌, Option, Some, None}
use Rattle.tstd_rows.specs.VideoViewed.{elementary_peak, multiplexing_buffer, multiplexing_under_way}
use Rattle.tstd_rows.specs.Held.{Held}
use Rattle.tstd_rows.specs.HeldVideo.{VideoSizes, elementary_under_way, sizes_of, video_unit_in}
use Rattle.tstd_rows.specs.declared.video_buffers.VideoRates.{VideoRates}
use Rattle.es_events.specs.declared.video_figures.VideoFigures.{VideoFigures}
use Rattle.es_events.specs.declared.video_tally.VideoLimits.{VideoLimits}
use Rattle.es_events.specs.declared.video_tally.VideoTally.{VideoTally}
use Rattle.es_events.specs.VideoTallies.{with_late_if}

-- buffers can be viewed that leak at 64,000 bits a second or more, behind a transport buffer that is drained
abbrev pub are_viewable : ℕ → VideoRates → Bool
are_viewable rx rates = nat_lt 0 rx && (nat_le 64000 rates.rbx && (nat_lt 0 rates.multiplexing && nat_le rates.multiplexing (2 ^ 40)))

-- their sizes, behind a transport buffer that is drained at `rx` bits a second
unfoldable pub sizes_if : ℕ → ℕ → Option VideoRates → Option VideoSizes
sizes_if rate rx None = None
sizes_if rate rx (Some rates) = if are_viewable rx rates then Some (sizes_of rate rx rates) else None

unfoldable pub limits_of : Option VideoSizes → Option VideoLimits
limits_of None = None
limits_of (Some s) = Some (record { multiplexing = s.multiplexing; elementary = s.elementary })

-- the most that each buffer held, its current excess, and the current unit
abbrev pub figures_with : VideoSizes → Held → VideoFigures
figures_with s h = record {
  limits = record { multiplexing = s.multiplexing; elementary = s.elementary };
  multiplexing_most = (multiplexing_buffer h.rate s.leak h.parts).most;
  elementary_most = elementary_peak h.rate s.leak h.parts;
  multiplexing = multiplexing_under_way h.rate s.leak s.multiplexing h.parts;
  elementary = elementary_under_way h.rate s.leak s.elementary h.parts;
  unit = video_unit_in s h.rate h.parts;
}

unfoldable pub figures_of : Option VideoSizes → Held → Option VideoFigures
figures_of None h = None
figures_of (Some s) h = Some (figures_with s h)

-- the counts, with the current unit as the last unit
abbrev pub closed_video : VideoFigures → VideoTally → VideoTally
closed_video f t = with_late_if t f.unit

-- neither held more than its size, and no unit was late
unfoldable pub is_video_good : Option VideoFigures → VideoTally → Bool
is_video_good None t = true
is_video_good (Some f) t =
    nat_le f.multiplexing_most f.limits.multiplexing && (nat_le f.elementary_most f.limits.elementary && (closed_video f t).late == 0)
