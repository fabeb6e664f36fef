-- Counts of the two buffers of video: excesses of both, late units, and the rows around the greatest excess of each.
use Rattle.std.specs.Prelude.{ℕ, is_some, if◌then◌else◌, length, Option, Some, None}
use Rattle.es_events.specs.Traces.{no_traces, traces_after}
use Rattle.es_events.specs.declared.row.TraceRow.{TraceRow}
use Rattle.tstd_rows.specs.Held.{Held}
use Rattle.tstd_rows.specs.History.{last_of}
use Rattle.tstd_rows.specs.HeldVideo.{VideoEnteredView}
use Rattle.tstd_rows.specs.declared.late_causes.VideoUnit.{VideoUnit}
use Rattle.tstd_rows.specs.VideoViewed.{unit_cause}
use Rattle.es_events.specs.declared.video_tally.VideoLimits.{VideoLimits}
use Rattle.es_events.specs.declared.video_tally.VideoTally.{VideoTally}
use Rattle.es_events.specs.Tallies.{more}

abbrev pub none_of_video : VideoTally
none_of_video = record { multiplexing = 0; elementary = 0; late = 0; traces = no_traces }

-- how many excesses ended, of both
abbrev pub video_excess_counts : VideoEnteredView → ℕ × ℕ
video_excess_counts e = (length e.multiplexing, if is_some e.elementary then 1 else 0)

abbrev pub with_video_excesses : VideoTally → ℕ → ℕ → VideoTally
with_video_excesses t multiplexing elementary = record t { multiplexing = more t.multiplexing multiplexing; elementary = more t.elementary elementary }

-- a unit is late whose last byte goes to the elementary stream buffer after it is due
unfoldable pub with_late_if : VideoTally → Option VideoUnit → VideoTally
with_late_if t None = t
with_late_if t (Some u) = record t { late = more t.late (if is_some (unit_cause u) then 1 else 0) }

-- the counts after the excesses and the unit that a packet has ended
abbrev pub with_video : VideoTally → VideoEnteredView → Option VideoUnit → VideoTally
with_video t e unit = with_late_if (with_video_excesses t (length e.multiplexing) (if is_some e.elementary then 1 else 0)) unit

-- the row of a packet in the two buffers of video, which hold `h` after it: `transport` has the multiplexing buffer, `main` the elementary one
abbrev pub video_row : Held → ℕ → VideoEnteredView → Option VideoUnit → TraceRow
video_row h packet e unit = record {
  packet = packet;
  left = last_of h.rate h.parts;
  transport = e.multiplexing_most;
  main = e.elementary_most;
  least = None;
  begins = is_some unit;
}

-- the counts with a row, if the buffers of video are viewed
unfoldable pub with_video_row : VideoTally → Option VideoLimits → TraceRow → VideoTally
with_video_row t None row = t
with_video_row t (Some l) row = record t { traces = traces_after t.traces row l.multiplexing l.elementary }

-- the counts after a packet, with its row
abbrev pub video_tally_with : VideoTally → Option VideoLimits → Held → ℕ → VideoEnteredView → Option VideoUnit → VideoTally
video_tally_with t limits h packet e unit = with_video_row (with_video t e unit) limits (video_row h packet e unit)
