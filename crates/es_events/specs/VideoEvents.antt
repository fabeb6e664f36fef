-- Events of the two buffers of video: a multiplexing buffer and an elementary stream buffer.
use Rattle.std.specs.Prelude.{ℕ, ◌-◌, List, [], ◌∷◌, ◌++◌, Option, Some, None}
use Rattle.std.specs.Option.{option_to_list}
use Rattle.tstd_rows.specs.declared.excess.Excess.{Excess}
use Rattle.tstd_rows.specs.declared.late_causes.LateCause.{LateCause}
use Rattle.tstd_rows.specs.declared.late_causes.LateCause.TheVariants as causes
use Rattle.tstd_rows.specs.declared.late_causes.VideoUnit.{VideoUnit}
use Rattle.tstd_rows.specs.VideoViewed.{unit_cause}
use Rattle.tstd_rows.specs.HeldVideo.{VideoEnteredView}
use Rattle.events.specs.declared.video_event.LateCause.{LateCause as ReportedCause}
use Rattle.events.specs.declared.video_event.LateCause.TheVariants as reported_causes
use Rattle.events.specs.declared.event.Event.{Event}
use Rattle.events.specs.declared.event.Event.TheVariants as found
use Rattle.events.specs.declared.rule_event.BufferKind.TheVariants.{Multiplexing, Elementary}
use Rattle.es_events.specs.declared.entry_events.Place.{Place}
use Rattle.es_events.specs.declared.video_figures.VideoFigures.{VideoFigures}
use Rattle.es_events.specs.declared.video_tally.VideoLimits.{VideoLimits}
use Rattle.es_events.specs.declared.video_tally.VideoTally.{VideoTally}
use Rattle.es_events.specs.declared.view_options.ViewOptions.{ViewOptions}
use Rattle.es_events.specs.EntryEvents.{excess_events, moment_of, span_of, with_one, with_size}
use Rattle.es_events.specs.VideoFigures.{closed_video}

-- 1. What ends with a packet

-- a unit whose last byte goes to the elementary stream buffer after it is due, reported at the packet where the next unit begins, with the cause: the
-- multiplexing buffer alone or a full elementary stream buffer
unfoldable pub reported_cause : LateCause → ReportedCause
reported_cause causes.Multiplex = reported_causes.Multiplex
reported_cause causes.FullBuffer = reported_causes.FullBuffer

abbrev pub elementary_late_event : ViewOptions → Place → VideoUnit → LateCause → Event
elementary_late_event options place u cause = found.ElementaryLate (record {
  pid = place.pid;
  packet = place.packet;
  due = moment_of options place.rx u.seen.due.until;
  left = moment_of options place.rx u.entered;
  by = span_of options place.rx (u.entered - u.seen.due.deadline);
  bytes = u.seen.bytes;
  cause = reported_cause cause;
})

unfoldable pub late_events_by : ViewOptions → Place → VideoUnit → Option LateCause → List Event
late_events_by options place u None = []
late_events_by options place u (Some cause) = elementary_late_event options place u cause ∷ []

unfoldable pub elementary_late_events : ViewOptions → Place → Option VideoUnit → List Event
elementary_late_events options place None = []
elementary_late_events options place (Some u) = late_events_by options place u (unit_cause u)

abbrev pub events_of_both : ViewOptions → Place → VideoLimits → List Excess → Option Excess → Option VideoUnit → List Event
events_of_both options place limits multiplexing elementary unit =
    excess_events Multiplexing options (with_size place limits.multiplexing) multiplexing
    ++ (excess_events Elementary options (with_size place limits.elementary) (option_to_list elementary) ++ elementary_late_events options place unit)

abbrev pub ended_of_both : ViewOptions → Place → VideoLimits → VideoEnteredView → Option VideoUnit → List Event
ended_of_both options place limits e unit = events_of_both options place limits e.multiplexing e.elementary unit

-- none if the buffers are not viewed
unfoldable pub video_ended_events : ViewOptions → Place → Option VideoLimits → VideoEnteredView → Option VideoUnit → List Event
video_ended_events options place None e unit = []
video_ended_events options place (Some limits) e unit = ended_of_both options place limits e unit

-- 2. At the end: current excesses come first, then totals of both buffers

abbrev pub multiplexing_event : Place → VideoFigures → VideoTally → Event
multiplexing_event place f t = found.Buffer (record {
  pid = place.pid;
  buffer = Multiplexing;
  most = f.multiplexing_most;
  size = f.limits.multiplexing;
  excesses = with_one t.multiplexing f.multiplexing;
  units = None;
  late = None;
  unread = None;
})

abbrev pub elementary_event : Place → VideoFigures → ℕ → VideoTally → Event
elementary_event place f units t = found.Buffer (record {
  pid = place.pid;
  buffer = Elementary;
  most = f.elementary_most;
  size = f.limits.elementary;
  excesses = with_one t.elementary f.elementary;
  units = Some units;
  late = Some (closed_video f t).late;
  unread = None;
})

abbrev pub video_under_way : ViewOptions → Place → VideoFigures → List Event
video_under_way options place f = events_of_both options place f.limits (option_to_list f.multiplexing) f.elementary f.unit

abbrev pub closing_of_both : ViewOptions → Place → VideoFigures → ℕ → VideoTally → List Event
closing_of_both options place f units t =
    video_under_way options place f ++ (multiplexing_event place f t ∷ elementary_event place f units t ∷ [])

-- `units` includes the current unit
unfoldable pub video_closing_events : ViewOptions → Place → Option VideoFigures → ℕ → VideoTally → List Event
video_closing_events options place None units t = []
video_closing_events options place (Some f) units t = closing_of_both options place f units t
