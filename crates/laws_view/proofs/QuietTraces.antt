-- Events about buffer contents near their greatest excess: the monitor has no rule for them.
use Rattle.std.proofs.Common.{ℕ, ◌==◌, Bool, true, false, List, [], cond, Option, Some, None, refl}
use Rattle.std.specs.Prelude.{if◌then◌else◌}
use Rattle.std.specs.Option.{option_to_list}
use Rattle.es_events.specs.Rings.{rows_of}
use Rattle.es_events.specs.Traces.{ring_of}
use Rattle.es_events.specs.declared.ring.Ring.{Ring}
use Rattle.es_events.specs.declared.row.TraceRow.{TraceRow}
use Rattle.es_events.specs.declared.traces.Trace.{Trace}
use Rattle.events.specs.declared.event.Event.{Event}
use Rattle.events.specs.declared.rule_event.BufferKind.{BufferKind}
use Rattle.events.specs.declared.rule_event.BufferKind.TheVariants as kinds
use Rattle.es_events.specs.declared.traces.Traces.{Traces}
use Rattle.es_events.specs.declared.entry_events.Place.{Place}
use Rattle.es_events.specs.declared.video_tally.VideoLimits.{VideoLimits}
use Rattle.es_events.specs.EntryEvents.{with_size}
use Rattle.es_events.specs.VideoFigures.{limits_of}
use Rattle.es_events.specs.declared.view_options.ViewOptions.{ViewOptions}
use Rattle.es_view.specs.Entries.{EntryState, place_at, seen_tally, traces_of}
use Rattle.es_events.specs.TraceEvents.{main_point_if, point_of, points_of, ring_points, trace_events, trace_points, video_point, video_trace_events}
use Rattle.laws_view.specs.ViewedFaults.{fault_in}
use Rattle.laws_view.proofs.QuietEvents.{Quiet, all_of, join}

main_quiet : (options : ViewOptions) (place : Place) (peak : ℕ) (row : TraceRow) (o : Option ℕ) →
    Quiet (option_to_list (main_point_if options place peak row o))
unfolding main_point_if fault_in
main_quiet options place peak row None = refl
main_quiet options place peak row (Some least) = refl

video_quiet : (options : ViewOptions) (place : Place) (kind : BufferKind) (peak : ℕ) (row : TraceRow) (most : ℕ) (none : Bool) →
    Quiet (option_to_list (if none then None else Some (video_point options place kind peak row most)))
unfolding fault_in
video_quiet options place kind peak row most true = refl
video_quiet options place kind peak row most false = refl

row_quiet : (options : ViewOptions) (place : Place) (kind : BufferKind) (peak : ℕ) (row : TraceRow) → Quiet (points_of options place kind peak row)
unfolding fault_in point_of
row_quiet options place kinds.Transport peak row = refl
row_quiet options place kinds.Multiplexing peak row = video_quiet options place kinds.Multiplexing peak row row.transport (row.transport == 0)
row_quiet options place kinds.Elementary peak row = video_quiet options place kinds.Elementary peak row row.main (row.main == 0)
row_quiet options place kinds.Main peak row = main_quiet options place peak row row.least
row_quiet options place kinds.TableTransport peak row = refl
row_quiet options place kinds.System peak row = refl

unless : (t : Bool) (xs : List Event) → Quiet xs → Quiet (cond t [] xs)
unless true xs h = refl
unless false xs h = h

trace_quiet : (options : ViewOptions) (place : Place) (kind : BufferKind) (t : Trace) (ring : Ring) → Quiet (trace_points options place kind t ring)
trace_quiet options place kind t ring =
    unless (t.greatest == 0) (ring_points options place kind t.greatest (ring_of t ring))
    (all_of (points_of options place kind t.greatest) (rows_of (ring_of t ring)) (row_quiet options place kind t.greatest))

stream_quiet : (options : ViewOptions) (place : Place) (t : Traces) → Quiet (trace_events options place t)
stream_quiet options place t =
    join (trace_points options place kinds.Transport t.transport t.ring) (trace_points options place kinds.Main t.main t.ring)
    (trace_quiet options place kinds.Transport t.transport t.ring) (trace_quiet options place kinds.Main t.main t.ring)

video_traces_quiet : (options : ViewOptions) (place : Place) (o : Option VideoLimits) (t : Traces) → Quiet (video_trace_events options place o t)
unfolding video_trace_events
video_traces_quiet options place None t = refl
video_traces_quiet options place (Some l) t =
    join (trace_points options (with_size place l.multiplexing) kinds.Multiplexing t.transport t.ring)
    (trace_points options (with_size place l.elementary) kinds.Elementary t.main t.ring)
    (trace_quiet options (with_size place l.multiplexing) kinds.Multiplexing t.transport t.ring)
    (trace_quiet options (with_size place l.elementary) kinds.Elementary t.main t.ring)

pub entry_traces : (options : ViewOptions) (e : EntryState) → Quiet (traces_of options e)
entry_traces options e =
    join (trace_events options (place_at 0 e) (seen_tally e).traces) (video_trace_events options (place_at 0 e) (limits_of e.video) e.video_tally.traces)
    (stream_quiet options (place_at 0 e) (seen_tally e).traces)
    (video_traces_quiet options (place_at 0 e) (limits_of e.video) e.video_tally.traces)
