-- Events with the bytes in a stream's buffers near the greatest excess of each buffer, one for each row that is kept.
use Rattle.std.specs.Prelude.{ℕ, if◌then◌else◌, List, [], ◌++◌, flat_map, ◌==◌, Option, Some, None}
use Rattle.std.specs.Option.{option_to_list}
use Rattle.tstd_rows.specs.Limits.{tb_size}
use Rattle.es_events.specs.declared.ring.Ring.{Ring}
use Rattle.es_events.specs.declared.row.TraceRow.{TraceRow}
use Rattle.es_events.specs.declared.traces.Trace.{Trace}
use Rattle.es_events.specs.declared.traces.Traces.{Traces}
use Rattle.es_events.specs.Rings.{rows_of}
use Rattle.es_events.specs.Traces.{ring_of}
use Rattle.events.specs.declared.event.Event.{Event}
use Rattle.events.specs.declared.event.Event.TheVariants as found
use Rattle.events.specs.declared.rule_event.BufferKind.{BufferKind}
use Rattle.events.specs.declared.rule_event.BufferKind.TheVariants.{Elementary, Main, Multiplexing, System, TableTransport, Transport}
use Rattle.events.specs.declared.rule_event.RuleEvent.TheVariants as rules
use Rattle.es_events.specs.declared.entry_events.Place.{Place}
use Rattle.es_events.specs.declared.view_options.ViewOptions.{ViewOptions}
use Rattle.es_events.specs.EntryEvents.{moment_of, with_size}
use Rattle.es_events.specs.declared.video_tally.VideoLimits.{VideoLimits}

abbrev pub transport_point : ViewOptions → Place → ℕ → TraceRow → Event
transport_point options place peak row = found.Rule (rules.FaultTrace (record {
  pid = place.pid;
  buffer = Transport;
  packet = row.packet;
  left = moment_of options place.rx row.left;
  least = None;
  most = row.transport;
  size = tb_size;
  peak = peak;
  begins = row.begins;
}))

abbrev pub main_point : ViewOptions → Place → ℕ → TraceRow → ℕ → Event
main_point options place peak row least = found.Rule (rules.FaultTrace (record {
  pid = place.pid;
  buffer = Main;
  packet = row.packet;
  left = moment_of options place.rx row.left;
  least = Some least;
  most = row.main;
  size = place.size;
  peak = peak;
  begins = row.begins;
}))

-- a row whose bytes did not enter the main buffer says nothing of it
unfoldable pub main_point_if : ViewOptions → Place → ℕ → TraceRow → Option ℕ → Option Event
main_point_if options place peak row None = None
main_point_if options place peak row (Some least) = Some (main_point options place peak row least)

abbrev pub video_point : ViewOptions → Place → BufferKind → ℕ → TraceRow → ℕ → Event
video_point options place kind peak row most = found.Rule (rules.FaultTrace (record {
  pid = place.pid;
  buffer = kind;
  packet = row.packet;
  left = moment_of options place.rx row.left;
  least = None;
  most = most;
  size = place.size;
  peak = peak;
  begins = row.begins;
}))

-- the point of a buffer of video, if bytes of the row entered the buffer
abbrev pub video_point_if : ViewOptions → Place → BufferKind → ℕ → TraceRow → ℕ → Option Event
video_point_if options place kind peak row most = if most == 0 then None else Some (video_point options place kind peak row most)

-- the point of a buffer that held at most `peak` bytes
unfoldable pub point_of : ViewOptions → Place → BufferKind → ℕ → TraceRow → Option Event
point_of options place Transport peak row = Some (transport_point options place peak row)
point_of options place Multiplexing peak row = video_point_if options place Multiplexing peak row row.transport
point_of options place Elementary peak row = video_point_if options place Elementary peak row row.main
point_of options place Main peak row = main_point_if options place peak row row.least
point_of options place TableTransport peak row = None
point_of options place System peak row = None

abbrev pub points_of : ViewOptions → Place → BufferKind → ℕ → TraceRow → List Event
points_of options place kind peak row = option_to_list (point_of options place kind peak row)

abbrev pub ring_points : ViewOptions → Place → BufferKind → ℕ → Ring → List Event
ring_points options place kind peak ring = flat_map (points_of options place kind peak) (rows_of ring)

-- the points of a buffer that was over its size, from a ring with the last rows of its stream
abbrev pub trace_points : ViewOptions → Place → BufferKind → Trace → Ring → List Event
trace_points options place kind t ring = if t.greatest == 0 then [] else ring_points options place kind t.greatest (ring_of t ring)

abbrev pub trace_events : ViewOptions → Place → Traces → List Event
trace_events options place t = trace_points options place Transport t.transport t.ring ++ trace_points options place Main t.main t.ring

-- the events of both buffers of video, if they are viewed, with their sizes
unfoldable pub video_trace_events : ViewOptions → Place → Option VideoLimits → Traces → List Event
video_trace_events options place None t = []
video_trace_events options place (Some l) t =
    trace_points options (with_size place l.multiplexing) Multiplexing t.transport t.ring
    ++ trace_points options (with_size place l.elementary) Elementary t.main t.ring
