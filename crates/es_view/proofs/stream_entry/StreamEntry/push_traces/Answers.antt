use Rattle.std.proofs.Common.{◌≡◌, ◌∙◌, List, ◌++◌, Option, ap, ap₂, append_assoc}
use Rattle.events.specs.declared.event.Event.{Event}
use Rattle.es_events.specs.TraceEvents.{trace_events, video_trace_events}
use Rattle.es_events.specs.VideoFigures.{limits_of}
use Rattle.es_events.specs.declared.entry_events.Place.{Place}
use Rattle.es_events.specs.declared.tally.Tally.{Tally}
use Rattle.es_events.specs.declared.video_tally.VideoLimits.{VideoLimits}
use Rattle.es_events.specs.declared.video_tally.VideoTally.{VideoTally}
use Rattle.es_view.specs.Entries.{place_at, seen_held, seen_tally}
use Rattle.es_view.proofs.stream_entry.StreamEntry.push_traces.Goals as goal

pub returns : goal.returns
returns c = λ e k.
    let options = c.args.options.now in
    let t0 : List Event = c.args.events.now.items in
    let t1 : List Event = c.push_traces.new.events.items in
    let place : c.place-place.result ≡ place_at 0 e = c.place-place.ensures e k in
    let limits : c.video_limits-limits.result ≡ limits_of e.video = c.video_limits-limits.ensures (seen_held e) e.video k.video in
    let traces : List Event = trace_events options (place_at 0 e) (seen_tally e).traces in
    let videos : List Event = video_trace_events options (place_at 0 e) (limits_of e.video) e.video_tally.traces in
    let first : t1 ≡ t0 ++ traces =
    c.in_ok-push_traces.ensures ∙ ap₂ (λ (p : Place) (t : Tally). t0 ++ trace_events options p t.traces) place k.tally in
    c.in_ok-push_video_traces.ensures
    ∙ ap₂ (λ (p : Place) (l : Option VideoLimits). t1 ++ video_trace_events options p l c.args.self.now.video_tally.traces) place limits
    ∙ ap (λ (t : VideoTally). t1 ++ video_trace_events options (place_at 0 e) (limits_of e.video) t.traces) k.video_tally
    ∙ ap (λ (t : List Event). t ++ videos) first ∙ append_assoc t0 traces videos
