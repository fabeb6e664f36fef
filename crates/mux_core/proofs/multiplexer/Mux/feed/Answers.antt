use Rattle.std.proofs.Common.{◌≡◌, ◌∙◌, ap, Bool, slice_get}
use Rattle.description_parts.specs.Described.{Described}
use Rattle.description_parts.specs.Tables.{stream_on_air}
use Rattle.unit_queue.specs.Causes.{refusal}
use Rattle.mux_core.specs.MuxStates.{MuxState}
use Rattle.mux_core.specs.SlotSteps.{texts_in, queue_cause}
use Rattle.mux_core.proofs.FedUnits.{takes}
use Rattle.mux_core.proofs.KnownRanges.{parameters_known}
use Rattle.mux_core.proofs.MuxStates.{feed_laws, feeds, with_queues}
use Rattle.mux_core.proofs.multiplexer.Mux.feed.Goals as goal

pub returns-clause-takes : goal.returns-clause-takes
returns-clause-takes g c =
    let old : MuxState = record {
      schedule = c.self.inside.schedule;
      texts = texts_in c.self.inside.texts.changed c.self.inside.schedule.description;
      sent = c.self.inside.texts.sent;
      queues = c.self.inside.queues.items;
      carousels = c.self.inside.carousels.items;
      capacity = c.self.inside.capacity;
      slots = c.self.inside.slots;
    } in
    let on_air : c.stream_on_air-on_air.result ≡ stream_on_air old.texts c.args.stream =
    c.stream_on_air-on_air.ensures
    ∙ ap (λ (d : Described). stream_on_air (texts_in c.self.inside.texts.changed d) c.args.stream) c.description.ensures in
    let cause : refusal c.feed_stream.result ≡ queue_cause (stream_on_air old.texts c.args.stream) old.slots c.args.unit (slice_get old.queues c.args.stream) =
    c.feed_stream.ensures.cause ∙ ap (λ (b : Bool). queue_cause b old.slots c.args.unit (slice_get old.queues c.args.stream)) on_air in
    rw (← c.self.view_is)
    (λ h st. takes feed_laws h old c.args.stream c.args.unit (refusal c.feed_stream.result) (with_queues old c.feed_stream.new.queues.items)
    (parameters_known old.schedule c.self.invariant.0) st
    (feeds old c.args.stream c.args.unit c.feed_stream.result c.feed_stream.new.queues.items cause c.feed_stream.ensures.state))
