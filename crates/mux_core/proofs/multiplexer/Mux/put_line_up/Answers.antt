use Rattle.std.proofs.Common.{◌∙◌, length, sym, ap}
use Rattle.description_parts.specs.Described.{Described}
use Rattle.description_parts.specs.Tables.{table_kinds, table_count}
use Rattle.mux_core.specs.MuxStates.{MuxState}
use Rattle.mux_core.specs.SlotSteps.{texts_in}
use Rattle.mux_core.specs.LineUpSteps.{fresh_queue, made_carousel}
use Rattle.mux_core.proofs.ExchangedItems.{each_length}
use Rattle.mux_core.proofs.TakenOver.{put_over}
use Rattle.mux_core.proofs.multiplexer.Mux.put_line_up.Goals as goal

pub kept_queues-queues-requires : goal.kept_queues-queues-requires
kept_queues-queues-requires g c =
    each_length (fresh_queue c.args.self.now.schedule.description c.args.plan.description c.args.self.now.capacity) c.args.plan.description.streams
    c.args.parts.queues.items c.requires.queues
    ∙ sym (ap (λ (d : Described). length d.streams) c.description.ensures.description)

pub kept_carousels-carousels-requires : goal.kept_carousels-carousels-requires
kept_carousels-carousels-requires g c =
    each_length (made_carousel c.args.plan c.args.self.now.slots) (table_kinds c.args.plan.description) c.args.parts.carousels.items c.requires.carousels
    ∙ sym (ap (λ (d : Described). table_count d) c.description-2.ensures.description)

pub returns : goal.returns
returns g c =
    let old : MuxState = record {
      schedule = c.self.inside.schedule;
      texts = texts_in c.self.inside.texts.changed c.self.inside.schedule.description;
      sent = c.self.inside.texts.sent;
      queues = c.self.inside.queues.items;
      carousels = c.self.inside.carousels.items;
      capacity = c.self.inside.capacity;
      slots = c.self.inside.slots;
    } in
    put_over c.args.self.now c.put_parts.new.self old c.args.plan c.args.texts c.args.parts.queues.items c.args.parts.carousels.items c.single.result
    c.followed-texts.result c.description-old.result.now c.description.result.now c.description-2.result.now c.kept_queues-queues.result.items
    c.kept_carousels-carousels.result.items c.self.view_is c.single.ensures.value c.followed-texts.ensures c.description-old.ensures
    c.description.ensures.description c.description-2.ensures.description c.kept_queues-queues.ensures c.kept_carousels-carousels.ensures c.put_parts.ensures
