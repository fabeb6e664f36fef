use Rattle.std.proofs.Common.{◌≡◌, ◌∙◌, ℕ, ◌<◌, false, slice_index_or, Option, ap, subst, sym}
use Rattle.description_parts.specs.Described.{Described}
use Rattle.description.specs.SubTables.{sub_table_count}
use Rattle.changed_texts.specs.Versions.{next_texts, changed}
use Rattle.mux_core.specs.MuxStates.{MuxState}
use Rattle.mux_core.specs.SlotSteps.{texts_in, with_texts, moment_of_events}
use Rattle.mux_core.proofs.TakenTexts.{texts_put}
use Rattle.mux_core.proofs.SentMarks.{still_same}
use Rattle.mux_core.proofs.multiplexer.Mux.take_texts.Goals as goal

pub returns : goal.returns
returns g c =
    let old : MuxState = record {
      schedule = c.self.inside.schedule;
      texts = texts_in c.self.inside.texts.changed c.self.inside.schedule.description;
      sent = c.self.inside.texts.sent;
      queues = c.self.inside.queues.items;
      carousels = c.self.inside.carousels.items;
      capacity = c.self.inside.capacity;
      slots = c.self.inside.slots;
    } in
    let next : c.numbered-next.result ≡ next_texts old.texts c.args.texts (moment_of_events old) (λ n. slice_index_or old.sent n false) =
    subst (λ (m : MuxState). c.numbered-next.result ≡ next_texts m.texts c.args.texts (moment_of_events m) (λ n. slice_index_or m.sent n false))
    (sym c.self.view_is) c.numbered-next.ensures in
    let changes : (n : ℕ) → n < sub_table_count →
    slice_index_or c.changes_to-changes.result n false ≡ changed old.texts c.args.texts (moment_of_events old) n =
    subst (λ (m : MuxState). (n : ℕ) → n < sub_table_count →
    slice_index_or c.changes_to-changes.result n false ≡ changed m.texts c.args.texts (moment_of_events m) n) (sym c.self.view_is) c.changes_to-changes.ensures in
    texts_put old c.args.texts (texts_in c.put.new.self.changed c.self.inside.schedule.description) c.put.new.self.sent
    (ap (λ (o : Option Described). texts_in o c.self.inside.schedule.description) c.put.ensures.changed ∙ next)
    (c.put.ensures.sent ∙ still_same old.sent (λ n. slice_index_or c.changes_to-changes.result n false)
    (changed old.texts c.args.texts (moment_of_events old)) changes)
    ∙ ap (λ (m : MuxState). with_texts m c.args.texts) c.self.view_is
