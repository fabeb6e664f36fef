use Rattle.std.proofs.Common.{◌≡◌, ◌∙◌, ℕ, Bool, List, ap, sym}
use Rattle.own_slots.specs.Slots.{own_before}
use Rattle.own_slots.specs.Period.{own}
use Rattle.description_parts.specs.Described.{Described}
use Rattle.slot_plan.specs.declared.slot.Slot.{Slot}
use Rattle.slot_plan.specs.declared.slot.Item.TheVariants.{Table as TableItem}
use Rattle.slot_plan.specs.Items.{marks}
use Rattle.slot_plan.specs.Planned.{Planned}
use Rattle.slot_plan.specs.Schedule.{single, owned}
use Rattle.mux_core.specs.LineUps.{moment_in}
use Rattle.mux_core.specs.LineUpSteps.{silent_after}
use Rattle.mux_core.proofs.coming.come_carousel.Goals as goal

pub returns : goal.returns
returns g c =
    let next = c.args.next.now in
    let described = c.description-description.ensures.description in
    let slots : c.of.result ≡ next.plan.slots = c.of.ensures ∙ ap (λ (p : Planned). p.slots) c.plan.ensures.plan in
    let before : c.own_before-before.result ≡ own_before (owned (single next.plan.slots) (TableItem c.args.table)) c.args.slots =
    c.own_before-before.ensures
    ∙ ap (λ (l : List Slot). own_before (own (marks (TableItem c.args.table) l)) c.args.slots) slots
    ∙ ap (λ (f : ℕ → Bool). own_before f c.args.slots) (sym (c.own_slots.ensures.alone next.plan.slots (TableItem c.args.table))) in
    let moment : c.moment_in.result ≡ moment_in next.description c.args.slots =
    c.moment_in.ensures ∙ ap (λ (d : Described). moment_in d c.args.slots) described in
    c.silent_after.ensures
    ∙ ap (λ (d : Described). silent_after d c.args.table c.own_before-before.result c.moment_in.result) described
    ∙ ap (λ (n : ℕ). silent_after next.description c.args.table n c.moment_in.result) before
    ∙ ap (λ (m : ℕ). silent_after next.description c.args.table (own_before (owned (single next.plan.slots) (TableItem c.args.table)) c.args.slots) m) moment
