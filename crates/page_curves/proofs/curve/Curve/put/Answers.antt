use Rattle.std.proofs.Common.{◌≡◌, ◌∙◌, ◌<◌, List, length, get_or, Option, Some, None, refl, ap, ap₂, subst}
use Rattle.page_curves.specs.declared.bounds.Bounds.{Bounds}
use Rattle.page_curves.specs.Bounds.{joined, one_value}
use Rattle.page_curves.specs.Slots.{CurveView}
use Rattle.page_curves.proofs.Widening.{put_slot}
use Rattle.page_curves.proofs.curve.Curve.put.Goals as goal

pub returns-clause-slots : goal.returns-clause-slots
returns-clause-slots c = λ i.
    let slots = c.self.inside.slots.items in
    let same : c.args.self.now.slots ≡ slots = cc (ap (λ (v : CurveView). v.slots) c.self.view_is) in
    let bounds : c.joined-bounds.result ≡ joined (Some (one_value c.args.value)) (get_or slots c.args.slot None) =
    c.joined-bounds.ensures
    ∙ ap₂ joined (ap (λ (b : Bounds). Some b) c.of.ensures)
    (c.slot_at.ensures ∙ ap (λ (xs : List (Option Bounds)). get_or xs c.args.slot None) c.deref.ensures.value) in
    let lt : c.args.slot < length slots = subst (λ (xs : List (Option Bounds)). c.args.slot < length xs) same c.requires in
    rw (bounds, same) (put_slot slots c.args.slot c.args.value (get_or slots c.args.slot None) lt refl i)
