use Rattle.std.proofs.Common.{◌≡◌, ℕ, ◌+◌, ◌/◌, max, ap}
use Rattle.page_curves.specs.Slots.{CurveView}
use Rattle.page_curves.specs.Curves.{next_of}
use Rattle.page_curves.proofs.Widening.{kept, with_value}
use Rattle.page_curves.proofs.curve.Curve.take.Goals as goal

pub returns : goal.returns
returns c = λ samples is.
    let span : c.self.inside.span ≡ c.reach.new.self.span = cc (ap (λ (v : CurveView). v.span) c.self.view_is, c.in_ok-reach.ensures.span) in
    with_value c.reach.new.self c.put.new.self samples c.args.number c.args.value _
    (kept c.widen.new.self c.reach.new.self samples (max (c.args.number + 1) (next_of samples)) (c.widen.ensures.slots samples is) c.in_ok-reach.ensures.span
    c.in_ok-reach.ensures.same)
    (ap (λ (s : ℕ). c.args.number / s) span) c.put.ensures.span c.put.ensures.slots
