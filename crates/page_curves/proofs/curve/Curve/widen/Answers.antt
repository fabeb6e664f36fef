use Rattle.std.proofs.Common.{◌≡◌, ℕ, ◌+◌, ◌*◌, ◌/◌, ◌<◌, ◌≤◌, max, ap, subst, arith}
use Rattle.page_curves.specs.Slots.{CurveView}
use Rattle.page_curves.specs.Curves.{next_of}
use Rattle.page_curves.proofs.Widening.{at_first, beyond, fewer, halved, widened}
use Rattle.page_curves.proofs.curve.Curve.widen.Goals as goal

pub loop-self-init : goal.loop-self-init
loop-self-init c = λ samples is. at_first c.args.self.now samples (max (c.args.number + 1) (next_of samples)) is (omega arith)

pub loop-self-preserved : goal.loop-self-preserved
loop-self-preserved c = λ samples is.
    let same : c.self.inside.span ≡ c.loop-self.self.span = cc (ap (λ (v : CurveView). v.span) c.self.view_is) in
    let pos : 0 < c.loop-self.self.span = subst (λ (s : ℕ). 0 < s) same c.self.inside.some in
    let many : 512 ≤ c.args.number / c.loop-self.self.span = subst (λ (s : ℕ). 512 ≤ c.args.number / s) same c.loop-self-test.true in
    let more : 512 * c.loop-self.self.span < max (c.args.number + 1) (next_of samples) = omega (arith, beyond c.args.number c.loop-self.self.span pos many) in
    halved c.loop-self.self c.halve.new.self samples (max (c.args.number + 1) (next_of samples)) (c.loop-self.invariant samples is) more c.halve.ensures.span
    c.halve.ensures.slots

pub loop-self-smaller : goal.loop-self-smaller
loop-self-smaller c =
    let same : c.self.inside.span ≡ c.loop-self.self.span = cc (ap (λ (v : CurveView). v.span) c.self.view_is) in
    let pos : 0 < c.loop-self.self.span = subst (λ (s : ℕ). 0 < s) same c.self.inside.some in
    let many : 512 ≤ c.args.number / c.loop-self.self.span = subst (λ (s : ℕ). 512 ≤ c.args.number / s) same c.loop-self-test.true in
    fewer c.args.number c.loop-self.self.span c.halve.new.self.span many pos c.halve.ensures.span
