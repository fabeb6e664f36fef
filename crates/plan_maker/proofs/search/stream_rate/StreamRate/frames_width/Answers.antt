use Rattle.std.proofs.Common.{◌≡◌, ◌+◌, ◌-◌, ℕ, arith, ap, ap₂, sym, ◌∙◌}
use Rattle.plan_maker.specs.Joined.{lesser, least_of}
use Rattle.plan_maker.specs.StreamNeeds.{stream_view, frame_width}
use Rattle.plan_maker.proofs.JoinedNumbers.{least_of_none, least_of_more}
use Rattle.plan_maker.proofs.search.stream_rate.StreamRate.frames_width.Goals as goal

pub loop-before-init : goal.loop-before-init
loop-before-init c =
    let v = stream_view c.args.self.now in
    sym (least_of_none c.args.first (λ before. frame_width v c.args.period c.args.count c.args.framing (before + 1)))

pub loop-before-preserved : goal.loop-before-preserved
loop-before-preserved c =
    let v = stream_view c.args.self.now in
    let f = λ (before : ℕ). frame_width v c.args.period c.args.count c.args.framing (before + 1) in
    c.lesser-width.ensures ∙ ap₂ lesser c.loop-before.invariant c.frame_width.ensures ∙ sym (least_of_more c.args.first c.loop-before.before f)

pub returns : goal.returns
returns c =
    let v = stream_view c.args.self.now in
    let end : c.loop-before.before ≡ c.args.framing.frames - 1 = omega (arith, c.saturating_sub-before-end.ensures) in
    c.loop-before.invariant ∙ ap (λ (n : ℕ). least_of c.args.first n (λ before. frame_width v c.args.period c.args.count c.args.framing (before + 1))) end
