use Rattle.std.proofs.Common.{ℕ, ◌+◌, max, ap₂, sym, ◌∙◌}
use Rattle.own_slots.proofs.Extremes.{greatest_none, greatest_more}
use Rattle.clock27.proofs.MinMax.{max_is}
use Rattle.stream_choice.specs.Frames.{framed_bytes}
use Rattle.stream_choice.proofs.frames.most_waiting.Goals as goal

pub loop-before-init : goal.loop-before-init
loop-before-init c = sym (greatest_none (λ before. framed_bytes c.args.needs c.args.framing c.args.lead c.args.share c.args.sum (before + 1)))

pub loop-before-preserved : goal.loop-before-preserved
loop-before-preserved c =
    let f = λ (before : ℕ). framed_bytes c.args.needs c.args.framing c.args.lead c.args.share c.args.sum (before + 1) in
    c.max-most.ensures ∙ max_is c.loop-before.most c.framed_bytes.result ∙ ap₂ max c.loop-before.invariant c.framed_bytes.ensures
    ∙ sym (greatest_more c.loop-before.before f)
