use Rattle.std.proofs.Common.{ap₂, sym, ◌∙◌}
use Rattle.stream_choice.specs.Choices.{better}
use Rattle.stream_choice.specs.FramedChoices.{numbered_framed}
use Rattle.stream_choice.proofs.BestChoice.{best_none, best_more}
use Rattle.stream_choice.proofs.framed_selection.framed_group.Goals as goal

pub loop-number-init : goal.loop-number-init
loop-number-init c = sym (best_none (numbered_framed c.args.needs c.args.framing c.args.sum c.args.max_lead c.args.group c.args.packets))

pub loop-number-preserved : goal.loop-number-preserved
loop-number-preserved c =
    c.better-best.ensures ∙ ap₂ better c.loop-number.invariant c.numbered_framed.ensures
    ∙ sym (best_more c.loop-number.number (numbered_framed c.args.needs c.args.framing c.args.sum c.args.max_lead c.args.group c.args.packets))
