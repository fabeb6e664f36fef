use Rattle.std.proofs.Common.{◌≡◌}
use Rattle.stream_choice.specs.Choices.{best}
use Rattle.stream_choice.specs.FramedChoices.{numbered_framed}
use Rattle.stream_choice.proofs.framed_selection.framed_group.Given as goal

abbrev pub invariant-loop-number : goal.invariant-loop-number
invariant-loop-number l = l.best ≡ best l.number (numbered_framed l.needs l.framing l.sum l.max_lead l.group l.packets)
