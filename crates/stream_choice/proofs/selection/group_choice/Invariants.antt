use Rattle.std.proofs.Common.{◌≡◌}
use Rattle.stream_choice.specs.Choices.{best, numbered_choice}
use Rattle.stream_choice.proofs.selection.group_choice.Given as goal

abbrev pub invariant-loop-number : goal.invariant-loop-number
invariant-loop-number l = l.best ≡ best l.number (numbered_choice l.needs l.delay l.max_lead l.group l.packets)
