use Rattle.std.proofs.Common.{◌≡◌, ◌+◌}
use Rattle.std.specs.Prelude.{slice_index}
use Rattle.stream_choice.specs.Choices.{best}
use Rattle.stream_choice.specs.FramedChoices.{framed_group}
use Rattle.stream_choice.proofs.framed_selection.choose_framed.Given as goal

abbrev pub invariant-loop-i : goal.invariant-loop-i
invariant-loop-i l = l.best ≡ best l.i (λ i. framed_group l.needs l.framing l.sum l.max_lead (i + 1) (slice_index l.max_packets i))
