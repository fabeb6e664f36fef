use Rattle.std.proofs.Common.{◌≡◌, ◌+◌}
use Rattle.std.specs.Prelude.{slice_index}
use Rattle.stream_choice.specs.Choices.{best, group_choice}
use Rattle.stream_choice.proofs.selection.choose_groups.Given as goal

abbrev pub invariant-loop-i : goal.invariant-loop-i
invariant-loop-i l = l.best ≡ best l.i (λ i. group_choice l.needs l.delay l.max_lead (i + 1) (slice_index l.max_packets i))
