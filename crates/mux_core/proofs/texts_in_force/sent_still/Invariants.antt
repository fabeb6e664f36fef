use Rattle.std.proofs.Common.{◌≡◌, false, map, slice_index_or}
use Rattle.std.specs.List.{range_with_len}
use Rattle.mux_core.specs.SlotSteps.{still_at}
use Rattle.mux_core.proofs.texts_in_force.sent_still.Given as goal

abbrev pub invariant-loop-number : goal.invariant-loop-number
invariant-loop-number l = l.still.items ≡ map (still_at l.sent (λ n. slice_index_or l.changed n false)) (range_with_len 0 l.number)
