use Rattle.std.proofs.Common.{◌≡◌, map}
use Rattle.std.specs.List.{range_with_len}
use Rattle.slot_plan.specs.SlotPids.{slot_pid}
use Rattle.line_ups.specs.Kept.{numbered_slot}
use Rattle.line_ups.proofs.names.slot_pids.Given as goal

abbrev pub invariant-loop-number : goal.invariant-loop-number
invariant-loop-number l = l.pids.items ≡ map (λ n. slot_pid l.description (numbered_slot l.description n)) (range_with_len 0 l.number)
