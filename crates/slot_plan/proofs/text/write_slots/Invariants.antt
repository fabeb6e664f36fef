use Rattle.std.proofs.Common.{◌≡◌, ◌++◌, take, length, string_bytes}
use Rattle.slot_plan.specs.Numbered.{numbered}
use Rattle.slot_plan.specs.Text.{slot_word}
use Rattle.slot_plan.proofs.text.write_slots.Given as goal

abbrev pub invariant-loop-index : goal.invariant-loop-index
invariant-loop-index g l = string_bytes l.text ≡ string_bytes l.initial.text ++ numbered (slot_word (length l.slots)) 0 (take l.index l.slots)
