use Rattle.std.proofs.Common.{◌≡◌, ◌-◌}
use Rattle.slot_plan.specs.Readers.{slots_at}
use Rattle.slot_plan.proofs.ReaderSteps.{with_all}
use Rattle.slot_plan.proofs.reader.slots_at.Given as goal

abbrev pub invariant-loop-index : goal.invariant-loop-index
invariant-loop-index g l =
    slots_at l.period l.period l.fn.text ≡ with_all l.slots.items (slots_at l.period (l.period - l.index) l.rest)
