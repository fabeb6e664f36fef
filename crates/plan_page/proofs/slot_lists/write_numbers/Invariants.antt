use Rattle.std.proofs.Common.{◌≡◌, ◌++◌, drop, string_bytes}
use Rattle.slot_plan.specs.Numbered.{numbered}
use Rattle.plan_page.specs.SlotLists.{number_text}
use Rattle.plan_page.proofs.slot_lists.write_numbers.Given as goal

abbrev pub invariant-loop-number : goal.invariant-loop-number
invariant-loop-number l = string_bytes l.text ++ numbered (number_text l.owner) l.number (drop l.number l.slots) ≡ string_bytes l.fn.text
    ++ numbered (number_text l.owner) 0 l.slots
