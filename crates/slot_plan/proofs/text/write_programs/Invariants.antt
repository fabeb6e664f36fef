use Rattle.std.proofs.Common.{◌≡◌, ◌++◌, take, string_bytes}
use Rattle.slot_plan.specs.Numbered.{numbered}
use Rattle.slot_plan.specs.Text.{program_line}
use Rattle.slot_plan.proofs.text.write_programs.Given as goal

abbrev pub invariant-loop-number : goal.invariant-loop-number
invariant-loop-number g l = string_bytes l.text ≡ string_bytes l.initial.text ++ numbered (program_line) 0 (take l.number l.entries)
