use Rattle.std.proofs.Common.{◌≡◌, ◌-◌, vec_len}
use Rattle.slot_plan.specs.Readers.{programs_at}
use Rattle.slot_plan.proofs.ReaderSteps.{with_all}
use Rattle.slot_plan.proofs.reader.programs_at.Given as goal

abbrev pub invariant-loop-number : goal.invariant-loop-number
invariant-loop-number g l = record {
  same : programs_at 256 l.line 0 l.fn.text ≡ with_all l.entries.items (programs_at (256 - l.number) l.line l.number l.rest);
  count : vec_len l.entries ≡ l.number;
}
