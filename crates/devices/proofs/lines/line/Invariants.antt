use Rattle.std.proofs.Common.{◌≡◌, ◌++◌, ◌+◌, ◌*◌, ◌≤◌, length, drop}
use Rattle.devices.specs.Lines.{numbers_text}
use Rattle.devices.proofs.lines.line.Given as goal

abbrev pub invariant-loop-number : goal.invariant-loop-number
invariant-loop-number l = record {
  text : l.line.items ++ numbers_text (drop l.number-index l.numbers) ≡ l.fn.name ++ numbers_text l.numbers;
  len : length l.line.items ≤ 40 + 41 * l.number-index;
}
