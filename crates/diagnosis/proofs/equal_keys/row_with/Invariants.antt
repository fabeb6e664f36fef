use Rattle.std.proofs.Common.{◌≡◌, ◌+◌, drop}
use Rattle.diagnosis.specs.EqualKeys.{row_with}
use Rattle.diagnosis.proofs.KeyRows.{shown}
use Rattle.diagnosis.proofs.equal_keys.row_with.Given as goal

abbrev pub invariant-loop-i : goal.invariant-loop-i
invariant-loop-i l = row_with l.keys l.value (l.i + 1) (shown (drop l.i l.lines)) ≡ row_with l.keys l.value (l.first + 1) (shown (drop l.first l.lines))
