use Rattle.std.proofs.Common.{◌≡◌, ◌+◌, drop}
use Rattle.diagnosis.specs.EqualKeys.{equal_rows}
use Rattle.diagnosis.proofs.KeyRows.{shown}
use Rattle.diagnosis.proofs.equal_keys.equal_rows.Given as goal

abbrev pub invariant-loop-i : goal.invariant-loop-i
invariant-loop-i l = equal_rows l.keys (l.i + 1) (shown (drop l.i l.lines)) ≡ equal_rows l.keys 1 (shown l.lines)
