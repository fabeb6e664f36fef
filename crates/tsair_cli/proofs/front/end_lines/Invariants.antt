use Rattle.std.proofs.Common.{◌≡◌, ◌≤◌, ◌+◌, true, drop}
use Rattle.tsair_cli.specs.Fronts.{end_lines}
use Rattle.tsair_cli.proofs.front.end_lines.Given as goal

abbrev pub invariant-loop-i : goal.invariant-loop-i
invariant-loop-i l = (l.count + end_lines l.at_line (drop l.i l.bytes) ≡ end_lines true l.bytes) × (l.count ≤ l.i)
