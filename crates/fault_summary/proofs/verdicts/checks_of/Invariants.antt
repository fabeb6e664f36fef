use Rattle.std.proofs.Common.{◌≡◌, drop}
use Rattle.fault_summary.specs.Verdicts.{check_verdict, with_events}
use Rattle.fault_summary.proofs.verdicts.checks_of.Given as goal

abbrev pub invariant-loop-row : goal.invariant-loop-row
invariant-loop-row l = with_events l.verdict (drop l.row-index l.rows) ≡ check_verdict l.rows
