use Rattle.std.proofs.Common.{arith}
use Rattle.unit_timing.specs.Allowances.{allowance_rows}
use Rattle.switch_checker.specs.SwitchShares.{deadline_entry}
use Rattle.plan_checker.proofs.FailingSearch.{counts_on, counts_done}
use Rattle.switch_checker.proofs.leads.row_switches.Goals as goal

pub loop-before-preserved : goal.loop-before-preserved
loop-before-preserved c =
    counts_on (deadline_entry c.args.condition c.args.rate c.args.drain c.args.shares c.args.i c.args.stream.now) c.loop-before.before
    (allowance_rows c.args.stream.now.allowance) _ _ _
    c.loop-before.invariant (omega (arith, c.loop-before-test.true, c.rows-before-end.ensures)) c.deadline.ensures

pub returns : goal.returns
returns c =
    counts_done (deadline_entry c.args.condition c.args.rate c.args.drain c.args.shares c.args.i c.args.stream.now) c.loop-before.before
    (allowance_rows c.args.stream.now.allowance) _ _
    c.loop-before.invariant (omega (arith, c.loop-before-test.false, c.rows-before-end.ensures))
