use Rattle.std.proofs.Common.{arith}
use Rattle.unit_timing.specs.Allowances.{allowance_rows}
use Rattle.slot_plan.specs.Claims.{peaked_share}
use Rattle.slot_plan.specs.Conditions.{lead_entry}
use Rattle.plan_checker.proofs.FailingSearch.{counts_on, counts_done}
use Rattle.plan_checker.proofs.leads.row_leads.Goals as goal

pub loop-before-preserved : goal.loop-before-preserved
loop-before-preserved g c =
    counts_on (lead_entry c.args.condition c.args.plans.now.description.now.rate c.args.way.drain
    (peaked_share c.args.plans.now.plan.now c.args.i c.args.way.peak) c.args.i c.args.stream.now)
    c.loop-before.before (allowance_rows c.args.stream.now.allowance) _ _ _
    c.loop-before.invariant (omega (arith, c.loop-before-test.true, c.rows-before-end.ensures)) c.units_lead.ensures

pub returns : goal.returns
returns g c =
    counts_done (lead_entry c.args.condition c.args.plans.now.description.now.rate c.args.way.drain
    (peaked_share c.args.plans.now.plan.now c.args.i c.args.way.peak) c.args.i c.args.stream.now)
    c.loop-before.before (allowance_rows c.args.stream.now.allowance) _ _
    c.loop-before.invariant (omega (arith, c.loop-before-test.false, c.rows-before-end.ensures))
