use Rattle.std.proofs.Common.{◌-◌, arith}
use Rattle.slot_plan.specs.SwitchConditions.{frame_switch_entry}
use Rattle.plan_checker.proofs.FailingSearch.{counts_on, counts_done}
use Rattle.switch_checker.proofs.frames.framed_switches.Goals as goal

pub loop-before-preserved : goal.loop-before-preserved
loop-before-preserved g c =
    let pair = c.args.plans.now in
    counts_on (frame_switch_entry pair.description.now pair.first.now pair.second.now c.args.i c.args.stream.now c.args.framing)
    c.loop-before.before (c.args.framing.frames - 1) _ _ _
    c.loop-before.invariant (omega (arith, c.loop-before-test.true, c.saturating_sub-others.ensures)) c.frame_switch.ensures

pub returns : goal.returns
returns g c =
    let pair = c.args.plans.now in
    counts_done (frame_switch_entry pair.description.now pair.first.now pair.second.now c.args.i c.args.stream.now c.args.framing)
    c.loop-before.before (c.args.framing.frames - 1) _ _
    c.loop-before.invariant (omega (arith, c.loop-before-test.false, c.saturating_sub-others.ensures))
