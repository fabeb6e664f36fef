use Rattle.std.proofs.Common.{◌-◌, arith}
use Rattle.slot_plan.specs.Conditions.{frame_entry}
use Rattle.plan_checker.proofs.FailingSearch.{counts_on, counts_done}
use Rattle.plan_checker.proofs.frames.framed_rooms.Goals as goal

pub loop-before-preserved : goal.loop-before-preserved
loop-before-preserved g c =
    counts_on (frame_entry c.args.plans.now.description.now c.args.plans.now.plan.now c.args.i c.args.stream.now c.args.framing)
    c.loop-before.before (c.args.framing.frames - 1) _ _ _
    c.loop-before.invariant (omega (arith, c.loop-before-test.true, c.saturating_sub-others.ensures)) c.frame_room.ensures

pub returns : goal.returns
returns g c =
    counts_done (frame_entry c.args.plans.now.description.now c.args.plans.now.plan.now c.args.i c.args.stream.now c.args.framing)
    c.loop-before.before (c.args.framing.frames - 1) _ _
    c.loop-before.invariant (omega (arith, c.loop-before-test.false, c.saturating_sub-others.ensures))
