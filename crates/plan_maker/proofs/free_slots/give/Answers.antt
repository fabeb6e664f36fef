use Rattle.std.proofs.Common.{◌<◌, length, arith}
use Rattle.plan_maker.proofs.GivenSlots.{given_none, given_here, given_not, given_all}
use Rattle.plan_maker.proofs.free_slots.give.Goals as goal
use Rattle.plan_maker.proofs.free_slots.give.Goals.{then-s-spacing, else-s-spacing}

pub loop-s-init : goal.loop-s-init
loop-s-init c = given_none c.args.item c.args.spacing c.args.first c.args.slots.now

pub loop-s-preserved : goal.loop-s-preserved
loop-s-preserved c = elim c.if-s-spacing.branch [
  | then-s-spacing w ↦
      let lt : c.loop-s.s < length c.loop-s.slots = omega (arith, c.loop-s-test.true, c.loop-s.auto.slots) in
      rw w.slots-is (given_here c.args.item c.args.spacing c.args.first c.args.slots.now c.loop-s.slots c.loop-s.s lt w.if-s-spacing.true c.loop-s.invariant)
  | else-s-spacing w ↦
      rw w.slots-is (given_not c.args.item c.args.spacing c.args.first c.args.slots.now c.loop-s.slots c.loop-s.s w.if-s-spacing.false c.loop-s.invariant)
]

pub returns : goal.returns
returns c = record
    { slots = given_all c.args.item c.args.spacing c.args.first c.args.slots.now c.loop-s.slots c.loop-s.s c.loop-s-test.false c.loop-s.invariant }
