use Rattle.std.proofs.Common.{◌≡◌, ◌+◌, ◌∙◌, sym, ap, arith}
use Rattle.own_slots.specs.Slots.{own_before}
use Rattle.own_slots.specs.Period.{own}
use Rattle.slot_plan.specs.Items.{marks}
use Rattle.plan_checker.proofs.OwnMarks.{own_before_none}
use Rattle.mux_core.proofs.ComingTables.{own_more, own_before_small}
use Rattle.mux_core.proofs.coming.own_among.Goals as goal

pub loop-at-init : goal.loop-at-init
loop-at-init c = record { counted = sym (own_before_none c.args.item c.args.slots.now); few = omega arith }

pub overflow_add-count : goal.overflow_add-count
overflow_add-count c =
    let f = own (marks c.args.item c.args.slots.now) in
    let more = own_more f c.loop-at.at c.loop-at.count c.one_if_own-count.result c.one_if_own-count.ensures c.loop-at.invariant.counted in
    record { fits = omega (arith, more, own_before_small f (c.loop-at.at + 1), c.loop-at-test.true, c.ranges.first.fits) }

pub loop-at-preserved : goal.loop-at-preserved
loop-at-preserved c =
    let f = own (marks c.args.item c.args.slots.now) in
    let more = own_more f c.loop-at.at c.loop-at.count c.one_if_own-count.result c.one_if_own-count.ensures c.loop-at.invariant.counted in
    record { counted = more; few = omega (arith, more, own_before_small f (c.loop-at.at + 1)) }

pub returns : goal.returns
returns c =
    let end : c.loop-at.at ≡ c.args.first = omega (arith, c.loop-at-test.false, c.loop-at.auto.at-end) in
    c.loop-at.invariant.counted ∙ ap (own_before (own (marks c.args.item c.args.slots.now))) end
