use Rattle.std.proofs.Common.{◌≤◌, arith, refl, sym, ◌∙◌}
use Rattle.plan_maker.proofs.SearchedSlots.{none_now, over_now, placed_now, stuck_now, more_now}
use Rattle.plan_maker.proofs.search.tried_slots.Goals as goal

pub loop-init : goal.loop-init
loop-init g c = refl

pub returns-then-total-period-clause-slots : goal.returns-then-total-period-clause-slots
returns-then-total-period-clause-slots g c =
    over_now c.loop.counter c.args.period c.loop.demands _ c.loop.invariant c.loop-test.true c.total.result c.total.ensures c.if-total-period.true

pub returns-in-None-clause-slots : goal.returns-in-None-clause-slots
returns-in-None-clause-slots g c =
    let le : c.total.result ≤ c.args.period = omega (arith, c.if-total-period.false) in
    placed_now c.loop.counter c.args.period c.loop.demands _ c.loop.invariant c.loop-test.true c.total.result c.total.ensures le
    c.attempt.new.slots.items (sym c.in-None.is ∙ c.in_ok-attempt.ensures.missing) c.in_ok-attempt.ensures.slots

pub returns-then-not-add_slots-clause-slots : goal.returns-then-not-add_slots-clause-slots
returns-then-not-add_slots-clause-slots g c =
    let le : c.total.result ≤ c.args.period = omega (arith, c.if-total-period.false) in
    stuck_now c.loop.counter c.args.period c.loop.demands _ c.loop.invariant c.loop-test.true c.total.result c.total.ensures le c.in-Some.missed
    (sym c.in-Some.is ∙ c.in_ok-attempt.ensures.missing) c.if-not-add_slots.ensures

pub loop-preserved : goal.loop-preserved
loop-preserved g c =
    let le : c.total.result ≤ c.args.period = omega (arith, c.if-total-period.false) in
    more_now c.loop.counter c.args.period c.loop.demands _ c.loop.invariant c.loop-test.true c.total.result c.total.ensures le c.in-Some.missed
    (sym c.in-Some.is ∙ c.in_ok-attempt.ensures.missing) c.add_slots.new.demands c.if-not-add_slots.ensures

pub returns-clause-slots : goal.returns-clause-slots
returns-clause-slots g c = none_now c.loop.counter c.args.period c.loop.demands _ c.loop.invariant (omega (arith, c.loop-test.false))
