use Rattle.std.proofs.Common.{◌+◌, drop, arith}
use Rattle.std.proofs.lemmas.List.{drop_all, drop_more}
use Rattle.page_curves.specs.TimeScale.{step_among}
use Rattle.page_curves.proofs.Steps.{found, none, passed}
use Rattle.page_curves.proofs.time_scale.step_among.Goals as goal

pub loop-step-preserved : goal.loop-step-preserved
loop-step-preserved c =
    passed (drop c.loop-step.step-index c.args.steps.now) (drop (c.loop-step.step-index + 1) c.args.steps.now) _ c.args.length
    (step_among c.args.steps.now c.args.length) c.reaches.result
    (drop_more c.args.steps.now c.loop-step.step-index 0 c.loop-step-test.true) c.reaches.ensures c.if-reaches.false c.loop-step.invariant

pub returns-clause-same : goal.returns-clause-same
returns-clause-same c = none (drop c.loop-step.step-index c.args.steps.now) c.args.length (step_among c.args.steps.now c.args.length)
    (drop_all c.loop-step.step-index c.args.steps.now (omega (arith, c.loop-step-test.false))) c.loop-step.invariant

pub returns-then-reaches-clause-same : goal.returns-then-reaches-clause-same
returns-then-reaches-clause-same c = rw c.min.ensures
    (found (drop c.loop-step.step-index c.args.steps.now) (drop (c.loop-step.step-index + 1) c.args.steps.now) _ c.args.length
    (step_among c.args.steps.now c.args.length) c.reaches.result
    (drop_more c.args.steps.now c.loop-step.step-index 0 c.loop-step-test.true) c.reaches.ensures c.if-reaches.true c.loop-step.invariant)
