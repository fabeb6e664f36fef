use Rattle.std.proofs.Common.{◌+◌, drop, arith}
use Rattle.std.proofs.lemmas.List.{drop_all, drop_more}
use Rattle.page_curves.specs.Scale.{scale_among}
use Rattle.page_curves.proofs.Scales.{found, none, passed}
use Rattle.page_curves.proofs.scale.scale_among.Goals as goal

pub loop-scale-preserved : goal.loop-scale-preserved
loop-scale-preserved c =
    passed (drop c.loop-scale.scale-index c.args.scales.now) (drop (c.loop-scale.scale-index + 1) c.args.scales.now) _ c.args.greatest
    (scale_among c.args.scales.now c.args.greatest) c.reaches.result
    (drop_more c.args.scales.now c.loop-scale.scale-index 0 c.loop-scale-test.true) c.reaches.ensures c.if-reaches.false c.loop-scale.invariant

pub returns-clause-same : goal.returns-clause-same
returns-clause-same c = none (drop c.loop-scale.scale-index c.args.scales.now) c.args.greatest (scale_among c.args.scales.now c.args.greatest)
    (drop_all c.loop-scale.scale-index c.args.scales.now (omega (arith, c.loop-scale-test.false))) c.loop-scale.invariant

pub returns-then-reaches-clause-same : goal.returns-then-reaches-clause-same
returns-then-reaches-clause-same c = rw c.min.ensures
    (found (drop c.loop-scale.scale-index c.args.scales.now) (drop (c.loop-scale.scale-index + 1) c.args.scales.now) _ c.args.greatest
    (scale_among c.args.scales.now c.args.greatest) c.reaches.result
    (drop_more c.args.scales.now c.loop-scale.scale-index 0 c.loop-scale-test.true) c.reaches.ensures c.if-reaches.true c.loop-scale.invariant)
