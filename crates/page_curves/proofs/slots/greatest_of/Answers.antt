use Rattle.std.proofs.Common.{◌+◌, drop, arith}
use Rattle.std.proofs.lemmas.List.{drop_all, drop_more}
use Rattle.page_curves.specs.Slots.{greatest_of}
use Rattle.page_curves.proofs.Neighbours.{greatest_all, greatest_more}
use Rattle.page_curves.proofs.slots.greatest_of.Goals as goal

pub loop-bounds-preserved : goal.loop-bounds-preserved
loop-bounds-preserved c =
    greatest_more (drop c.loop-bounds.bounds-index c.args.slots.now) (drop (c.loop-bounds.bounds-index + 1) c.args.slots.now) _ c.loop-bounds.greatest
    c.greatest_in.result c.max-greatest.result (greatest_of c.args.slots.now)
    c.greatest_in.ensures c.max-greatest.ensures (drop_more c.args.slots.now c.loop-bounds.bounds-index _ c.loop-bounds-test.true) c.loop-bounds.invariant

pub returns : goal.returns
returns c = greatest_all (drop c.loop-bounds.bounds-index c.args.slots.now) c.loop-bounds.greatest (greatest_of c.args.slots.now)
    (drop_all c.loop-bounds.bounds-index c.args.slots.now (omega (arith, c.loop-bounds-test.false))) c.loop-bounds.invariant
