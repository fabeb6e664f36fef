use Rattle.std.proofs.Common.{◌≡◌, ◌<◌, length, get_or, arith}
use Rattle.plan_maker.specs.Loads.{clock_load}
use Rattle.plan_maker.proofs.LoadSums.{total_more}
use Rattle.plan_maker.proofs.reason.load.pcrs_load.Goals as goal

pub loop-i-preserved : goal.loop-i-preserved
loop-i-preserved c =
    let d = c.args.description.now in
    let x = c.program-item.result in
    let i = c.loop-i.i in
    let at : x ≡ get_or d.programs i x = rw c.programs-program-items.ensures.value at c.program-item.is in
    let below : i < length d.programs = rw c.programs-program-items.ensures.value at c.loop-i-test.true in
    record {
      summed = omega (arith, c.loop-i.invariant.summed, c.clock_load-total.ensures.load, total_more (clock_load d c.args.rate) d.programs i x below at);
      bound = omega (arith, c.loop-i.invariant.bound, c.clock_load-total.ensures.bound);
    }
