use Rattle.std.proofs.Common.{refl, ◌∙◌, ◌-◌, arith}
use Rattle.std.proofs.lemmas.List.{length-set}
use Rattle.clock27.proofs.MinMax.{max_is}
use Rattle.mux_core.proofs.UnitCounts.{counts_none, count_own, most_none, most_more}
use Rattle.mux_core.proofs.multiplexing.max_stream_units.Goals as goal

pub units-init : goal.units-init
units-init g c = record {
  inside = omega arith;
  size = refl;
  counts = counts_none _ c.args.units.now (omega arith);
  most = most_none _ c.args.units.now (omega arith);
}

pub units-preserved : goal.units-preserved
units-preserved g c = record {
  inside = omega (arith, c.units.invariant.inside);
  size = length-set c.units.counts _ _ ∙ c.units.invariant.size;
  counts = count_own c.units.counts c.units.left (c.units.left - 1) c.args.units.now c.index-units-left.result c.units.invariant.size
      (omega (arith, c.index-units-left.element_fits.fits)) (omega (arith, c.units-test.true))
      (omega (arith, c.units-test.true, c.units.invariant.inside)) c.units.invariant.counts;
  most = c.max-most.ensures ∙ max_is c.units.most _ ∙ most_more c.units.counts c.units.left (c.units.left - 1) c.args.units.now c.index-units-left.result
      c.units.most c.units.invariant.size (omega (arith, c.index-units-left.element_fits.fits)) (omega (arith, c.units-test.true))
      (omega (arith, c.units-test.true, c.units.invariant.inside)) c.units.invariant.counts c.units.invariant.most;
}
