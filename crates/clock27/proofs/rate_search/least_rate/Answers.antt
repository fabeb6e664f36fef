use Rattle.std.proofs.Common.{ℕ, ◌+◌, ◌-◌, ◌/◌, arith, sym, ◌∙◌}
use Rattle.clock27.proofs.rate_search.least_rate.Goals as goal

pub loop-low-preserved : goal.loop-low-preserved
loop-low-preserved g c =
    let inv = c.loop-low.invariant in
    let middle : ℕ = c.loop-low.low + (c.loop-low.high - c.loop-low.low) / 2 in
    record {
      begun = omega (arith, inv.begun);
      order = omega (arith, c.loop-low-test.true);
      end = inv.end;
      below = λ r low lt. c.requires.monotone r middle (omega (arith, low, c.requires.low)) (omega (arith, lt))
          (sym c.has_slots.ensures ∙ c.if-has_slots.false);
      above = inv.above;
    }
