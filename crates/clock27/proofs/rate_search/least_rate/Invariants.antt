use Rattle.std.proofs.Common.{◌≡◌, ℕ, ◌+◌, ◌-◌, ◌<◌, ◌≤◌, true, false}
use Rattle.clock27.specs.declared.rate.TheConstants.{GREATEST_RATE}
use Rattle.clock27.proofs.rate_search.least_rate.Given as goal

abbrev pub invariant-loop-low : goal.invariant-loop-low
invariant-loop-low g l = record {
  begun : l.from ≤ l.low;
  order : l.low ≤ l.high;
  end : l.high ≤ GREATEST_RATE + 1;
  below : (r : ℕ) → l.from ≤ r → r < l.low → g.L.Load.enough l.load r ≡ false;
  above : l.high ≤ GREATEST_RATE → g.L.Load.enough l.load l.high ≡ true;
}

abbrev pub decreases-loop-low : goal.decreases-loop-low
decreases-loop-low g l = l.high - l.low
