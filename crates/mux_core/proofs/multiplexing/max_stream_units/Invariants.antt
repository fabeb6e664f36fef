use Rattle.std.proofs.Common.{◌≡◌, ◌≤◌, drop, length}
use Rattle.mux_core.specs.WholeJobs.{max_stream_units}
use Rattle.mux_core.proofs.UnitCounts.{CountsFrom}
use Rattle.mux_core.proofs.multiplexing.max_stream_units.Given as goal

abbrev pub invariant-units : goal.invariant-units
invariant-units g l = record {
  inside : l.left ≤ length l.units;
  size : length l.counts ≡ 256;
  counts : CountsFrom l.counts l.left l.units;
  most : l.most ≡ max_stream_units (drop l.left l.units);
}

abbrev pub decreases-units : goal.decreases-units
decreases-units g l = l.left
