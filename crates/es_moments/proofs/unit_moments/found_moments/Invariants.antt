use Rattle.std.proofs.Common.{◌≡◌, ◌≤◌, ◌^◌, ◌++◌, None, drop, map}
use Rattle.std.specs.Prelude.{IfSome}
use Rattle.es_moments.specs.Stamps.{moved, first_fault}
use Rattle.es_moments.specs.UnitMoments.{moment_of}
use Rattle.es_moments.proofs.UnitMoments.{wire}
use Rattle.es_moments.proofs.unit_moments.found_moments.Given as goal

abbrev pub invariant-loop-index : goal.invariant-loop-index
invariant-loop-index g l = record {
  moments : map moment_of (moved l.base None (wire l.units)) ≡ l.found.items ++ map moment_of (moved l.base l.before (wire (drop l.index l.units)));
  fault : first_fault l.limit l.base None 0 (wire l.units) ≡ first_fault l.limit l.base l.before l.index (wire (drop l.index l.units));
  before : IfSome l.before (λ dts. dts ≤ 2 ^ 52);
}
