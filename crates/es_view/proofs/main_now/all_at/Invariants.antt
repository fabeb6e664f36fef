use Rattle.std.proofs.Common.{◌≡◌, ◌+◌, drop}
use Rattle.tstd.specs.BufferedUnits.{all_buffered}
use Rattle.es_view.proofs.main_now.all_at.Given as goal

abbrev pub invariant-loop-unit : goal.invariant-loop-unit
invariant-loop-unit l = l.bytes + all_buffered l.moment (drop l.unit-index l.units) ≡ all_buffered l.moment l.units
