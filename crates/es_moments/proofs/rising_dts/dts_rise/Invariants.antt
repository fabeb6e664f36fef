use Rattle.std.proofs.Common.{◌≡◌, ◌≤◌, drop}
use Rattle.es_moments.specs.ApartUnits.{apart_dts}
use Rattle.es_moments.specs.RisingDts.{all_later, dts_rise}
use Rattle.es_moments.proofs.rising_dts.dts_rise.Given as goal

abbrev pub invariant-loop-at : goal.invariant-loop-at
invariant-loop-at g l = record {
  all : dts_rise l.found ≡ all_later l.before (apart_dts l.place (drop l.at l.found));
  few : l.place ≤ 63;
}
