use Rattle.std.proofs.Common.{◌≡◌, ◌-◌, ◌++◌, ◌||◌, drop, length, map}
use Rattle.pid_findings.specs.Shown.{finding_view}
use Rattle.es_units.specs.CarriedUnits.{units_in}
use Rattle.es_units.specs.UnitSteps.{has_cut}
use Rattle.es_units.proofs.PidPlaces.{IsOn}
use Rattle.es_units.proofs.UnitSteps.{units_with, cut_with, id_under_way}
use Rattle.es_units.proofs.found.units_by.Given as goal

abbrev pub invariant-loop-at : goal.invariant-loop-at
invariant-loop-at g l = record {
  pid : l.taker.pid ≡ l.pid;
  on : IsOn finding_view l.pid l.at l.findings;
  units : units_in l.split l.pid (map finding_view l.findings) ≡ l.units.items
      ++ units_with l.taker.split l.taker.pid l.taker.unit (map finding_view (drop l.at l.findings));
  cut : has_cut l.pid (map finding_view l.findings) ≡
      (l.cut || cut_with l.pid (id_under_way l.taker.unit) (map finding_view (drop l.at l.findings)));
}

abbrev pub decreases-loop-at : goal.decreases-loop-at
decreases-loop-at g l = length l.findings - l.at
