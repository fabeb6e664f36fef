use Rattle.std.proofs.Common.{◌≡◌, ◌-◌, drop, length, map}
use Rattle.pid_findings.specs.Shown.{finding_view}
use Rattle.es_units.specs.CarriedUnits.{is_cut}
use Rattle.es_units.proofs.PidPlaces.{IsOn}
use Rattle.es_units.proofs.split_units.is_cut.Given as goal

abbrev pub invariant-loop-at : goal.invariant-loop-at
invariant-loop-at g l = record {
  on : IsOn finding_view l.pid l.at l.findings;
  cut : is_cut l.id l.pid (map finding_view (drop l.from l.findings)) ≡ is_cut l.id l.pid (map finding_view (drop l.at l.findings));
}

abbrev pub decreases-loop-at : goal.decreases-loop-at
decreases-loop-at g l = length l.findings - l.at
