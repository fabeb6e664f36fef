use Rattle.std.proofs.Common.{◌≡◌, ◌-◌, ◌++◌, drop, length, map}
use Rattle.pid_findings.specs.Shown.{finding_view}
use Rattle.es_units.specs.CarriedUnits.{carried_units}
use Rattle.es_units.specs.PidPlaces.{pids_in}
use Rattle.es_units.specs.TakenUnits.{OthersStay}
use Rattle.es_units.proofs.PidPlaces.{IsOn}
use Rattle.es_units.proofs.UnitSteps.{units_with}
use Rattle.es_units.proofs.taken.taken_units.Given as goal

abbrev pub invariant-findings : goal.invariant-findings
invariant-findings g l = record {
  pid : l.taker.pid ≡ l.pid;
  on : IsOn finding_view l.pid l.at l.fn.findings;
  pids : pids_in (map finding_view l.findings) ≡ pids_in (map finding_view l.fn.findings);
  others : OthersStay l.pid (map finding_view l.fn.findings) (map finding_view l.findings);
  units : carried_units l.pid (map finding_view l.fn.findings) ≡ l.units.items
      ++ units_with l.taker.split l.taker.pid l.taker.unit (map finding_view (drop l.at l.findings));
}

abbrev pub decreases-findings : goal.decreases-findings
decreases-findings g l = length l.findings - l.at
