use Rattle.std.proofs.Common.{◌≡◌, ◌-◌, ◌==◌, drop, map, length}
use Rattle.pid_findings.specs.Shown.{finding_view}
use Rattle.es_units.specs.CarriedUnits.{continuation}
use Rattle.es_units.proofs.PidPlaces.{IsOn}
use Rattle.es_units.proofs.warnings.has_no_continuation.Given as goal

abbrev pub invariant-loop-at : goal.invariant-loop-at
invariant-loop-at g l = record {
  on : IsOn finding_view l.pid l.at l.findings;
  none : (length (continuation l.id l.pid (map finding_view (drop l.from l.findings))) == 0) ≡
      (length (continuation l.id l.pid (map finding_view (drop l.at l.findings))) == 0);
}

abbrev pub decreases-loop-at : goal.decreases-loop-at
decreases-loop-at g l = length l.findings - l.at
