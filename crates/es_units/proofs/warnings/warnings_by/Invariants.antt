use Rattle.std.proofs.Common.{◌≡◌, ◌-◌, ◌++◌, ◌||◌, None, drop, length, map}
use Rattle.pid_findings.specs.Shown.{finding_view}
use Rattle.es_units.specs.UnitSteps.{has_cut}
use Rattle.es_units.specs.UnitWarnings.{warnings_from}
use Rattle.es_units.proofs.PidPlaces.{IsOn}
use Rattle.es_units.proofs.UnitSteps.{cut_with}
use Rattle.es_units.proofs.warnings.warnings_by.Given as goal

abbrev pub invariant-loop-at : goal.invariant-loop-at
invariant-loop-at g l = record {
  on : IsOn finding_view l.pid l.at l.findings;
  warnings : warnings_from l.split l.pid l.count None (map finding_view l.findings) ≡ l.out.items
      ++ warnings_from l.split l.pid l.count l.current (map finding_view (drop l.at l.findings));
  cut : has_cut l.pid (map finding_view l.findings) ≡ (l.cut || cut_with l.pid l.current (map finding_view (drop l.at l.findings)));
}

abbrev pub decreases-loop-at : goal.decreases-loop-at
decreases-loop-at g l = length l.findings - l.at
