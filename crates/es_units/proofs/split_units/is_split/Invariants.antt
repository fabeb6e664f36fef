use Rattle.std.proofs.Common.{◌≡◌, ◌-◌, drop, length, map}
use Rattle.std.specs.List.{list_any}
use Rattle.pid_findings.specs.Shown.{finding_view}
use Rattle.es_units.specs.CarriedUnits.{is_part, role_of}
use Rattle.es_units.proofs.PidPlaces.{IsOn}
use Rattle.es_units.proofs.split_units.is_split.Given as goal

abbrev pub invariant-loop-at : goal.invariant-loop-at
invariant-loop-at g l = record {
  on : IsOn finding_view l.pid l.at l.findings;
  split : list_any (λ x. is_part l.first (role_of l.pid x)) (map finding_view l.findings) ≡ list_any (λ x. is_part l.first (role_of l.pid x))
      (map finding_view (drop l.at l.findings));
}

abbrev pub decreases-loop-at : goal.decreases-loop-at
decreases-loop-at g l = length l.findings - l.at
