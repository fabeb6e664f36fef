use Rattle.std.proofs.Common.{◌≤◌, length, map}
use Rattle.pid_findings.specs.Shown.{finding_view}
use Rattle.es_units.specs.PidPlaces as spec
use Rattle.es_units.proofs.PidPlaces.{AreLinksFrom}
use Rattle.es_units.proofs.pid_links.PidLinks.new.Given as goal

abbrev pub invariant-loop-left : goal.invariant-loop-left
invariant-loop-left g l = record {
  within : l.left ≤ length l.findings;
  links : AreLinksFrom l.left l.firsts.items l.nexts.items (spec.pids_in (map finding_view l.findings));
}

abbrev pub decreases-loop-left : goal.decreases-loop-left
decreases-loop-left g l = l.left
