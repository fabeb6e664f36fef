use Rattle.std.proofs.Common.{◌≡◌, ◌++◌, map, length}
use Rattle.pid_findings.specs.OpenUnits as units
use Rattle.pid_findings.specs.Shown.{given, given_view, is_borrowed, payload_list}
use Rattle.pid_findings.proofs.sections.sections.Given as goal

abbrev pub invariant-loop-rest : goal.invariant-loop-rest
invariant-loop-rest g l = record {
  found : map given_view l.found.items ++ map (given l.place) (units.sections_in l.place.packet 0 (payload_list l.rest))
      ≡ map given_view l.fn.found.items ++ map (given l.place) (units.sections_in l.place.packet 0 (payload_list l.payload));
  borrowed : is_borrowed l.rest ≡ is_borrowed l.payload;
  last : units.last_in 0 (payload_list l.rest) ≡ units.last_in 0 (payload_list l.payload);
}

abbrev pub decreases-loop-rest : goal.decreases-loop-rest
decreases-loop-rest g l = length (payload_list l.rest)
