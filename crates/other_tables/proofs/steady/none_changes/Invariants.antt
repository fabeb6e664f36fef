use Rattle.std.proofs.Common.{◌≡◌, drop, map}
use Rattle.other_tables.specs.SteadySections.{section_view, none_changes}
use Rattle.other_tables.proofs.steady.none_changes.Given as goal

abbrev pub invariant-loop-at : goal.invariant-loop-at
invariant-loop-at l = none_changes (map section_view l.known) ≡ none_changes (map section_view (drop l.at l.known))
