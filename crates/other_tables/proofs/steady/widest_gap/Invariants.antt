use Rattle.std.proofs.Common.{◌≡◌, drop, map, max}
use Rattle.other_tables.specs.SteadySections.{section_view, widest_gap}
use Rattle.other_tables.proofs.steady.widest_gap.Given as goal

abbrev pub invariant-loop-section : goal.invariant-loop-section
invariant-loop-section l =
    widest_gap (map section_view l.all) (map section_view l.known)
    ≡ max l.widest (widest_gap (map section_view l.all) (map section_view (drop l.section-index l.known)))
