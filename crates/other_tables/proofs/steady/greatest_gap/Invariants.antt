use Rattle.std.proofs.Common.{◌≡◌, None, drop, map, max}
use Rattle.other_tables.specs.SteadySections.{section_view, greatest_gap}
use Rattle.other_tables.proofs.steady.greatest_gap.Given as goal

abbrev pub invariant-loop-section : goal.invariant-loop-section
invariant-loop-section l =
    greatest_gap l.bytes None (map section_view l.all) ≡ max l.gap (greatest_gap l.bytes l.last (map section_view (drop l.section-index l.all)))
