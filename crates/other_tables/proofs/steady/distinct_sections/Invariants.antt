use Rattle.std.proofs.Common.{◌≡◌, [], drop, map}
use Rattle.other_tables.specs.SteadySections.{section_view, distinct_sections}
use Rattle.other_tables.proofs.steady.distinct_sections.Given as goal

abbrev pub invariant-loop-section : goal.invariant-loop-section
invariant-loop-section l =
    distinct_sections [] (map section_view l.all) ≡ distinct_sections (map section_view l.known.items) (map section_view (drop l.section-index l.all))
