use Rattle.std.proofs.Common.{◌≡◌, ◌++◌, drop, map}
use Rattle.other_tables.specs.SteadySections.{section_view}
use Rattle.other_tables.proofs.steady.bytes_of.Given as goal

abbrev pub invariant-loop-section : goal.invariant-loop-section
invariant-loop-section l =
    map (λ b. b.items) l.sections.items ++ map (λ s. s.bytes) (map section_view (drop l.section-index l.known))
    ≡ map (λ s. s.bytes) (map section_view l.known)
