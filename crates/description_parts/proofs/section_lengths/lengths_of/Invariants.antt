use Rattle.std.proofs.Common.{◌≡◌, map, take, length}
use Rattle.description_parts.proofs.section_lengths.lengths_of.Given as goal

abbrev pub invariant-loop-section : goal.invariant-loop-section
invariant-loop-section l = l.lengths.items ≡ map length (take l.section-index l.sections)
