use Rattle.std.proofs.Common.{◌≡◌, ◌≤◌, ◌*◌, sum_by, take}
use Rattle.description_parts.specs.Tables.{packets_of_section}
use Rattle.description_parts.proofs.section_lengths.packets_of_sections.Given as goal

abbrev pub invariant-loop-length : goal.invariant-loop-length
invariant-loop-length l = record {
  places : l.places ≡ sum_by packets_of_section (take l.length-index l.lengths);
  bound : l.places ≤ 357 * l.length-index;
}
