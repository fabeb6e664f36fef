use Rattle.std.proofs.Common.{◌≡◌, ◌≤◌, ◌*◌, sum_by, take}
use Rattle.description_parts.specs.Tables.{service_length}
use Rattle.description_parts.proofs.section_lengths.service_bytes.Given as goal

abbrev pub invariant-loop-program : goal.invariant-loop-program
invariant-loop-program l = record {
  total : l.total ≡ sum_by service_length (take l.program-index l.programs);
  bound : l.total ≤ 1009 * l.program-index;
}
