use Rattle.std.proofs.Common.{◌≡◌, map, take}
use Rattle.description_parts.specs.Tables.{service_length}
use Rattle.description_parts.proofs.sdt_parts.service_lengths.Given as goal

abbrev pub invariant-loop-program : goal.invariant-loop-program
invariant-loop-program l = l.lengths.items ≡ map service_length (take l.program-index l.programs)
