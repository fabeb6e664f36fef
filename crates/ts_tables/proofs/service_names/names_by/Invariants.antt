use Rattle.std.proofs.Common.{◌≡◌, ◌++◌, map, drop}
use Rattle.ts_tables.specs.ServiceNames.{first_name}
use Rattle.ts_tables.proofs.service_names.names_by.Given as goal

abbrev pub invariant-loop-program : goal.invariant-loop-program
invariant-loop-program l =
    l.names.items ++ map (first_name l.services) (drop l.program-index l.programs) ≡ map (first_name l.services) l.programs
