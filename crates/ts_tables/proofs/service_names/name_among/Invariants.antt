use Rattle.std.proofs.Common.{◌≡◌, drop}
use Rattle.ts_tables.specs.ServiceNames.{name_among}
use Rattle.ts_tables.proofs.service_names.name_among.Given as goal

abbrev pub invariant-loop-name : goal.invariant-loop-name
invariant-loop-name l = name_among l.program (drop l.name-index l.names) ≡ name_among l.fn.program l.names
