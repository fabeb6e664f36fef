use Rattle.std.proofs.Common.{◌≡◌}
use Rattle.psi_tables.specs.ProgramAssociation.{programs_of}
use Rattle.monitor.specs.ProgramMaps.{named_all}
use Rattle.monitor.proofs.program_maps.ProgramMapWatch.name_programs.Given as goal

abbrev pub invariant-loop-program : goal.invariant-loop-program
invariant-loop-program g l = named_all l.self (programs_of l.program-iterator) l.packet ≡ named_all l.fn.self (programs_of l.fn.programs) l.fn.packet
