-- The PIDs that program association sections name for program maps.
use Rattle.std.specs.Prelude.{ℕ, ◌==◌, not, nat_eq, List, [], map, filter, Option}
use Rattle.std.specs.List.{flat_map}
use Rattle.std.specs.Map.{lookup}
use Rattle.psi_tables.specs.Reading.{section_at}
use Rattle.psi_tables.specs.declared.pat.programs.Program.{Program}
use Rattle.pid_findings.specs.Views.{WhatView, IsSection, PidFinding}
use Rattle.monitor.specs.Begins.{found_on}
use Rattle.monitor.specs.ProgramMaps.{programs_in_section}

-- the PIDs that a section names: the PIDs of its programs, except program 0, whose PID is the network's
abbrev pub program_pids : List Program → List ℕ
program_pids programs = map (λ program. program.pid) (filter (λ program. not (program.program_number == 0)) programs)

unfoldable pub pids_named_in : WhatView → List ℕ
pids_named_in (IsSection bytes) = program_pids (programs_in_section (section_at bytes))
pids_named_in what = []

-- each PID that a section on PID 0 names, with the packet where that section ends
abbrev pub namings : List PidFinding → List (ℕ × ℕ)
namings found = flat_map (λ at. map (λ pid. (pid, at.packet)) (pids_named_in at.found.what)) found

-- the packet from which a PID is named
abbrev pub named_since : ℕ → List ℕ → Option ℕ
named_since pid bytes = lookup (nat_eq pid) (namings (found_on 0 bytes))
