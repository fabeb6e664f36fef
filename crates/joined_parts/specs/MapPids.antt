-- The PID of each program's maps in a recording that was joined from several: the PID that the first program association table names for the program
-- (ISO/IEC 13818-1, 2.4.4.3).
use Rattle.std.specs.Prelude.{ℕ, nat_eq, Option, Some, None, List, [], ◌∷◌, map}
use Rattle.std.specs.Option.{option_or}
use Rattle.std.specs.Map.{lookup}
use Rattle.indexmap.specs.IndexMap.{insert_entry}
use Rattle.psi_tables.specs.declared.pat.programs.Program.{Program}
use Rattle.pid_findings.specs.Views.{FindingView}
use Rattle.program_tables.specs.Association.{AssociationView, association}
use Rattle.program_tables.specs.MapPlaces.{program_found}

-- by program_number the PID of the program's maps
unfoldable pub pids_after : List (ℕ × ℕ) → List Program → List (ℕ × ℕ)
pids_after pids [] = pids
pids_after pids (p ∷ ps) = pids_after (insert_entry nat_eq pids p.program_number p.pid) ps

unfoldable pub map_pids : Option AssociationView → List (ℕ × ℕ)
map_pids None = []
map_pids (Some a) = pids_after [] a.programs

-- the PID of a finding; if it has the map of one of these programs, the PID of the program's maps
unfoldable pub own_pid : List (ℕ × ℕ) → Option Program → Option ℕ → Option ℕ
own_pid pids None pid = pid
own_pid pids (Some p) pid = option_or (lookup (nat_eq p.program_number) pids) pid

abbrev pub with_own_pid : List (ℕ × ℕ) → FindingView → FindingView
with_own_pid pids f = record { packet = f.packet; pid = own_pid pids (program_found f) f.pid; begun = f.begun; what = f.what }

abbrev pub one_pid_each : List FindingView → List FindingView
one_pid_each findings = map (with_own_pid (map_pids (association findings))) findings
