-- Programs that a later program association table names (ISO/IEC 13818-1, 2.4.4.3), and the first one does not: nothing reads their maps.
use Rattle.std.specs.Prelude.{ℕ, ◌==◌, ◌&&◌, ◌||◌, not, Bool, false, List, Option, Some, None}
use Rattle.std.specs.List.{list_any, list_all}
use Rattle.psi_tables.specs.ProgramAssociation.{PatView}
use Rattle.psi_tables.specs.declared.pat.programs.Program.{Program}
use Rattle.pid_findings.specs.Views.{FindingView}
use Rattle.program_tables.specs.Association.{pat_found}
use Rattle.service_information.specs.FirstFindings.{first_packet}
use Rattle.job_programs.specs.JobOptions.{JobOptionsView, is_selected_program}

-- the maps of an entry are read: one of these programs has its number and its PID; in a joined recording, where all maps of a program have
-- the first one's PID, its number
unfoldable pub is_read : Bool → List Program → Program → Bool
is_read joined named p = list_any (λ other. other.program_number == p.program_number && (joined || other.pid == p.pid)) named

-- an entry by which nothing is lost: it names the network PID, a program that is not asked for, or maps that are read
unfoldable pub is_kept : JobOptionsView → List Program → Program → Bool
is_kept options named p = (p.program_number == 0) || (not (is_selected_program options.programs p) || is_read options.joined named p)

-- a table with another entry
unfoldable pub has_lost : JobOptionsView → List Program → Option PatView → Bool
has_lost options named None = false
has_lost options named (Some pat) = not (list_all (is_kept options named) pat.programs)

unfoldable pub loses : JobOptionsView → List Program → FindingView → Bool
loses options named finding = has_lost options named (pat_found finding)

-- the packet in which the first such table ends
unfoldable pub program_loss : JobOptionsView → List Program → List FindingView → Option ℕ
program_loss options named findings = first_packet (loses options named) findings
