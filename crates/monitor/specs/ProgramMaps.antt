-- The PIDs that program association sections name, one section after another, and where program map sections begin.
use Rattle.std.specs.Prelude.{ℕ, ◌-◌, ◌==◌, ◌||◌, nat_le, nat_eq, if◌then◌else◌, List, [], ◌∷◌, ◌++◌, Option, Some, None, Result, Ok, Err}
use Rattle.std.specs.Map.{lookup}
use Rattle.indexmap.specs.IndexMap.{insert_entry}
use Rattle.psi_tables.specs.Views.{SectionView}
use Rattle.psi_tables.specs.Reading.{section_at}
use Rattle.psi_tables.specs.ProgramAssociation.{PatView, pat_at}
use Rattle.psi_tables.specs.declared.error.SectionError.{SectionError}
use Rattle.psi_tables.specs.declared.pat.programs.Program.{Program}
use Rattle.monitor.specs.declared.recurrence.LatePacket.{LatePacket}
use Rattle.monitor.specs.declared.program_maps.NamedMap.{NamedMap}
use Rattle.monitor.specs.Gaps.{is_long}

-- the entries of programs in a program association section that is in force now; entry 0 names the network PID
unfoldable pub programs_by : Result PatView SectionError → List Program
programs_by (Err error) = []
programs_by (Ok pat) = if pat.header.current_next then pat.programs else []

unfoldable pub programs_in_section : Result (SectionView × ℕ) SectionError → List Program
programs_in_section (Err error) = []
programs_in_section (Ok section) = programs_by (pat_at section.0)

pub record ProgramMapState : Type 0 where
  pub limit_times_rate : ℕ
  pub named : List (ℕ × NamedMap)
  pub late : List LatePacket

abbrev pub no_maps : ℕ → ProgramMapState
no_maps limit_times_rate = record { limit_times_rate = limit_times_rate; named = []; late = [] }

unfoldable pub named_from : ProgramMapState → ℕ → ℕ → Option NamedMap → ProgramMapState
named_from s pid packet None =
    record { limit_times_rate = s.limit_times_rate; named = insert_entry nat_eq s.named pid (record { since = packet; last = packet }); late = s.late }
named_from s pid packet (Some n) = s

abbrev pub named : ProgramMapState → ℕ → ℕ → ProgramMapState
named s pid packet = named_from s pid packet (lookup (nat_eq pid) s.named)

unfoldable pub named_all : ProgramMapState → List Program → ℕ → ProgramMapState
named_all s [] packet = s
named_all s (program ∷ programs) packet = named_all (if program.program_number == 0 then s else named s program.pid packet) programs packet

unfoldable pub named_by : ProgramMapState → List ℕ → ℕ → ProgramMapState
named_by s section packet = named_all s (programs_in_section (section_at section)) packet

unfoldable pub late_map : ℕ → ℕ → ℕ → ℕ → List LatePacket
late_map limit_times_rate pid last packet = if is_long limit_times_rate (packet - last) then record { pid = pid; packet = packet } ∷ [] else []

unfoldable pub map_begins_at : ProgramMapState → ℕ → ℕ → ℕ → Option NamedMap → ProgramMapState
map_begins_at s pid found packet None = s
map_begins_at s pid found packet (Some n) = if nat_le found n.since || nat_le packet n.since then s else record {
  limit_times_rate = s.limit_times_rate;
  named = insert_entry nat_eq s.named pid (record { since = n.since; last = packet });
  late = s.late ++ late_map s.limit_times_rate pid n.last packet;
}

abbrev pub map_begins : ProgramMapState → ℕ → ℕ → ℕ → ProgramMapState
map_begins s pid found packet = map_begins_at s pid found packet (lookup (nat_eq pid) s.named)
