-- The programs of a stream and their elementary streams.
use Rattle.std.specs.Prelude.{ℕ, ◌==◌, ◌||◌, ◌&&◌, not, Bool, is_none, is_some, if◌then◌else◌, List, [], ◌∷◌, ◌++◌, Option, Some, None}
use Rattle.std.specs.List.{list_any}
use Rattle.std.specs.Option.{option_or}
use Rattle.psi_tables.specs.ProgramMap.{StreamView, PmtView}
use Rattle.psi_tables.specs.declared.pat.programs.Program.{Program}
use Rattle.pid_findings.specs.Views.{FindingView}
use Rattle.descriptor_loops.specs.Descriptors.{has_ca, kept_descriptors, has_of_multiplex}
use Rattle.program_tables.specs.ProgramMaps.{program_map}
use Rattle.stream_programs.specs.Streams.{FoundStreamView, is_alike, is_shared_with, is_stream_of, holder, is_reserved, omission_of, shared_by}
use Rattle.stream_programs.specs.declared.omission.TableOmission.{TableOmission}
use Rattle.stream_programs.specs.declared.omission.TableOmission.TheVariants.{NoMap, NoPes, NoStream, ConditionalAccess, Multiplex, Taken, SharedOtherwise}

-- a program that has a stream
pub record FoundProgramView : Type 0 where
  pub number : ℕ
  pub map_pid : ℕ
  pub pcr_pid : ℕ
  pub descriptors : List ℕ

-- programs; the streams of all programs, each on its own PID; streams of sections; and what is left out, these sections too
pub record FoundProgramsView : Type 0 where
  pub programs : List FoundProgramView
  pub streams : List FoundStreamView
  pub tables : List FoundStreamView
  pub left_out : List TableOmission

abbrev pub nothing : FoundProgramsView
nothing = record { programs = []; streams = []; tables = []; left_out = [] }

-- 1. A stream of a program's map, by the streams of the maps before it

abbrev pub kept_stream : ℕ → StreamView → FoundStreamView
kept_stream number s = record {
  program = number;
  stream_type = s.stream_type;
  pid = s.elementary_pid;
  descriptors = kept_descriptors s.descriptors;
  shared_with = [];
}

abbrev pub with_left_out : FoundProgramsView → TableOmission → FoundProgramsView
with_left_out found why = record { programs = found.programs; streams = found.streams; tables = found.tables; left_out = found.left_out ++ why ∷ [] }

abbrev pub with_kept : FoundProgramsView → FoundStreamView → FoundProgramsView
with_kept found s = record { programs = found.programs; streams = found.streams ++ s ∷ []; tables = found.tables; left_out = found.left_out }

-- the program of the stream, or else of the sections, that have a PID
unfoldable pub holder_in : FoundProgramsView → ℕ → Option ℕ
holder_in found pid = option_or (holder pid found.streams) (holder pid found.tables)

-- sections, where nothing has their PID
unfoldable pub can_place : FoundProgramsView → ℕ → Bool
can_place found pid = not (is_reserved pid) && is_none (holder_in found pid)

unfoldable pub with_table : FoundProgramsView → FoundStreamView → FoundProgramsView
with_table found s = record {
  programs = found.programs;
  streams = found.streams;
  tables = if can_place found s.pid then found.tables ++ s ∷ [] else found.tables;
  left_out = found.left_out ++ NoPes s.program s.pid s.stream_type ∷ [];
}

-- a program of this number has its clock references on this PID (2.4.4.9; 0x1FFF is none), so with another that has them there
-- one clock
unfoldable pub has_clock : List FoundProgramView → ℕ → ℕ → Bool
has_clock programs number pcr_pid = not (pcr_pid == 8191) && list_any (λ p. p.number == number && p.pcr_pid == pcr_pid) programs

-- a program names the stream already
unfoldable pub shares : List FoundStreamView → ℕ → ℕ → Bool
shares streams number pid = list_any (λ s. s.pid == pid && is_shared_with number s) streams

-- a stream of a holder's, no sections, is shared where both have one clock, once
unfoldable pub can_share : FoundProgramsView → ℕ → ℕ → FoundStreamView → Bool
can_share found other pcr_pid s =
    is_some (holder s.pid found.streams) && (has_clock found.programs other pcr_pid && not (shares found.streams s.program s.pid))

-- it is shared; where the map says something else of it, that is left out
abbrev pub otherwise : FoundStreamView → ℕ → TableOmission
otherwise s holder = SharedOtherwise s.program s.pid holder

unfoldable pub with_shared : FoundProgramsView → ℕ → FoundStreamView → FoundProgramsView
with_shared found holder s = record {
  programs = found.programs;
  streams = shared_by s.program s.pid found.streams;
  tables = found.tables;
  left_out = if list_any (is_alike s) found.streams then found.left_out else found.left_out ++ otherwise s holder ∷ [];
}

-- what there is of a stream of a map with clock references on a PID
unfoldable pub with_stream_if : Option TableOmission → FoundProgramsView → ℕ → FoundStreamView → FoundProgramsView
with_stream_if None found pcr_pid s = with_kept found s
with_stream_if (Some (Taken program pid holder)) found pcr_pid s =
    if can_share found holder pcr_pid s then with_shared found holder s else with_left_out found (Taken program pid holder)
with_stream_if (Some (NoPes program pid stream_type)) found pcr_pid s = with_table found s
with_stream_if (Some why) found pcr_pid s = with_left_out found why

unfoldable pub with_stream : FoundProgramsView → ℕ → ℕ → StreamView → FoundProgramsView
with_stream found number pcr_pid s =
    with_stream_if (omission_of number s.stream_type s.elementary_pid (holder_in found s.elementary_pid)) found pcr_pid (kept_stream number s)

unfoldable pub with_streams : FoundProgramsView → ℕ → ℕ → List StreamView → FoundProgramsView
with_streams found number pcr_pid [] = found
with_streams found number pcr_pid (s ∷ ss) = with_streams (with_stream found number pcr_pid s) number pcr_pid ss

-- 2. A program

-- a stream has a descriptor of conditional access
unfoldable pub any_ca : List StreamView → Bool
any_ca streams = list_any (λ s. has_ca s.descriptors) streams

-- a loop of descriptors of its map has one
unfoldable pub is_scrambled_map : PmtView → Bool
is_scrambled_map pmt = has_ca pmt.program_info || any_ca pmt.streams

unfoldable pub with_access : FoundProgramsView → ℕ → PmtView → FoundProgramsView
with_access found number pmt = if is_scrambled_map pmt then with_left_out found (ConditionalAccess number) else found

-- whether a descriptor loop of its map has a descriptor about the multiplex
unfoldable pub any_of_multiplex : List StreamView → Bool
any_of_multiplex streams = list_any (λ s. has_of_multiplex s.descriptors) streams

unfoldable pub is_multiplexed_map : PmtView → Bool
is_multiplexed_map pmt = has_of_multiplex pmt.program_info || any_of_multiplex pmt.streams

unfoldable pub with_multiplex : FoundProgramsView → ℕ → PmtView → FoundProgramsView
with_multiplex found number pmt = if is_multiplexed_map pmt then with_left_out found (Multiplex number) else found

-- a program is kept if it has a stream, of its own or shared
unfoldable pub with_program_if : FoundProgramsView → FoundProgramView → FoundProgramsView
with_program_if found p =
    if list_any (is_stream_of p.number) found.streams then record
    { programs = found.programs ++ p ∷ []; streams = found.streams; tables = found.tables; left_out = found.left_out }
    else with_left_out found (NoStream p.number)

abbrev pub kept_program : Program → PmtView → FoundProgramView
kept_program p pmt = record {
  number = p.program_number;
  map_pid = p.pid;
  pcr_pid = pmt.pcr_pid;
  descriptors = kept_descriptors pmt.program_info;
}

unfoldable pub with_map : FoundProgramsView → Program → PmtView → FoundProgramsView
with_map found p pmt =
    with_program_if (with_streams (with_multiplex (with_access found p.program_number pmt) p.program_number pmt) p.program_number pmt.pcr_pid pmt.streams)
    (kept_program p pmt)

unfoldable pub with_program_by : FoundProgramsView → Program → Option PmtView → FoundProgramsView
with_program_by found p None = with_left_out found (NoMap p.program_number)
with_program_by found p (Some pmt) = with_map found p pmt

-- 3. Programs one after another

unfoldable pub with_programs : FoundProgramsView → List Program → List FindingView → FoundProgramsView
with_programs found [] findings = found
with_programs found (p ∷ ps) findings = with_programs (with_program_by found p (program_map p findings)) ps findings

-- the programs that are named, each by its last map
unfoldable pub programs_of : List Program → List FindingView → FoundProgramsView
programs_of named findings = with_programs nothing named findings
