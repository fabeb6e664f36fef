-- The elementary streams that the first packets of a stream name.
use Rattle.std.specs.Prelude.{ℕ, ◌+◌, ◌-◌, ◌^◌, ◌==◌, ◌||◌, min, nat_le, is_some, Bool, if◌then◌else◌, List, [], ◌∷◌, Option, Some, None}
use Rattle.std.specs.List.{list_all}
use Rattle.psi_tables.specs.declared.pat.programs.Program.{Program}
use Rattle.pid_findings.specs.Views.{FindingView}
use Rattle.demux.specs.Stream.{StreamState, start, pushed}
use Rattle.program_tables.specs.Association.{AssociationView, association}
use Rattle.program_tables.specs.ProgramMaps.{program_map}
use Rattle.stream_programs.specs.Programs.{FoundProgramView, FoundProgramsView, programs_of}
use Rattle.stream_programs.specs.Streams.{FoundStreamView}
use Rattle.ts_tables.specs.declared.named_streams.TheConstants.{FIRST_PACKETS}

-- each of these programs has a map
abbrev pub have_maps : List FindingView → List Program → Bool
have_maps found programs = list_all (λ program. is_some (program_map program found)) programs

-- the programs of an association table and their streams: once each has a map, or at the last packet that is looked at
unfoldable pub streams_by : Bool → List FindingView → Option AssociationView → Option FoundProgramsView
streams_by last found None = if last then Some (programs_of [] found) else None
streams_by last found (Some table) = if last || have_maps found table.programs then Some (programs_of table.programs found) else None

abbrev pub streams_at : Bool → List FindingView → Option FoundProgramsView
streams_at last found = streams_by last found (association found)

-- the findings in the packets so far, their number, and the streams once these are known
pub record NamedView : Type 0 where
  pub demux : StreamState
  pub packets : ℕ
  pub streams : Option FoundProgramsView

-- before the first packet
abbrev pub none_taken : NamedView
none_taken = record { demux = start; packets = 0; streams = None }

-- whether the limit of packets that are read for tables is reached
abbrev pub is_last : ℕ → Bool
is_last packets = nat_le FIRST_PACKETS packets

-- numbers of packets stop at 2^32 - 1
abbrev pub next_packet : ℕ → ℕ
next_packet packets = min (packets + 1) (2 ^ 32 - 1)

-- after a further packet: the streams as the findings then name them
abbrev pub looked_at : NamedView → List ℕ → NamedView
looked_at s bytes = record {
  demux = pushed s.demux bytes;
  packets = next_packet s.packets;
  streams = streams_at (is_last (next_packet s.packets)) (pushed s.demux bytes).found;
}

-- once the streams are known, nothing more is looked at
unfoldable pub taken_if : NamedView → Option FoundProgramsView → List ℕ → NamedView
taken_if s None bytes = looked_at s bytes
taken_if s (Some streams) bytes = s

abbrev pub taken : NamedView → List ℕ → NamedView
taken s bytes = taken_if s s.streams bytes

-- the stream of a PID among these
unfoldable pub stream_in : ℕ → List FoundStreamView → Option FoundStreamView
stream_in pid [] = None
stream_in pid (stream ∷ streams) = if stream.pid == pid then Some stream else stream_in pid streams

unfoldable pub stream_by : ℕ → Option FoundProgramsView → Option FoundStreamView
stream_by pid None = None
stream_by pid (Some found) = stream_in pid found.streams

-- the stream of a PID among the known streams
abbrev pub stream_of : NamedView → ℕ → Option FoundStreamView
stream_of s pid = stream_by pid s.streams

-- PCR_PID of a program among these; 8191, which means no clock reference, if there is no such program
unfoldable pub clock_in : ℕ → List FoundProgramView → ℕ
clock_in number [] = 8191
clock_in number (program ∷ programs) = if program.number == number then program.pcr_pid else clock_in number programs

unfoldable pub clock_by : ℕ → Option FoundProgramsView → ℕ
clock_by number None = 8191
clock_by number (Some found) = clock_in number found.programs

abbrev pub clock_of : NamedView → ℕ → ℕ
clock_of s number = clock_by number s.streams
