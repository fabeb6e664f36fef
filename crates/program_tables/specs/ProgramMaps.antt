-- The program map table of a program (ISO/IEC 13818-1, 2.4.4.8).
use Rattle.std.specs.Prelude.{ℕ, ◌==◌, ◌&&◌, ◌||◌, not, Bool, false, if◌then◌else◌, List, [], ◌∷◌, Option, Some, None, option_and_then, Result, Ok, Err}
use Rattle.std.specs.List.{list_any, list_all}
use Rattle.std.specs.Option.{option_or}
use Rattle.std.specs.Str.{bytes_eq}
use Rattle.descriptor_loops.specs.Descriptors.{DescriptorView, descriptors_in}
use Rattle.psi_tables.specs.Views.{SectionView}
use Rattle.psi_tables.specs.Reading.{section_at}
use Rattle.psi_tables.specs.ProgramMap.{StreamView, PmtView, pmt_at}
use Rattle.psi_tables.specs.declared.error.SectionError.{SectionError}
use Rattle.psi_tables.specs.declared.pat.programs.Program.{Program}
use Rattle.pid_findings.specs.Views.{FindingView}
use Rattle.program_tables.specs.declared.program_map.MapPart.{MapPart}
use Rattle.program_tables.specs.declared.program_map.MapPart.TheVariants.{NamedStreams, Descriptors}
use Rattle.program_tables.specs.Sections.{section_bytes, section_on}

-- 1. The last table

-- a table of this program that is in force now, and not the next one
unfoldable pub in_force : ℕ → Result PmtView SectionError → Option PmtView
in_force number (Err error) = None
in_force number (Ok pmt) = if pmt.header.current_next && (pmt.header.table_id_extension == number) then Some pmt else None

unfoldable pub pmt_of_section : ℕ → Result (SectionView × ℕ) SectionError → Option PmtView
pmt_of_section number (Err error) = None
pmt_of_section number (Ok section) = in_force number (pmt_at section.0)

unfoldable pub pmt_in : ℕ → List ℕ → Option PmtView
pmt_in number bytes = pmt_of_section number (section_at bytes)

-- the table that a finding has: a section on the program's PID with its number
unfoldable pub pmt_found : Program → FindingView → Option PmtView
pmt_found program finding = option_and_then (pmt_in program.program_number) (section_on program.pid finding)

-- the last map of a program in a stream
unfoldable pub program_map : Program → List FindingView → Option PmtView
program_map program [] = None
program_map program (finding ∷ findings) = option_or (program_map program findings) (pmt_found program finding)

-- the table that is in force now, of whatever program
unfoldable pub now_in_force : Result PmtView SectionError → Option PmtView
now_in_force (Err error) = None
now_in_force (Ok pmt) = if pmt.header.current_next then Some pmt else None

unfoldable pub map_of_section : Result (SectionView × ℕ) SectionError → Option PmtView
map_of_section (Err error) = None
map_of_section (Ok section) = now_in_force (pmt_at section.0)

unfoldable pub map_in : List ℕ → Option PmtView
map_in bytes = map_of_section (section_at bytes)

-- the table that a finding has, of whatever program
unfoldable pub any_map : FindingView → Option PmtView
any_map finding = option_and_then map_in (section_bytes finding.what)

-- if it is of this program
unfoldable pub numbered : ℕ → Option PmtView → Option PmtView
numbered number None = None
numbered number (Some pmt) = if pmt.header.table_id_extension == number then Some pmt else None

-- 2. Tables that name other streams than the last one: by stream_type and PID

-- streams of one stream_type and PID
unfoldable pub is_same_stream : StreamView → StreamView → Bool
is_same_stream one other = one.stream_type == other.stream_type && one.elementary_pid == other.elementary_pid

-- a stream is among these
unfoldable pub has_stream : List StreamView → StreamView → Bool
has_stream streams s = list_any (λ other. is_same_stream other s) streams

-- the first list has all streams of the second
unfoldable pub has_streams : List StreamView → List StreamView → Bool
has_streams streams others = list_all (λ s. has_stream streams s) others

-- tables of the same streams, in whatever order
unfoldable pub names_same : List StreamView → List StreamView → Bool
names_same one other = has_streams one other && has_streams other one

-- 3. Tables with descriptors that the last one has not

-- AC-3 and enhanced AC-3 (EN 300 468, annex D): the stream itself has what these descriptors say
unfoldable pub is_of_sound : ℕ → Bool
is_of_sound tag = tag == 0x6A || tag == 0x7A

-- descriptors with the same tag and bytes; for AC-3 the tag alone counts
unfoldable pub is_same_descriptor : DescriptorView → DescriptorView → Bool
is_same_descriptor one other = one.tag == other.tag && (is_of_sound one.tag || bytes_eq one.body other.body)

-- a descriptor is among the descriptors in these bytes
unfoldable pub has_descriptor : List ℕ → DescriptorView → Bool
has_descriptor bytes d = list_any (λ other. is_same_descriptor other d) (descriptors_in bytes)

-- the first loop has all descriptors of the second
unfoldable pub has_descriptors : List ℕ → List ℕ → Bool
has_descriptors bytes others = list_all (λ d. has_descriptor bytes d) (descriptors_in others)

-- the streams are not the same, or the first has all descriptors of the second
unfoldable pub keeps_one : StreamView → StreamView → Bool
keeps_one s other = not (is_same_stream s other) || has_descriptors s.descriptors other.descriptors

unfoldable pub keeps_stream : List StreamView → StreamView → Bool
keeps_stream streams s = list_all (λ one. keeps_one one s) streams

unfoldable pub keeps_streams : List StreamView → List StreamView → Bool
keeps_streams streams others = list_all (λ s. keeps_stream streams s) others

-- the first table has all descriptors of the second: of the program, and of each stream that both have
unfoldable pub keeps_descriptors : PmtView → PmtView → Bool
keeps_descriptors one other = has_descriptors one.program_info other.program_info && keeps_streams one.streams other.streams

-- 4. The first table that differs from the last one in a part

unfoldable pub differs : MapPart → PmtView → Option PmtView → Bool
differs part last None = false
differs NamedStreams last (Some pmt) = not (names_same last.streams pmt.streams)
differs Descriptors last (Some pmt) = not (keeps_descriptors last pmt)

-- the packet where the first table ends that differs from this one
unfoldable pub first_differing : MapPart → Program → PmtView → List FindingView → Option ℕ
first_differing part program last [] = None
first_differing part program last (finding ∷ findings) =
    if differs part last (pmt_found program finding) then Some finding.packet else first_differing part program last findings

-- the packet where the first table ends that differs from the last one
unfoldable pub map_change : MapPart → Program → List FindingView → Option ℕ
map_change part program findings = option_and_then (λ last. first_differing part program last findings) (program_map program findings)
