-- What each section of each table says at a moment, and its bytes (ISO/IEC 13818-1, 2.4.4; EN 300 468, 5.2): under a
-- version_number, and under that which the description has; section 0 of 0, except in the NIT, the SDT and the EIT.
use Rattle.std.specs.Prelude.{ℕ, ◌+◌, ◌-◌, ◌%◌, ◌==◌, ◌&&◌, nat_le, nat_lt, Bool, true, List, [], ◌++◌, map, filter, find, Option, None, Some}
use Rattle.std.specs.Prelude.{length, option_map, slice_get, slice_index_or, sum_by, if◌then◌else◌}
use Rattle.std.specs.List.{count_by, filter_map}
use Rattle.std.specs.Option.{option_to_list}
use Rattle.psi_tables.specs.Encoding.{section_bytes}
use Rattle.psi_tables.specs.declared.section.LongHeader.{LongHeader}
use Rattle.psi_tables.specs.declared.pat.programs.Program.{Program as PatEntry}
use Rattle.psi_tables.specs.ProgramAssociation.{PatView, pat_section}
use Rattle.psi_tables.specs.ProgramMap.{PmtView, StreamView, pmt_section}
use Rattle.dvb_tables.specs.Descriptors.{iso_639_language_descriptor, stream_identifier_descriptor}
use Rattle.dvb_tables.specs.RunningStates.{status_of}
use Rattle.dvb_tables.specs.CodedTimes.{utc_time_bytes, clock_bytes}
use Rattle.dvb_tables.specs.NetworkInformation.{NitView, nit_section}
use Rattle.dvb_tables.specs.Services.{ServiceView}
use Rattle.dvb_tables.specs.ServiceDescription.{SdtView, sdt_section}
use Rattle.dvb_tables.specs.EventEntries.{EventView}
use Rattle.dvb_tables.specs.EventInformation.{EitView, eit_section}
use Rattle.dvb_tables.specs.TimeAndDate.{tdt_section}
use Rattle.dvb_tables.specs.declared.running_status.RunningStatus.{RunningStatus}
use Rattle.dvb_tables.specs.declared.running_status.RunningStatus.TheVariants.{NotRunning}
use Rattle.description_parts.specs.Described.{Described, DescribedNetwork, DescribedProgram, DescribedStream, DescribedEvent, DescribedEntry, DescribedTable, network_stream_view}
use Rattle.description_parts.specs.Tables.{is_scheduled, scheduled_programs, nit_parts, sdt_parts, eit_place, table_kind, is_shared_with, entry_in, entry_length}
use Rattle.description_parts.specs.Tables.{shared_length, listed_length}
use Rattle.description_parts.specs.declared.network_stream.NetworkStream.{NetworkStream}
use Rattle.description_parts.specs.declared.table_kind.TableKind.{TableKind}
use Rattle.description_parts.specs.declared.table_kind.TableKind.TheVariants as kind

-- the header of a section of a table, by its version, its number and the number of the table's last section
abbrev pub part_header : ℕ → ℕ → ℕ → ℕ → LongHeader
part_header extension version number last =
    record { table_id_extension = extension; version_number = version; current_next = true; section_number = number; last_section_number = last }

-- the header of a table that is one section
abbrev pub single_header : ℕ → ℕ → LongHeader
single_header extension version = part_header extension version 0 0

-- PAT: program 0 names the NIT's PID if there is a network, then the programs
abbrev pub network_entries : Described → List PatEntry
network_entries d = map (λ n. record { program_number = 0; pid = 0x10 }) (option_to_list d.network)

abbrev pub pat_entry : DescribedProgram → PatEntry
pat_entry p = record { program_number = p.number; pid = p.pmt_pid }

abbrev pub pat_of : Described → ℕ → PatView
pat_of d version = record { header = single_header d.transport_stream_id version; programs = network_entries d ++ map pat_entry d.programs }

abbrev pub pat_says : Described → PatView
pat_says d = pat_of d d.versions.pat

-- PMT: each stream of the program with its component tag, its language and its own descriptors
abbrev pub tag_bytes : Option ℕ → List ℕ
tag_bytes None = []
tag_bytes (Some tag) = stream_identifier_descriptor tag

abbrev pub language_bytes : Option (List ℕ) → List ℕ
language_bytes None = []
language_bytes (Some language) = iso_639_language_descriptor language 0

abbrev pub stream_descriptors : DescribedStream → List ℕ
stream_descriptors s = tag_bytes s.tag ++ language_bytes s.language ++ s.descriptors

abbrev pub pmt_stream : DescribedStream → StreamView
pmt_stream s = record { stream_type = s.stream_type; elementary_pid = s.pid; descriptors = stream_descriptors s }

abbrev pub is_of_program : ℕ → DescribedStream → Bool
is_of_program number s = s.program == number

abbrev pub pmt_streams : ℕ → List DescribedStream → List StreamView
pmt_streams number streams = map pmt_stream (filter (is_of_program number) streams)

-- each stream of another program that the program shares, after its own
abbrev pub pmt_shared : ℕ → List DescribedStream → List StreamView
pmt_shared number streams = map pmt_stream (filter (is_shared_with number) streams)

-- and each table that the program's PMT names, after the streams
abbrev pub table_stream : ℕ → DescribedEntry → StreamView
table_stream pid e = record { stream_type = e.stream_type; elementary_pid = pid; descriptors = e.descriptors }

abbrev pub pmt_table : ℕ → DescribedTable → Option StreamView
pmt_table number t = option_map (table_stream t.pid) (entry_in number t)

abbrev pub pmt_tables : ℕ → List DescribedTable → List StreamView
pmt_tables number tables = filter_map (pmt_table number) tables

abbrev pub pmt_entries : Described → ℕ → List StreamView
pmt_entries d number = (pmt_streams number d.streams ++ pmt_shared number d.streams) ++ pmt_tables number d.tables

-- their bytes
abbrev pub entries_length : Described → ℕ → ℕ
entries_length d number =
    sum_by (entry_length number) d.streams + sum_by (shared_length number) d.streams + sum_by (listed_length number) d.tables

-- a program that is off air names none of them
abbrev pub entries_of : Described → DescribedProgram → List StreamView
entries_of d p = if p.is_on_air then pmt_entries d p.number else []

abbrev pub pmt_of : Described → DescribedProgram → ℕ → PmtView
pmt_of d p version = record {
  header = single_header p.number version;
  pcr_pid = p.pcr_pid;
  program_info = p.descriptors;
  streams = entries_of d p;
}

abbrev pub pmt_says : Described → DescribedProgram → PmtView
pmt_says d p = pmt_of d p p.pmt_version

-- NIT: the network's descriptors in section 0, and the transport streams of a part with their descriptors
abbrev pub network_loop : DescribedNetwork → ℕ → List ℕ
network_loop n number = if number == 0 then n.network_descriptors else []

abbrev pub nit_of : DescribedNetwork → List NetworkStream → ℕ → ℕ → ℕ → NitView
nit_of n part version number last = record {
  header = part_header n.id version number last;
  network_descriptors = network_loop n number;
  transport_streams = map network_stream_view part;
}

-- the bytes of the section of a number, of these parts, and of the description's under a version
abbrev pub network_bytes : DescribedNetwork → List (List NetworkStream) → ℕ → ℕ → List ℕ
network_bytes n parts version section =
    elim (slice_get parts section) [ None ↦ [] | Some part ↦ section_bytes (nit_section (nit_of n part version section (length parts - 1))) ]

abbrev pub nit_part_bytes : Described → ℕ → ℕ → List ℕ
nit_part_bytes d version section = elim d.network [ None ↦ [] | Some n ↦ network_bytes n (nit_parts d n) version section ]

abbrev pub nit_bytes : Described → ℕ → List ℕ
nit_bytes d section = nit_part_bytes d d.versions.nit section

-- the running_status of a program's service, and of its present event
abbrev pub program_status : DescribedProgram → RunningStatus
program_status p = if p.is_on_air then status_of p.running_status else NotRunning

-- SDT: each program's service; present and following events are carried if the EIT has the program's sections. The programs of a part
-- are the services of one section
abbrev pub service_says : Bool → DescribedProgram → ServiceView
service_says has_eit p = record {
  service_id = p.number;
  eit_schedule = p.eit_schedule;
  eit_present_following = is_scheduled has_eit p;
  running_status = program_status p;
  free_ca_mode = p.free_ca;
  descriptors = p.service_descriptors;
}

abbrev pub sdt_of : Described → List DescribedProgram → ℕ → ℕ → ℕ → SdtView
sdt_of d part version number last = record {
  header = part_header d.transport_stream_id version number last;
  original_network_id = d.original_network_id;
  services = map (service_says d.has_eit) part;
}

abbrev pub sdt_says : Described → List DescribedProgram → ℕ → ℕ → SdtView
sdt_says d part number last = sdt_of d part d.versions.sdt number last

-- the bytes of the section of a number under a version
abbrev pub sdt_part_bytes : Described → ℕ → ℕ → List ℕ
sdt_part_bytes d version section =
    elim (slice_get (sdt_parts d) section) [ None ↦ [] | Some part ↦ section_bytes (sdt_section (sdt_of d part version section (length (sdt_parts d) - 1))) ]

abbrev pub sdt_bytes : Described → ℕ → List ℕ
sdt_bytes d section = sdt_part_bytes d d.versions.sdt section

-- EIT: the event that is on at a moment, and the first that begins later
abbrev pub is_present_event : ℕ → DescribedEvent → Bool
is_present_event moment e = nat_le e.start moment && nat_lt moment (e.start + e.duration)

abbrev pub is_following_event : ℕ → DescribedEvent → Bool
is_following_event moment e = nat_lt moment e.start

-- an entry of the EIT, of a program with this free_CA_mode
abbrev pub event_says : Bool → RunningStatus → DescribedEvent → EventView
event_says free_ca status e = record {
  event_id = e.id;
  start_time = utc_time_bytes e.start;
  duration = clock_bytes e.duration;
  running_status = status;
  free_ca_mode = free_ca;
  descriptors = e.descriptors;
}

-- the program's number, and how many events have begun and how many have ended, modulo 32: it changes with what the
-- sections say
abbrev pub has_begun : ℕ → DescribedEvent → Bool
has_begun moment e = nat_le e.start moment

abbrev pub has_ended : ℕ → DescribedEvent → Bool
has_ended moment e = nat_le (e.start + e.duration) moment

abbrev pub counted_events : ℕ → DescribedProgram → ℕ
counted_events moment p = count_by (has_begun moment) p.events + count_by (has_ended moment) p.events

abbrev pub eit_version : ℕ → DescribedProgram → ℕ
eit_version moment p = (p.eit_count + counted_events moment p) % 32

-- section 0 of 1 has the present event, with the program's status; section 1 of 1 the following one, not running
abbrev pub section_events : ℕ → DescribedProgram → ℕ → List EventView
section_events moment p number =
    if number == 0 then map (event_says p.free_ca (program_status p)) (option_to_list (find (is_present_event moment) p.events))
    else map (event_says p.free_ca NotRunning) (option_to_list (find (is_following_event moment) p.events))

abbrev pub eit_of : Described → ℕ → DescribedProgram → ℕ → ℕ → EitView
eit_of d moment p version number = record {
  header = part_header p.number version number 1;
  transport_stream_id = d.transport_stream_id;
  original_network_id = d.original_network_id;
  segment_last_section_number = 1;
  last_table_id = 0x4E;
  events = section_events moment p number;
}

abbrev pub eit_says : Described → ℕ → DescribedProgram → ℕ → EitView
eit_says d moment p number = eit_of d moment p (eit_version moment p) number

abbrev pub eit_bytes : Described → ℕ → DescribedProgram → ℕ → List ℕ
eit_bytes d moment p number = section_bytes (eit_section (eit_says d moment p number))

-- TDT: the moment
abbrev pub tdt_bytes : ℕ → List ℕ
tdt_bytes moment = section_bytes (tdt_section (record { utc_time = utc_time_bytes moment }))

-- the bytes of a section of a table at a moment; of the EIT two sections for each program in it
abbrev pub kind_bytes : Described → TableKind → ℕ → ℕ → List ℕ
kind_bytes d kind.Pat section moment = section_bytes (pat_section (pat_says d))
kind_bytes d (kind.Pmt p) section moment = elim (slice_get d.programs p) [ None ↦ [] | Some program ↦ section_bytes (pmt_section (pmt_says d program)) ]
kind_bytes d kind.Nit section moment = nit_bytes d section
kind_bytes d kind.Sdt section moment = if d.has_sdt then sdt_bytes d section else []
kind_bytes d kind.Eit section moment =
    elim (slice_get (scheduled_programs d) (eit_place d section).0) [ None ↦ [] | Some program ↦ eit_bytes d moment program (eit_place d section).1 ]
kind_bytes d kind.Tdt section moment = tdt_bytes moment
kind_bytes d (kind.Private i) section moment = elim (slice_get d.tables i) [ None ↦ [] | Some private ↦ slice_index_or private.sections section [] ]

-- the bytes of a section of the table of that number at a moment, in seconds since 1970
abbrev pub table_bytes : Described → ℕ → ℕ → ℕ → List ℕ
table_bytes d t section moment = elim (table_kind d t) [ None ↦ [] | Some k ↦ kind_bytes d k section moment ]
