-- What a document describes: each key's value, with the least value of its range if the key is refused. (The
-- document is refused then, and no description has that value.)
use Rattle.std.specs.Prelude.{ℕ, nat_le, true, false, List, [], ◌++◌, length, Option, None, Some, map, filter, unwrap_or, option_map, codes, if◌then◌else◌}
use Rattle.std.specs.List.{filter_map}
use Rattle.toml.specs.Data.{Data}
use Rattle.dvb_tables.specs.Descriptors.{network_name_descriptor, service_descriptor, short_event_descriptor}
use Rattle.description_parts.specs.Channels.{described_channels}
use Rattle.description_parts.specs.declared.network_stream.NetworkStream.{NetworkStream}
use Rattle.description_parts.specs.declared.rooms.Rooms.{Rooms}
use Rattle.description_parts.specs.declared.versions.Versions.{Versions}
use Rattle.description_parts.specs.Described.{Described, DescribedNetwork, DescribedProgram, DescribedStream, DescribedEvent, DescribedEntry, DescribedTable}
use Rattle.description_values.specs.Values.{elements, section_in}
use Rattle.description_keys.specs.TopKeys as top
use Rattle.description_keys.specs.VersionKeys.{version_at}
use Rattle.description_keys.specs.declared.version_keys.NamedTable.TheVariants as table
use Rattle.description_keys.specs.NetworkKeys.{has_name, network_id, network_name, network_descriptors, other_descriptors, other_network_id, other_stream_id, own_descriptors}
use Rattle.description_keys.specs.ProgramKeys.{program_number, program_pmt_pid, clock_pid_in, program_pcr_limit, program_descriptors, program_eit_schedule, program_free_ca}
use Rattle.description_keys.specs.ProgramKeys.{has_service_loop, program_service_type, program_service_descriptors, program_running_status, program_provider, program_name}
use Rattle.description_keys.specs.ProgramKeys.{program_pmt_packets, program_on_air}
use Rattle.description_keys.specs.StreamKeys.{owner_number, is_owned_by, stream_sharers, stream_pid, id_or_private, stream_type, stream_interval, stream_size}
use Rattle.description_keys.specs.StreamKeys.{stream_lead, stream_pts_limit, stream_rx, stream_main, stream_tag, stream_language, stream_descriptors}
use Rattle.description_keys.specs.StreamKeys.{stream_allowance, stream_multiplexing, stream_framing}
use Rattle.description_keys.specs.EventKeys.{event_id, event_start, event_duration, event_language, event_name, event_text, event_descriptors, has_loop}
use Rattle.description_keys.specs.TableKeys.{private_pid, private_limit, is_listed, entry_type, entry_descriptors}
use Rattle.description_keys.specs.Refusals.{network_of, other_streams_of, programs_of, streams_of, events_of, tables_of}

abbrev pub described_other : Data → NetworkStream
described_other stream = record {
  transport_stream_id = unwrap_or (other_stream_id stream) 0;
  original_network_id = unwrap_or (other_network_id stream) 0;
  descriptors = unwrap_or (other_descriptors stream) [];
}

-- at most 64: a document with more is refused
abbrev pub described_others : List Data → List NetworkStream
described_others streams = if nat_le (length streams) 64 then map described_other streams else []

-- the descriptors of the network: its name, if there is one, and the declared ones
abbrev pub name_descriptors : Data → List ℕ
name_descriptors network = if has_name network then network_name_descriptor (unwrap_or (network_name network) []) else []

-- the declared descriptors of the network's transport stream, and the channels of its services
abbrev pub described_network : Data → Data → DescribedNetwork
described_network document network = record {
  id = unwrap_or (network_id network) 0;
  network_descriptors = name_descriptors network ++ unwrap_or (own_descriptors network) [];
  descriptors = unwrap_or (network_descriptors network) [] ++ described_channels (programs_of document);
  streams = described_others (other_streams_of (Some network));
}

-- three letters in place of a language that is refused
abbrev pub no_language : List ℕ
no_language = codes "und"

-- the loop of an event: the declared one, or the descriptor of its name and text (EN 300 468, 6.2.37)
abbrev pub short_event : Data → List ℕ
short_event event =
    short_event_descriptor (unwrap_or (event_language event) no_language) (unwrap_or (event_name event) []) (unwrap_or (event_text event) [])

abbrev pub event_loop : Data → List ℕ
event_loop event = if has_loop event then unwrap_or (event_descriptors event) [] else short_event event

abbrev pub described_event : Data → DescribedEvent
described_event event = record {
  id = unwrap_or (event_id event) 0;
  start = unwrap_or (event_start event) 0;
  duration = unwrap_or (event_duration event) 1;
  descriptors = event_loop event;
}

abbrev pub described_events : ℕ → List Data → List DescribedEvent
described_events number events = map described_event (filter (is_owned_by number) events)

abbrev pub described_number : Data → ℕ
described_number program = unwrap_or (program_number program) 1

-- the loop of a service: the declared one, or the descriptor of its type, provider and name (EN 300 468, 6.2.33)
abbrev pub named_service : Data → List ℕ
named_service program =
    service_descriptor (unwrap_or (program_service_type program) 0) (unwrap_or (program_provider program) []) (unwrap_or (program_name program) [])

abbrev pub service_loop : Data → List ℕ
service_loop program = if has_service_loop program then unwrap_or (program_service_descriptors program) [] else named_service program

abbrev pub described_program : Data → Data → DescribedProgram
described_program document program = record {
  number = described_number program;
  pmt_pid = unwrap_or (program_pmt_pid program) 32;
  pcr_pid = clock_pid_in document program;
  has_clock = top.has_own_clock program;
  pcr_limit = unwrap_or (program_pcr_limit program) 1;
  pmt_packets = unwrap_or (program_pmt_packets program) 1;
  is_on_air = unwrap_or (program_on_air program) true;
  pmt_version = version_at table.Pmt (described_number program) document;
  eit_count = version_at table.Eit (described_number program) document;
  descriptors = unwrap_or (program_descriptors program) [];
  service_descriptors = service_loop program;
  running_status = unwrap_or (program_running_status program) 0;
  free_ca = unwrap_or (program_free_ca program) false;
  eit_schedule = unwrap_or (program_eit_schedule program) false;
  events = described_events (described_number program) (events_of document);
}

abbrev pub described_stream : Data → DescribedStream
described_stream stream = record {
  program = unwrap_or (owner_number stream) 1;
  pid = unwrap_or (stream_pid stream) 32;
  stream_id = id_or_private stream;
  stream_type = unwrap_or (stream_type stream) 0;
  interval = unwrap_or (stream_interval stream) 1;
  size = unwrap_or (stream_size stream) 1;
  lead = unwrap_or (stream_lead stream) 1;
  pts_limit = unwrap_or (stream_pts_limit stream) 1;
  rx = unwrap_or (stream_rx stream) 64000;
  main = unwrap_or (stream_main stream) 1;
  tag = unwrap_or (stream_tag stream) None;
  language = unwrap_or (stream_language stream) None;
  descriptors = unwrap_or (stream_descriptors stream) [];
  allowance = stream_allowance stream;
  shared_with = stream_sharers stream;
  multiplexing = stream_multiplexing stream;
  framing = stream_framing stream;
}

abbrev pub described_sections : Data → List (List ℕ)
described_sections part = filter_map section_in (elements (codes "sections") part)

abbrev pub described_entry : Data → DescribedEntry
described_entry part = record {
  program = unwrap_or (owner_number part) 1;
  stream_type = unwrap_or (entry_type part) 1;
  descriptors = unwrap_or (entry_descriptors part) [];
}

abbrev pub entry_if_listed : Data → Option DescribedEntry
entry_if_listed part = if is_listed part then Some (described_entry part) else None

abbrev pub described_table : Data → DescribedTable
described_table part = record {
  pid = unwrap_or (private_pid part) 32;
  limit = unwrap_or (private_limit part) 1;
  sections = described_sections part;
  entry = entry_if_listed part;
}

-- the packets of sections
abbrev pub described_rooms : Data → Rooms
described_rooms document = record {
  pat = unwrap_or (top.pat_packets document) 1;
  sdt = unwrap_or (top.sdt_packets document) 1;
  nit = unwrap_or (top.nit_packets document) 1;
  eit = unwrap_or (top.eit_packets document) 2;
}

-- the versions that no program has: 0 without a text
abbrev pub described_versions : Data → Versions
described_versions document = record { pat = version_at table.Pat 0 document; sdt = version_at table.Sdt 0 document; nit = version_at table.Nit 0 document }

abbrev pub described : Data → Described
described document = record {
  rate = unwrap_or (top.rate document) 100000;
  start = unwrap_or (top.start document) 0;
  base0 = unwrap_or (top.base0 document) 0;
  transport_stream_id = unwrap_or (top.transport_stream_id document) 0;
  original_network_id = unwrap_or (top.original_network_id document) 0;
  has_sdt = unwrap_or (top.has_sdt document) false;
  has_tdt = unwrap_or (top.has_tdt document) false;
  is_transponder = top.is_transponder document;
  clock_pid = top.clock_pid_of document;
  has_eit = top.has_eit document;
  rooms = described_rooms document;
  versions = described_versions document;
  network = option_map (described_network document) (network_of document);
  programs = map (described_program document) (programs_of document);
  streams = map described_stream (streams_of document);
  tables = map described_table (tables_of document);
}
