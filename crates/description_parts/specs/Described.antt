-- A service description as numbers and byte lists, which the contracts of this crate and of the crates above it use. The loops of
-- descriptors are the bytes that sections have, moments are seconds since 1970 (UTC).
use Rattle.std.specs.Prelude.{ℕ, Bool, List, Option}
use Rattle.dvb_tables.specs.TransportStreams.{TransportStreamView}
use Rattle.description_parts.specs.declared.map_entry.MapEntry.{MapEntry}
use Rattle.description_parts.specs.declared.network.Network.{Network}
use Rattle.description_parts.specs.declared.network_stream.NetworkStream.{NetworkStream}
use Rattle.description_parts.specs.declared.rooms.Rooms.{Rooms}
use Rattle.description_parts.specs.declared.stream.StreamDescription.{StreamDescription}
use Rattle.description_parts.specs.declared.versions.Versions.{Versions}

-- the network that the stream belongs to (EN 300 468, 5.2.1): its own descriptors, those of this transport stream, and its other
-- transport streams
abbrev pub DescribedNetwork : Type 0
DescribedNetwork = Network

-- a transport stream of the network, as a section of the NIT has it
abbrev pub network_stream_view : NetworkStream → TransportStreamView
network_stream_view s = record {
  transport_stream_id = s.transport_stream_id;
  original_network_id = s.original_network_id;
  descriptors = s.descriptors;
}

-- one event of a program's schedule (EN 300 468, 5.2.4): start is a moment, duration counts seconds, descriptors is its loop
pub record DescribedEvent : Type 0 where
  pub id : ℕ
  pub start : ℕ
  pub duration : ℕ
  pub descriptors : List ℕ

-- one program (ISO/IEC 13818-1, 2.4.4.8) and its service (EN 300 468, 5.2.3), with its events in order of start;
-- pcr_pid is the PID of its PCRs, has_clock whether these are its own or the ones that programs share, pcr_limit the greatest time
-- between two of them, in ms; pmt_packets is the least number of packets of its PMT's section, is_on_air whether its streams are in its PMT,
-- pmt_version the version_number there, and eit_count the number from which the version_number of its sections of the EIT is counted;
-- service_descriptors is the loop of its service, running_status, free_ca and eit_schedule are the service's status and flags
pub record DescribedProgram : Type 0 where
  pub number : ℕ
  pub pmt_pid : ℕ
  pub pcr_pid : ℕ
  pub has_clock : Bool
  pub pcr_limit : ℕ
  pub pmt_packets : ℕ
  pub is_on_air : Bool
  pub pmt_version : ℕ
  pub eit_count : ℕ
  pub descriptors : List ℕ
  pub service_descriptors : List ℕ
  pub running_status : ℕ
  pub free_ca : Bool
  pub eit_schedule : Bool
  pub events : List DescribedEvent

-- one elementary stream of the program of that number. Its units come at least `interval` apart and `lead` before their
-- decoding time at the latest (units of 90 kHz), of at most `size` bytes, and have at most the packets that `allowance`
-- lets units in a row have. Its transport buffer leaks `rx` bits a second into a main buffer of `main` bytes; where it has
-- a multiplexing buffer the leak is into that one, whose own leak is into an elementary stream buffer of `main` bytes. Where it
-- has a framing its units are PES packets of several access units. The PMTs of the programs of `shared_with` name it too
abbrev pub DescribedStream : Type 0
DescribedStream = StreamDescription

-- what names a table in the PMT of the program of that number: its stream_type there and its descriptors
abbrev pub DescribedEntry : Type 0
DescribedEntry = MapEntry

-- ready-made sections on a PID of their own; limit is the greatest time between two starts of a section, in ms. A PMT
-- names the PID if there is an entry
pub record DescribedTable : Type 0 where
  pub pid : ℕ
  pub limit : ℕ
  pub sections : List (List ℕ)
  pub entry : Option DescribedEntry

-- the whole: rate in bits a second, start the moment of the first slot, base0 the system clock's first value (90 kHz), is_transponder
-- whether it has the limits of a whole transponder, clock_pid the PID of the PCRs that programs share, has_eit whether each program has two
-- sections in the EIT, also without an event, rooms the packets of sections, versions the version_number of PAT, NIT and SDT
pub record Described : Type 0 where
  pub rate : ℕ
  pub start : ℕ
  pub base0 : ℕ
  pub transport_stream_id : ℕ
  pub original_network_id : ℕ
  pub has_sdt : Bool
  pub has_tdt : Bool
  pub is_transponder : Bool
  pub clock_pid : Option ℕ
  pub has_eit : Bool
  pub rooms : Rooms
  pub versions : Versions
  pub network : Option DescribedNetwork
  pub programs : List DescribedProgram
  pub streams : List DescribedStream
  pub tables : List DescribedTable
