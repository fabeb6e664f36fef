-- The ranges of every description that is read: of its numbers, its texts and its tables.
use Rattle.std.specs.Prelude.{◌≡◌, ℕ, ◌*◌, ◌^◌, ◌<◌, ◌≤◌, ◌⊎◌, true, false, List, ◌++◌, length, map, filter, sum_by, Some, All, Contains, nat_eq}
use Rattle.std.specs.Prelude.{IsTrue}
use Rattle.std.specs.List.{IsDistinct}
use Rattle.std.specs.Option.{option_to_list}
use Rattle.unit_timing.specs.declared.allowance.Allowance.{Allowance}
use Rattle.unit_timing.specs.declared.allowance.Allowance.TheVariants.{Groups, Pace}
use Rattle.unit_timing.specs.declared.framing.FrameDeclaration.{FrameDeclaration}
use Rattle.unit_timing.specs.declared.framing.LastBytes.{LastBytes}
use Rattle.unit_timing.specs.declared.framing.LastBytes.TheVariants.{Each, Sums}
use Rattle.unit_timing.specs.declared.multiplexing_buffer.MultiplexingBuffer.{MultiplexingBuffer}
use Rattle.description_parts.specs.Described.{Described, DescribedNetwork, DescribedProgram, DescribedStream, DescribedEvent, DescribedEntry, DescribedTable}
use Rattle.description_values.specs.Values.{is_one_section}
use Rattle.description_parts.specs.Tables.{pmt_length, nit_lengths, nit_parts, kind_lengths, greatest_unit_packets}
use Rattle.description_parts.specs.declared.network_stream.NetworkStream.{NetworkStream}
use Rattle.description_parts.specs.declared.rooms.Rooms.{Rooms}
use Rattle.description_parts.specs.declared.table_kind.TableKind.TheVariants.{Sdt}
use Rattle.description_parts.specs.declared.versions.Versions.{Versions}

-- a PID that a description may name (ISO/IEC 13818-1, table 2-3, less the PIDs of EN 300 468)
pub record IsPid (pid : ℕ) : Type 0 where
  pub low : 32 ≤ pid
  pub high : pid ≤ 8190

-- a list of bytes of at most that length
pub record IsBytes (most : ℕ) (bytes : List ℕ) : Type 0 where
  pub fits : length bytes ≤ most
  pub octets : All (λ b. b < 256) bytes

-- a language of three letters (ISO 639-2)
pub record IsLanguage (code : List ℕ) : Type 0 where
  pub letters : length code ≡ 3
  pub octets : All (λ b. b < 128) code

-- the last moment that a description can name, 2037-12-31T23:59:59
abbrev pub last_moment : ℕ
last_moment = 2145916799

pub record IsNetworkStream (s : NetworkStream) : Type 0 where
  pub transport_stream_id : s.transport_stream_id ≤ 65535
  pub original_network_id : s.original_network_id ≤ 65535
  pub descriptors : IsBytes 700 s.descriptors

pub record IsNetwork (n : DescribedNetwork) : Type 0 where
  pub id : n.id ≤ 65535
  pub network_descriptors : IsBytes 902 n.network_descriptors
  pub descriptors : IsBytes 966 n.descriptors
  pub most_streams : length n.streams ≤ 64
  pub streams : All IsNetworkStream n.streams

pub record IsEvent (e : DescribedEvent) : Type 0 where
  pub id : e.id ≤ 65535
  pub start : e.start ≤ last_moment
  pub some_time : 1 ≤ e.duration
  pub most_time : e.duration ≤ 359999
  pub descriptors : IsBytes 4000 e.descriptors

pub record IsProgram (p : DescribedProgram) : Type 0 where
  pub some_number : 1 ≤ p.number
  pub most_number : p.number ≤ 65535
  pub pmt_pid : IsPid p.pmt_pid
  pub pcr_pid : IsPid p.pcr_pid
  pub some_limit : 1 ≤ p.pcr_limit
  pub most_limit : p.pcr_limit ≤ 100
  pub some_packets : 1 ≤ p.pmt_packets
  pub most_packets : p.pmt_packets ≤ 6
  pub pmt_version : p.pmt_version < 32
  pub eit_count : p.eit_count < 32
  pub descriptors : IsBytes 700 p.descriptors
  pub service_descriptors : IsBytes 1004 p.service_descriptors
  pub running_status : p.running_status < 8
  pub events : All IsEvent p.events

-- the packets of a section of the PAT, the SDT, the NIT and the EIT
pub record AreRooms (r : Rooms) : Type 0 where
  pub some_pat : 1 ≤ r.pat
  pub most_pat : r.pat ≤ 6
  pub some_sdt : 1 ≤ r.sdt
  pub most_sdt : r.sdt ≤ 6
  pub some_nit : 1 ≤ r.nit
  pub most_nit : r.nit ≤ 6
  pub some_eit : 2 ≤ r.eit
  pub most_eit : r.eit ≤ 23

-- version_number, five bits (ISO/IEC 13818-1, 2.4.4.5)
pub record AreVersions (v : Versions) : Type 0 where
  pub pat : v.pat < 32
  pub sdt : v.sdt < 32
  pub nit : v.nit < 32

-- the stream_ids that a stream may have (ISO/IEC 13818-1, table 2-22): private_stream_1, audio and video
abbrev pub IsStreamId : ℕ → Type 0
IsStreamId id = (id ≡ 189) ⊎ ((192 ≤ id) × (id ≤ 239))

-- what a stream may declare about its packets, if its greatest unit has n of them: a limit on `units` units in a row, or a limit by
-- time, with a pace in bits a second of whole packets
pub record IsGroups (n units packets : ℕ) : Type 0 where
  pub some_units : 1 ≤ units
  pub most_units : units ≤ 64
  pub some_packets : n ≤ packets
  pub most_packets : packets ≤ units * n

pub record IsPace (n burst pace : ℕ) : Type 0 where
  pub some_burst : n ≤ burst
  pub most_burst : burst ≤ 100000
  pub some_pace : 1 ≤ pace
  pub most_pace : pace ≤ 100000000

abbrev pub IsAllowance : ℕ → Allowance → Type 0
IsAllowance n (Groups units packets) = IsGroups n units packets
IsAllowance n (Pace burst pace) = IsPace n burst pace

-- a multiplexing buffer behind a transport buffer that is emptied at the rate rx: its leak is not faster
pub record IsMultiplexingBuffer (rx : ℕ) (b : MultiplexingBuffer) : Type 0 where
  pub least_rbx : 64000 ≤ b.rbx
  pub most_rbx : b.rbx ≤ rx
  pub some_size : 1 ≤ b.size
  pub most_size : b.size ≤ 10000000

-- the bytes of the last access units of units of at most `size` bytes
abbrev pub AreLastBytes : ℕ → LastBytes → Type 0
AreLastBytes size (Each bytes) = (1 ≤ bytes) × (bytes ≤ size)
AreLastBytes size (Sums sums) = All (λ bytes. bytes ≤ size) sums

-- the access units of such units
pub record IsFraming (size : ℕ) (f : FrameDeclaration) : Type 0 where
  pub some_frames : 1 ≤ f.frames
  pub most_frames : f.frames ≤ 64
  pub most_frame : f.frame ≤ 90000
  pub most_rest : f.rest ≤ 90000
  pub left : AreLastBytes size f.left

pub record IsStream (s : DescribedStream) : Type 0 where
  pub pid : IsPid s.pid
  pub stream_id : IsStreamId s.stream_id
  pub stream_type : s.stream_type ≤ 255
  pub some_interval : 1 ≤ s.interval
  pub most_interval : s.interval ≤ 90000
  pub some_size : 1 ≤ s.size
  pub most_size : s.size ≤ 4000000
  pub bounded_size : s.stream_id < 224 → s.size ≤ 65522
  pub some_lead : 1 ≤ s.lead
  pub most_lead : s.lead ≤ 90000
  pub some_pts_limit : 1 ≤ s.pts_limit
  pub most_pts_limit : s.pts_limit ≤ 5400000
  pub least_rx : 64000 ≤ s.rx
  pub most_rx : s.rx ≤ 200000000
  pub some_main : 1 ≤ s.main
  pub most_main : s.main ≤ 10000000
  pub tag : All (λ t. t ≤ 255) (option_to_list s.tag)
  pub language : All IsLanguage (option_to_list s.language)
  pub descriptors : IsBytes 700 s.descriptors
  pub allowance : IsAllowance (greatest_unit_packets s) s.allowance
  pub few_sharers : length s.shared_with ≤ 63
  pub multiplexing : All (IsMultiplexingBuffer s.rx) (option_to_list s.multiplexing)
  pub framing : All (IsFraming s.size) (option_to_list s.framing)

pub record IsEntry (e : DescribedEntry) : Type 0 where
  pub some_type : 1 ≤ e.stream_type
  pub most_type : e.stream_type ≤ 255
  pub descriptors : IsBytes 700 e.descriptors

pub record IsTable (t : DescribedTable) : Type 0 where
  pub pid : IsPid t.pid
  pub some_limit : 1 ≤ t.limit
  pub most_limit : t.limit ≤ 30000
  pub some_sections : 1 ≤ length t.sections
  pub most_sections : length t.sections ≤ 8
  pub sections : All (IsBytes 4096) t.sections
  pub no_empty_section : All (λ s. 3 ≤ length s) t.sections
  pub whole_sections : All (λ s. is_one_section s ≡ true) t.sections
  pub entry : All IsEntry (option_to_list t.entry)

-- every PID that the description names: a shared clock's once
abbrev pub named_pids : Described → List ℕ
named_pids d = map (λ p. p.pmt_pid) d.programs ++ map (λ p. p.pcr_pid) (filter (λ p. p.has_clock) d.programs) ++ option_to_list d.clock_pid
    ++ map (λ s. s.pid) d.streams ++ map (λ t. t.pid) d.tables

-- the numbers of its programs
abbrev pub program_numbers : Described → List ℕ
program_numbers d = map (λ p. p.number) d.programs

-- a section of at most this many bytes has a section_length of at most 1,021 (ISO/IEC 13818-1, 2.4.4.5, 2.4.4.9)
abbrev pub longest_section : ℕ
longest_section = 1024

-- the programs that share a stream are declared ones, each once, and not its own
pub record IsSharing (d : Described) (s : DescribedStream) : Type 0 where
  pub declared : All (Contains (program_numbers d)) s.shared_with
  pub others : All (λ n. n ≡ s.program → ⊥) s.shared_with
  pub once : IsDistinct nat_eq s.shared_with

-- the PMTs that name a table belong to declared programs
abbrev pub IsListed : Described → DescribedTable → Type 0
IsListed d t = All (λ e. Contains (program_numbers d) e.program) (option_to_list t.entry)

-- how many parts there are
pub record HasCounts (d : Described) : Type 0 where
  pub some_programs : 1 ≤ length d.programs
  pub most_programs : length d.programs ≤ 64
  pub most_streams : length d.streams ≤ 254
  pub most_tables : length d.tables ≤ 64
  pub most_sections : All (λ t. length t.sections ≤ 8) d.tables

-- all of it: numbers, counts, lengths, and no PID and no program number twice
pub record IsInRange (d : Described) : Type 0 where
  pub least_rate : 100000 ≤ d.rate
  pub most_rate : d.rate ≤ 100000000
  pub start : d.start ≤ last_moment
  pub base0 : d.base0 < 2 ^ 33
  pub transport_stream_id : d.transport_stream_id ≤ 65535
  pub original_network_id : d.original_network_id ≤ 65535
  pub rooms : AreRooms d.rooms
  pub versions : AreVersions d.versions
  pub network : All IsNetwork (option_to_list d.network)
  pub some_programs : 1 ≤ length d.programs
  pub most_programs : length d.programs ≤ 64
  pub programs : All IsProgram d.programs
  pub clocks : All (λ p. p.has_clock ≡ false → d.clock_pid ≡ Some p.pcr_pid) d.programs
  pub most_events : sum_by (λ p. length p.events) d.programs ≤ 1024
  pub most_streams : length d.streams ≤ 254
  pub streams : All IsStream d.streams
  pub declared : All (λ s. Contains (program_numbers d) s.program) d.streams
  pub sharing : All (IsSharing d) d.streams
  pub most_tables : length d.tables ≤ 64
  pub tables : All IsTable d.tables
  pub listed : All (IsListed d) d.tables
  pub distinct_pids : IsDistinct nat_eq (named_pids d)
  pub distinct_numbers : IsDistinct nat_eq (program_numbers d)
  pub pmt_lengths : All (λ p. pmt_length d p ≤ longest_section) d.programs
  pub nit_lengths : All (λ n. All (λ l. l ≤ longest_section) (nit_lengths n 0 (nit_parts d n))) (option_to_list d.network)
  pub sdt_lengths : IsTrue d.has_sdt → All (λ l. l ≤ longest_section) (kind_lengths d Sdt)
