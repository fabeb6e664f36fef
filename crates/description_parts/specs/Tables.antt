-- The tables of a description: their numbers, PIDs, limits, sections and lengths (EN 300 468, 5.1.3; TR 101 290, 5.2).
use Rattle.std.specs.Prelude.{ℕ, ◌+◌, ◌*◌, ◌/◌, ◌%◌, ◌-◌, max, min, not, ◌&&◌, ◌||◌, Bool, false, List, [], ◌∷◌, ◌++◌, Option, None, Some, is_some, length, map, filter, sum_by, nat_le}
use Rattle.std.specs.Prelude.{slice_index_or, slice_get, option_and_then, position, unwrap_or, ◌==◌, if◌then◌else◌}
use Rattle.std.specs.List.{list_any}
use Rattle.std.specs.Option.{option_to_list}
use Rattle.description_parts.specs.Described.{Described, DescribedNetwork, DescribedProgram, DescribedStream, DescribedEvent, DescribedEntry, DescribedTable}
use Rattle.description_parts.specs.Cuts.{cut}
use Rattle.description_parts.specs.declared.network_stream.NetworkStream.{NetworkStream}
use Rattle.description_parts.specs.declared.table_kind.TableKind.{TableKind}
use Rattle.description_parts.specs.declared.table_kind.TableKind.TheVariants.{Pat, Pmt, Nit, Sdt, Eit, Tdt, Private}

-- the numbers from first on, as many as the list has elements
abbrev pub numbers_from : {X : Type 0} → ℕ → List X → List ℕ
numbers_from first [] = []
numbers_from first (x ∷ xs) = first ∷ numbers_from (first + 1) xs

-- the place of the first program without PCRs of its own
abbrev pub shares_clock : DescribedProgram → Bool
shares_clock p = not p.has_clock

abbrev pub clock_holder : List DescribedProgram → Option ℕ
clock_holder ps = position shares_clock ps

-- the number of the program whose slots carry the PCRs of the program of a number: its own, or, if programs share a clock, the first of these
abbrev pub clock_of : Described → ℕ → ℕ
clock_of d i = elim (slice_get d.programs i) [ None ↦ i | Some p ↦ if p.has_clock then i else unwrap_or (clock_holder d.programs) i ]

-- the slots of a program carry PCRs: its own, or those of the programs that share a clock
abbrev pub has_references : Described → ℕ → Bool
has_references d i = clock_of d i == i

-- the programs in the EIT: all, or those that have an event
abbrev pub has_event : DescribedProgram → Bool
has_event p = nat_le 1 (length p.events)

abbrev pub is_scheduled : Bool → DescribedProgram → Bool
is_scheduled all p = all || has_event p

abbrev pub scheduled_programs : Described → List DescribedProgram
scheduled_programs d = filter (is_scheduled d.has_eit) d.programs

-- the description has an EIT
abbrev pub has_events_table : Described → Bool
has_events_table d = d.has_eit || list_any has_event d.programs

-- the element alone if the test holds, otherwise nothing
abbrev pub only_if : {X : Type 0} → Bool → X → List X
only_if b x = if b then x ∷ [] else []

-- which of NIT, SDT, EIT and TDT the description has
abbrev pub service_tables : Described → List TableKind
service_tables d = only_if (is_some d.network) Nit ++ only_if d.has_sdt Sdt ++ only_if (has_events_table d) Eit ++ only_if d.has_tdt Tdt

-- the tables in the order of their numbers: PAT, the PMTs in the order of the programs, NIT, SDT, EIT and TDT as far as the
-- description has them, the private tables
abbrev pub table_kinds : Described → List TableKind
table_kinds d = (Pat ∷ map Pmt (numbers_from 0 d.programs)) ++ (service_tables d ++ map Private (numbers_from 0 d.tables))

-- how many tables there are
abbrev pub table_count : Described → ℕ
table_count d = length (table_kinds d)

-- the kind of a table
abbrev pub table_kind : Described → ℕ → Option TableKind
table_kind d t = slice_get (table_kinds d) t

-- the PID of a table (EN 300 468, 5.1.3)
abbrev pub kind_pid : Described → TableKind → ℕ
kind_pid d Pat = 0
kind_pid d (Pmt p) = elim (slice_get d.programs p) [ None ↦ 0 | Some program ↦ program.pmt_pid ]
kind_pid d Nit = 0x10
kind_pid d Sdt = 0x11
kind_pid d Eit = 0x12
kind_pid d Tdt = 0x14
kind_pid d (Private i) = elim (slice_get d.tables i) [ None ↦ 0 | Some private ↦ private.pid ]

-- the greatest time between two starts of a section of a table, in ms (TR 101 290, 5.2.1 and 5.2.3)
abbrev pub kind_limit : Described → TableKind → ℕ
kind_limit d Pat = 500
kind_limit d (Pmt p) = 500
kind_limit d Nit = 10000
kind_limit d Sdt = 2000
kind_limit d Eit = 2000
kind_limit d Tdt = 30000
kind_limit d (Private i) = elim (slice_get d.tables i) [ None ↦ 0 | Some private ↦ private.limit ]

-- the greatest length of a section whose text takes l bytes, if the section has room for a number of packets, with the pointer_field before it,
-- and has at most `most` bytes: one packet reserves nothing
abbrev pub room_length : ℕ → ℕ → ℕ → ℕ
room_length most packets l = if packets == 1 then l else max l (min most (184 * packets - 1))

-- the most bytes of a section of an EIT (EN 300 468, 5.2.4), and of any other table but a private one (5.1.1)
abbrev pub most_eit_bytes : ℕ
most_eit_bytes = 4096

abbrev pub most_bytes : ℕ
most_bytes = 1024

-- the bytes of a long section around its body: the header's 8 and the check word's 4
abbrev pub section_overhead : ℕ
section_overhead = 12

-- the bytes of a stream's descriptors in a PMT: stream_identifier, ISO_639_language, the declared ones
abbrev pub es_info_length : DescribedStream → ℕ
es_info_length s = (if is_some s.tag then 3 else 0) + (if is_some s.language then 6 else 0) + length s.descriptors

abbrev pub pat_length : Described → ℕ
pat_length d = section_overhead + 4 * (length (option_to_list d.network) + length d.programs)

-- the bytes of a stream in the PMT of the program of a number: none if it is another's
abbrev pub entry_length : ℕ → DescribedStream → ℕ
entry_length number s = if s.program == number then 5 + es_info_length s else 0

-- a program other than its own shares the stream, and its bytes in that program's PMT
abbrev pub is_shared_with : ℕ → DescribedStream → Bool
is_shared_with number s = list_any (λ n. n == number) s.shared_with

abbrev pub shared_length : ℕ → DescribedStream → ℕ
shared_length number s = if is_shared_with number s then 5 + es_info_length s else 0

-- a program on air has the stream of that number, as its own or shared
abbrev pub has_on_air : DescribedStream → DescribedProgram → Bool
has_on_air s p = p.is_on_air && (p.number == s.program || is_shared_with p.number s)

abbrev pub stream_on_air : Described → ℕ → Bool
stream_on_air d k = elim (slice_get d.streams k) [ None ↦ false | Some s ↦ list_any (has_on_air s) d.programs ]

-- the entry of a table in the PMT of the program of a number
abbrev pub entry_if_of : ℕ → DescribedEntry → Option DescribedEntry
entry_if_of number e = if e.program == number then Some e else None

abbrev pub entry_in : ℕ → DescribedTable → Option DescribedEntry
entry_in number t = option_and_then (entry_if_of number) t.entry

-- its bytes there: none if there is no such entry
abbrev pub listed_length : ℕ → DescribedTable → ℕ
listed_length number t = elim (entry_in number t) [ None ↦ 0 | Some e ↦ 5 + length e.descriptors ]

abbrev pub pmt_length : Described → DescribedProgram → ℕ
pmt_length d p = section_overhead + 4 + length p.descriptors + sum_by (entry_length p.number) d.streams + sum_by (shared_length p.number) d.streams
    + sum_by (listed_length p.number) d.tables

-- the transport streams of the network: this one, and the others
abbrev pub network_streams : Described → DescribedNetwork → List NetworkStream
network_streams d n = record {
  transport_stream_id = d.transport_stream_id;
  original_network_id = d.original_network_id;
  descriptors = n.descriptors;
} ∷ n.streams

-- the bytes of a transport stream in the NIT
abbrev pub network_stream_length : NetworkStream → ℕ
network_stream_length s = 6 + length s.descriptors

-- the bytes of the network's descriptors and of transport streams in a section of the NIT of section_length 1,021 at most
abbrev pub most_network_bytes : ℕ
most_network_bytes = 1008

-- the transport streams in the sections of the NIT, the network's descriptors in the first: as many sections as they need for a
-- transponder, otherwise one
abbrev pub nit_parts : Described → DescribedNetwork → List (List NetworkStream)
nit_parts d n = if d.is_transponder
    then cut network_stream_length most_network_bytes (length n.network_descriptors) [] (network_streams d n)
    else network_streams d n ∷ []

-- the bytes of the section of the NIT at a place, with these transport streams
abbrev pub nit_length : DescribedNetwork → ℕ → List NetworkStream → ℕ
nit_length n place part =
    section_overhead + 4 + (if place == 0 then length n.network_descriptors else 0) + sum_by network_stream_length part

-- the bytes of all sections, from a place on
abbrev pub nit_lengths : DescribedNetwork → ℕ → List (List NetworkStream) → List ℕ
nit_lengths n place [] = []
nit_lengths n place (part ∷ parts) = nit_length n place part ∷ nit_lengths n (place + 1) parts

-- the bytes of a service in the SDT
abbrev pub service_length : DescribedProgram → ℕ
service_length p = 5 + length p.service_descriptors

-- the bytes of services in a section of the SDT of section_length 1,021 at most
abbrev pub most_services : ℕ
most_services = 1009

-- the programs in the sections of the SDT: as many sections as they need for a transponder, otherwise one
abbrev pub sdt_parts : Described → List (List DescribedProgram)
sdt_parts d = if d.is_transponder then cut service_length most_services 0 [] d.programs else d.programs ∷ []

-- the bytes of a section of the SDT with these services
abbrev pub sdt_length : List DescribedProgram → ℕ
sdt_length ps = section_overhead + 3 + sum_by service_length ps

-- the bytes of an event in an EIT section
abbrev pub event_length : DescribedEvent → ℕ
event_length e = 12 + length e.descriptors

-- the bytes of the longest event of a list, 0 of none
abbrev pub longest_event : List DescribedEvent → ℕ
longest_event [] = 0
longest_event (e ∷ es) = max (event_length e) (longest_event es)

-- the longest EIT section of a program: of an empty loop, or of a loop of one event
abbrev pub eit_length : DescribedProgram → ℕ
eit_length p = section_overhead + 6 + longest_event p.events

-- the packets of each section of the EIT: one reserves nothing
abbrev pub eit_room : Described → ℕ
eit_room d = if d.has_eit then d.rooms.eit else 1

-- the greatest length of a section of a program, with room for so many packets
abbrev pub schedule_length : ℕ → DescribedProgram → ℕ
schedule_length packets p = room_length most_eit_bytes packets (eit_length p)

-- the lengths of each program's two sections, for the present event and for the following event
abbrev pub eit_lengths : ℕ → List DescribedProgram → List ℕ
eit_lengths packets [] = []
eit_lengths packets (p ∷ ps) = schedule_length packets p ∷ schedule_length packets p ∷ eit_lengths packets ps

-- the place, among the programs in the EIT, of the program of a section of the EIT, and the section's section_number (EN 300 468,
-- 5.2.4): for a transponder the sections for the present events are first, otherwise a program's two sections follow one another
abbrev pub eit_place : Described → ℕ → ℕ × ℕ
eit_place d j = if d.is_transponder then (j % length (scheduled_programs d), j / length (scheduled_programs d)) else (j / 2, j % 2)

abbrev pub tdt_length : ℕ
tdt_length = 8

-- the greatest lengths of a program's PMT, of the sections of the NIT and of a section of the SDT, with their rooms
abbrev pub map_length : Described → DescribedProgram → ℕ
map_length d p = room_length most_bytes p.pmt_packets (pmt_length d p)

abbrev pub network_lengths : Described → DescribedNetwork → List ℕ
network_lengths d n = map (room_length most_bytes d.rooms.nit) (nit_lengths n 0 (nit_parts d n))

abbrev pub services_length : Described → List DescribedProgram → ℕ
services_length d ps = room_length most_bytes d.rooms.sdt (sdt_length ps)

-- the greatest length of each section of a table, in bytes, in the order of the sections
abbrev pub kind_lengths : Described → TableKind → List ℕ
kind_lengths d Pat = room_length most_bytes d.rooms.pat (pat_length d) ∷ []
kind_lengths d (Pmt p) = map (map_length d) (option_to_list (slice_get d.programs p))
kind_lengths d Nit = elim d.network [ None ↦ [] | Some n ↦ network_lengths d n ]
kind_lengths d Sdt = map (services_length d) (sdt_parts d)
kind_lengths d Eit = if d.is_transponder
    then map (schedule_length (eit_room d)) (scheduled_programs d) ++ map (schedule_length (eit_room d)) (scheduled_programs d)
    else eit_lengths (eit_room d) (scheduled_programs d)
kind_lengths d Tdt = tdt_length ∷ []
kind_lengths d (Private i) = elim (slice_get d.tables i) [ None ↦ [] | Some private ↦ map length private.sections ]

-- for the table of that number: its PID, its limit in ms, the greatest lengths of its sections in bytes
abbrev pub table_pid : Described → ℕ → ℕ
table_pid d t = elim (table_kind d t) [ None ↦ 0 | Some kind ↦ kind_pid d kind ]

abbrev pub table_limit : Described → ℕ → ℕ
table_limit d t = elim (table_kind d t) [ None ↦ 0 | Some kind ↦ kind_limit d kind ]

abbrev pub section_lengths : Described → ℕ → List ℕ
section_lengths d t = elim (table_kind d t) [ None ↦ [] | Some kind ↦ kind_lengths d kind ]

-- how many sections the table has
abbrev pub section_count : Described → ℕ → ℕ
section_count d t = length (section_lengths d t)

-- the greatest length of a section of the table
abbrev pub greatest_length : Described → ℕ → ℕ → ℕ
greatest_length d t j = slice_index_or (section_lengths d t) j 0

-- the packets that a section of that length takes after its pointer_field (ISO/IEC 13818-1, 2.4.4.1)
abbrev pub packets_of_section : ℕ → ℕ
packets_of_section l = (1 + l + 183) / 184

-- the places of a section of the table, and of a round of all its sections
abbrev pub section_packets : Described → ℕ → ℕ → ℕ
section_packets d t j = packets_of_section (greatest_length d t j)

abbrev pub round_packets : Described → ℕ → ℕ
round_packets d t = sum_by packets_of_section (section_lengths d t)

-- the packets of a stream's greatest unit, with the longest PES header of 19 bytes (ISO/IEC 13818-1, 2.4.3.7)
abbrev pub greatest_unit_packets : DescribedStream → ℕ
greatest_unit_packets s = (19 + s.size + 183) / 184
