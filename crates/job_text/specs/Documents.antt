-- The texts as tables of TOML.
use Rattle.std.specs.Prelude.{ℕ, pos, List, [], ◌∷◌, map, codes, Option, Some, None}
use Rattle.dvb_tables.specs.TransportStreams.{TransportStreamView}
use Rattle.hex.specs.Hex.{encode_lower}
use Rattle.toml.specs.Data.{string, integer, boolean, array, table, Items, no_items, item, Members, no_members, member}
use Rattle.unit_timing.specs.declared.allowance.Allowance.{Allowance}
use Rattle.unit_timing.specs.declared.multiplexing_buffer.MultiplexingBuffer.{MultiplexingBuffer}
use Rattle.job_text.specs.DescriptionParts.{EventPartView, FramingPartView, HeadingView, NetworkPartView, ProgramPartView, StreamPartView, TablePartView}
use Rattle.job_text.specs.KeyLines.{with_numbers, number_if_any, with_set, with_hex, with_list, digits_of}
use Rattle.job_text.specs.Fields.{network_stream_numbers, program_numbers, burst_numbers, frame_numbers, rest_numbers, group_numbers, time_numbers, size_numbers, pace_numbers}
use Rattle.job_text.specs.Fields.{place_numbers, leak_numbers, drain_numbers, last_numbers, table_numbers}

-- tables as the elements of an array
abbrev pub elements_of : List Members → Items
elements_of [] = no_items
elements_of (t ∷ ts) = item (table t) (elements_of ts)

-- an array of tables at a key before the remaining keys; no key if there are no tables
abbrev pub with_tables : List ℕ → List Members → Members → Members
with_tables key [] more = more
with_tables key (t ∷ ts) more = member key (array (elements_of (t ∷ ts))) more

-- a table at a key before the remaining keys, if there is a table
abbrev pub with_table : List ℕ → Option Members → Members → Members
with_table key None more = more
with_table key (Some t) more = member key (table t) more

-- for an event: its keys with those of its texts, or with all of its descriptors
abbrev pub event_members : Option (List ℕ) → EventPartView → Members
event_members None e =
    member (codes "duration") (integer (pos e.duration))
    (member (codes "id") (integer (pos e.id))
    (member (codes "language") (string e.language)
    (member (codes "name") (string e.name)
    (member (codes "program") (integer (pos e.program))
    (member (codes "start") (string e.start)
    (member (codes "text") (string e.text) no_members))))))
event_members (Some bytes) e =
    member (codes "descriptors") (string (encode_lower bytes))
    (member (codes "duration") (integer (pos e.duration))
    (member (codes "id") (integer (pos e.id))
    (member (codes "program") (integer (pos e.program))
    (member (codes "start") (string e.start) no_members))))

abbrev pub event_table : EventPartView → Members
event_table e = event_members e.descriptors e

-- for another transport stream of a network: its numbers, and all keys
abbrev pub network_stream_ids : TransportStreamView → Members
network_stream_ids s = with_numbers (network_stream_numbers s) no_members

abbrev pub network_stream_table : TransportStreamView → Members
network_stream_table s = with_hex (codes "descriptors") s.descriptors (network_stream_ids s)

-- for a network before its transport streams: its name, or all of its descriptors, the keys from its number on, and all keys
abbrev pub network_last : Option (List ℕ) → NetworkPartView → Members → Members
network_last None n more = member (codes "name") (string n.name) more
network_last (Some bytes) n more = member (codes "network_descriptors") (string (encode_lower bytes)) more

abbrev pub network_rest : Option (List ℕ) → NetworkPartView → Members → Members
network_rest o n more = member (codes "id") (integer (pos n.id)) (network_last o n more)

abbrev pub network_members : NetworkPartView → Members → Members
network_members n more = with_hex (codes "descriptors") n.descriptors (network_rest n.network_descriptors n more)

abbrev pub network_table : NetworkPartView → Members
network_table n = network_members n (with_tables (codes "stream") (map network_stream_table n.streams) no_members)

-- for a program: its service's status before other keys, the keys after its clock, with the keys of its service or with all descriptors of
-- its service, and all keys
abbrev pub with_status : ProgramPartView → Members → Members
with_status p more = with_numbers (number_if_any (codes "running_status") p.running_status) more

abbrev pub program_type : ProgramPartView → Members
program_type p = member (codes "service_type") (integer (pos p.service_type)) no_members

abbrev pub program_service : ProgramPartView → Members
program_service p =
    member (codes "pmt_pid") (integer (pos p.pmt_pid))
    (member (codes "provider") (string p.provider)
    (with_status p (program_type p)))

abbrev pub program_loop : List ℕ → Members
program_loop bytes = member (codes "service_descriptors") (string (encode_lower bytes)) no_members

abbrev pub program_coded : List ℕ → ProgramPartView → Members
program_coded bytes p = member (codes "pmt_pid") (integer (pos p.pmt_pid)) (with_status p (program_loop bytes))

abbrev pub with_clock : ProgramPartView → Members → Members
with_clock p more = with_numbers (program_numbers p) (with_numbers (number_if_any (codes "pcr_pid") p.pcr_pid) more)

abbrev pub program_members : Option (List ℕ) → ProgramPartView → Members
program_members None p = member (codes "name") (string p.name) (with_clock p (program_service p))
program_members (Some bytes) p = with_clock p (program_coded bytes p)

abbrev pub program_table : ProgramPartView → Members
program_table p = with_hex (codes "descriptors") p.descriptors (program_members p.service_descriptors p)

-- for a stream: its last keys, the keys from its PID on, after its access units, after its descriptors, and all keys
abbrev pub stream_last : StreamPartView → Members
stream_last s = with_numbers (last_numbers s) (member (codes "type") (integer (pos s.stream_type)) no_members)

abbrev pub stream_drain : Option MultiplexingBuffer → StreamPartView → Members
stream_drain m s =
    with_numbers (leak_numbers m)
    (with_numbers (drain_numbers s) (with_list (codes "shared_with") s.shared_with (stream_last s)))

abbrev pub stream_place : Option MultiplexingBuffer → Option ℕ → StreamPartView → Members
stream_place m l s = with_numbers (place_numbers s) (with_numbers (number_if_any (codes "pts_limit") l) (stream_drain m s))

abbrev pub stream_middle : Allowance → Option MultiplexingBuffer → Option ℕ → StreamPartView → Members
stream_middle a m l s =
    with_numbers (group_numbers a)
    (with_numbers (time_numbers s)
    (with_numbers (size_numbers m) (with_numbers (pace_numbers a) (stream_place m l s))))

-- the keys of access units before other keys, if it has several in a unit
abbrev pub with_framing : Option FramingPartView → Members → Members
with_framing None more = more
with_framing (Some f) more = with_numbers (frame_numbers f) (with_list (codes "frame_left") f.left (with_numbers (rest_numbers f) more))

abbrev pub stream_rest : Allowance → Option MultiplexingBuffer → Option FramingPartView → Option ℕ → StreamPartView → Members
stream_rest a m f l s = with_framing f (stream_middle a m l s)

abbrev pub stream_members : Allowance → Option MultiplexingBuffer → Option FramingPartView → Option ℕ → StreamPartView → Members
stream_members a m f l s = with_numbers (burst_numbers a) (with_hex (codes "descriptors") s.descriptors (stream_rest a m f l s))

abbrev pub stream_table : StreamPartView → Members
stream_table s = stream_members s.allowance s.multiplexing s.framing s.pts_limit s

abbrev pub table_table : TablePartView → Members
table_table t =
    member (codes "descriptors") (string (encode_lower t.descriptors))
    (with_numbers (table_numbers t)
    (member (codes "sections") (array (digits_of t.sections))
    (member (codes "stream_type") (integer (pos t.stream_type)) no_members)))

-- a description of this heading, with the tables of its events, its network, its programs, its streams and its private tables
abbrev pub document : HeadingView → List Members → Option Members → List Members → List Members → List Members → Members
document h events network programs streams tables =
    member (codes "base0") (integer (pos h.base0))
    (with_numbers (number_if_any (codes "clock_pid") h.clock_pid)
    (with_tables (codes "event") events
    (with_table (codes "network") network
    (member (codes "original_network_id") (integer (pos h.original_network_id))
    (with_tables (codes "program") programs
    (member (codes "rate") (integer (pos h.rate))
    (member (codes "sdt") (boolean h.sdt)
    (member (codes "start") (string h.start)
    (with_tables (codes "stream") streams
    (with_tables (codes "table") tables
    (member (codes "tdt") (boolean h.tdt)
    (with_set (codes "transponder") h.transponder
    (member (codes "ts_id") (integer (pos h.transport_stream_id)) no_members)))))))))))))
