-- The texts of a service description's parts: every key on its line, in ascending order.
use Rattle.std.specs.Prelude.{ℕ, pos, List, [], ◌∷◌, ◌++◌, codes, Option, Some, None}
use Rattle.std.specs.List.{flat_map}
use Rattle.dvb_tables.specs.TransportStreams.{TransportStreamView}
use Rattle.hex.specs.Hex.{encode_lower}
use Rattle.toml.specs.Data.{string, integer, boolean, array}
use Rattle.job_text.specs.DescriptionParts.{EventPartView, FramingPartView, HeadingView, NetworkPartView, ProgramPartView, StreamPartView, TablePartView}
use Rattle.job_text.specs.KeyLines.{key_line, named_line, noted_line, number_line, number_lines, number_if_any, set_line, hex_line, list_line, digits_of, table_header, header}
use Rattle.job_text.specs.Notes.{type_note}
use Rattle.job_text.specs.Fields.{network_stream_numbers, program_numbers, burst_numbers, frame_numbers, rest_numbers, group_numbers, time_numbers, size_numbers}
use Rattle.job_text.specs.Fields.{pace_numbers, place_numbers, leak_numbers, drain_numbers, last_numbers, table_numbers}

-- the keys of the document itself: its numbers up to the rate, the lines after its start, and all lines
abbrev pub heading_numbers : HeadingView → List ℕ
heading_numbers h =
    number_line (codes "base0", h.base0)
    ++ (number_lines (number_if_any (codes "clock_pid") h.clock_pid)
    ++ (number_line (codes "original_network_id", h.original_network_id) ++ number_line (codes "rate", h.rate)))

abbrev pub heading_back : HeadingView → List ℕ
heading_back h =
    key_line (codes "tdt") (boolean h.tdt)
    ++ (set_line (codes "transponder") h.transponder ++ number_line (codes "ts_id", h.transport_stream_id))

abbrev pub heading_text : HeadingView → List ℕ
heading_text h = heading_numbers h ++ (key_line (codes "sdt") (boolean h.sdt) ++ (key_line (codes "start") (string h.start) ++ heading_back h))

-- for an event: its first numbers, its language and name, and its program and start
abbrev pub event_numbers : EventPartView → List (List ℕ × ℕ)
event_numbers e = (codes "duration", e.duration) ∷ (codes "id", e.id) ∷ []

abbrev pub event_names : EventPartView → List ℕ
event_names e = key_line (codes "language") (string e.language) ++ key_line (codes "name") (string e.name)

abbrev pub event_place : EventPartView → List ℕ
event_place e = number_line (codes "program", e.program) ++ key_line (codes "start") (string e.start)

-- its lines with the keys of its texts, or with all of its descriptors
abbrev pub event_lines : Option (List ℕ) → EventPartView → List ℕ
event_lines None e = number_lines (event_numbers e) ++ (event_names e ++ (event_place e ++ key_line (codes "text") (string e.text)))
event_lines (Some bytes) e = named_line (codes "descriptors") bytes e.name ++ (number_lines (event_numbers e) ++ event_place e)

-- an element of the array `event`
abbrev pub event_text : EventPartView → List ℕ
event_text e = header (codes "event") ++ event_lines e.descriptors e

-- for a network: its name, or all of its descriptors
abbrev pub network_names : Option (List ℕ) → NetworkPartView → List ℕ
network_names None n = key_line (codes "name") (string n.name)
network_names (Some bytes) n = named_line (codes "network_descriptors") bytes n.name

-- the keys of the table `network`; an element of the array `stream` in it; and the whole table, if there is one
abbrev pub network_own : NetworkPartView → List ℕ
network_own n =
    table_header (codes "network")
    ++ (hex_line (codes "descriptors") n.descriptors ++ (number_line (codes "id", n.id) ++ network_names n.network_descriptors n))

abbrev pub network_stream_front : TransportStreamView → List ℕ
network_stream_front s = header (codes "network.stream") ++ hex_line (codes "descriptors") s.descriptors

abbrev pub network_stream_text : TransportStreamView → List ℕ
network_stream_text s = network_stream_front s ++ number_lines (network_stream_numbers s)

abbrev pub network_text : NetworkPartView → List ℕ
network_text n = network_own n ++ flat_map network_stream_text n.streams

abbrev pub network_if_any : Option NetworkPartView → List ℕ
network_if_any None = []
network_if_any (Some n) = network_text n

-- for a program: its first lines, its clock, its service's status, and the lines after its clock
abbrev pub program_front : ProgramPartView → List ℕ
program_front p = header (codes "program") ++ hex_line (codes "descriptors") p.descriptors

abbrev pub program_clock : ProgramPartView → List ℕ
program_clock p = number_lines (program_numbers p) ++ number_lines (number_if_any (codes "pcr_pid") p.pcr_pid)

abbrev pub program_status : ProgramPartView → List ℕ
program_status p = number_lines (number_if_any (codes "running_status") p.running_status)

abbrev pub program_service : ProgramPartView → List ℕ
program_service p =
    number_line (codes "pmt_pid", p.pmt_pid)
    ++ (key_line (codes "provider") (string p.provider) ++ (program_status p ++ number_line (codes "service_type", p.service_type)))

-- its lines with the keys of its service, or with all descriptors of its service
abbrev pub program_back : Option (List ℕ) → ProgramPartView → List ℕ
program_back None p = key_line (codes "name") (string p.name) ++ (program_clock p ++ program_service p)
program_back (Some bytes) p =
    program_clock p ++ (number_line (codes "pmt_pid", p.pmt_pid) ++ (program_status p ++ named_line (codes "service_descriptors") bytes p.name))

-- an element of the array `program`
abbrev pub program_text : ProgramPartView → List ℕ
program_text p = program_front p ++ program_back p.service_descriptors p

-- the lines of access units, if a stream has several in a unit
abbrev pub framing_text : FramingPartView → List ℕ
framing_text f = number_lines (frame_numbers f) ++ (list_line (codes "frame_left") f.left ++ number_lines (rest_numbers f))

abbrev pub framing_if_any : Option FramingPartView → List ℕ
framing_if_any None = []
framing_if_any (Some f) = framing_text f

-- for a stream: the lines up to its group, or its access units, then up to its pace, then up to its rate, and the last lines
abbrev pub stream_front : StreamPartView → List ℕ
stream_front s =
    header (codes "stream")
    ++ (number_lines (burst_numbers s.allowance)
    ++ (hex_line (codes "descriptors") s.descriptors ++ (framing_if_any s.framing ++ number_lines (group_numbers s.allowance))))

abbrev pub stream_times : StreamPartView → List ℕ
stream_times s = number_lines (time_numbers s) ++ (number_lines (size_numbers s.multiplexing) ++ number_lines (pace_numbers s.allowance))

abbrev pub stream_place : StreamPartView → List ℕ
stream_place s =
    number_lines (place_numbers s)
    ++ (number_lines (number_if_any (codes "pts_limit") s.pts_limit) ++ (number_lines (leak_numbers s.multiplexing) ++ number_lines (drain_numbers s)))

-- the line of its stream_type, with the profile and level in its headers
abbrev pub type_line : StreamPartView → List ℕ
type_line s = noted_line (codes "type") (integer (pos s.stream_type)) (type_note s.stream_type s.said)

abbrev pub stream_end : StreamPartView → List ℕ
stream_end s = list_line (codes "shared_with") s.shared_with ++ (number_lines (last_numbers s) ++ type_line s)

-- an element of the array `stream`
abbrev pub stream_text : StreamPartView → List ℕ
stream_text s = stream_front s ++ (stream_times s ++ (stream_place s ++ stream_end s))

-- for a table: the lines up to its program, and the last two lines
abbrev pub table_front : TablePartView → List ℕ
table_front t = header (codes "table") ++ (key_line (codes "descriptors") (string (encode_lower t.descriptors)) ++ number_lines (table_numbers t))

abbrev pub table_back : TablePartView → List ℕ
table_back t = key_line (codes "sections") (array (digits_of t.sections)) ++ number_line (codes "stream_type", t.stream_type)

-- an element of the array `table`
abbrev pub table_text : TablePartView → List ℕ
table_text t = table_front t ++ table_back t
