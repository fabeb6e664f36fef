-- The numbers of a description's parts, each with its key, in the order of the keys.
use Rattle.std.specs.Prelude.{ℕ, List, [], ◌∷◌, Option, None, Some, codes}
use Rattle.dvb_tables.specs.TransportStreams.{TransportStreamView}
use Rattle.unit_timing.specs.declared.allowance.Allowance.{Allowance}
use Rattle.unit_timing.specs.declared.allowance.Allowance.TheVariants.{Groups, Pace}
use Rattle.unit_timing.specs.declared.multiplexing_buffer.MultiplexingBuffer.{MultiplexingBuffer}
use Rattle.job_text.specs.DescriptionParts.{FramingPartView, ProgramPartView, StreamPartView, TablePartView}

-- another transport stream of a network: its numbers
abbrev pub network_ids : ℕ → ℕ → List (List ℕ × ℕ)
network_ids original id = (codes "original_network_id", original) ∷ (codes "ts_id", id) ∷ []

abbrev pub network_stream_numbers : TransportStreamView → List (List ℕ × ℕ)
network_stream_numbers s = network_ids s.original_network_id s.transport_stream_id

-- the numbers of a program, between its name and the PID of its clock references
abbrev pub program_numbers : ProgramPartView → List (List ℕ × ℕ)
program_numbers p = (codes "number", p.number) ∷ (codes "pcr_limit", p.pcr_limit) ∷ []

-- the numbers of a stream, before its descriptors: the burst of a pace
abbrev pub burst_numbers : Allowance → List (List ℕ × ℕ)
burst_numbers (Groups units packets) = []
burst_numbers (Pace burst pace) = (codes "burst_packets", burst) ∷ []

-- the numbers of access units, before and after the sums of their bytes
abbrev pub frame_numbers : FramingPartView → List (List ℕ × ℕ)
frame_numbers f = (codes "frame", f.frame) ∷ []

abbrev pub rest_numbers : FramingPartView → List (List ℕ × ℕ)
rest_numbers f = (codes "frame_rest", f.rest) ∷ (codes "frames", f.frames) ∷ []

-- the numbers of groups
abbrev pub group_numbers : Allowance → List (List ℕ × ℕ)
group_numbers (Groups units packets) = (codes "group", units) ∷ (codes "group_packets", packets) ∷ []
group_numbers (Pace burst pace) = []

-- the next numbers, the size of the multiplexing buffer, and the pace
abbrev pub time_numbers : StreamPartView → List (List ℕ × ℕ)
time_numbers s =
    (codes "id", s.stream_id)
    ∷ (codes "interval", s.interval)
    ∷ (codes "lead", s.lead)
    ∷ (codes "main", s.main) ∷ []

abbrev pub size_numbers : Option MultiplexingBuffer → List (List ℕ × ℕ)
size_numbers None = []
size_numbers (Some m) = (codes "mb", m.size) ∷ []

abbrev pub pace_numbers : Allowance → List (List ℕ × ℕ)
pace_numbers (Groups units packets) = []
pace_numbers (Pace burst pace) = (codes "pace", pace) ∷ []

-- the numbers before the programs that it is shared with: its place, and the leak rates of the multiplexing buffer and of the transport buffer
abbrev pub place_numbers : StreamPartView → List (List ℕ × ℕ)
place_numbers s = (codes "pid", s.pid) ∷ (codes "program", s.program) ∷ []

abbrev pub leak_numbers : Option MultiplexingBuffer → List (List ℕ × ℕ)
leak_numbers None = []
leak_numbers (Some m) = (codes "rbx", m.rbx) ∷ []

abbrev pub drain_numbers : StreamPartView → List (List ℕ × ℕ)
drain_numbers s = (codes "rx", s.rx) ∷ []

-- and the last but for its stream_type
abbrev pub last_numbers : StreamPartView → List (List ℕ × ℕ)
last_numbers s = (codes "size", s.size) ∷ []

-- the numbers of a table, between its descriptors and its sections
abbrev pub table_numbers : TablePartView → List (List ℕ × ℕ)
table_numbers t = (codes "limit", t.limit) ∷ (codes "pid", t.pid) ∷ (codes "program", t.program) ∷ []
