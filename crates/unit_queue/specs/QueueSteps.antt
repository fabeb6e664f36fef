-- The steps of a queue: one slot, and one more unit.
use Rattle.std.specs.Prelude.{ℕ, ◌+◌, ◌-◌, ◌%◌, ◌==◌, ◌||◌, nat_lt, nat_le, Bool, if◌then◌else◌, Option, List, [], ◌∷◌, ◌++◌, length, drop}
use Rattle.clock27.specs.Release.{release}
use Rattle.pes_packet.specs.AccessUnits.{AccessUnit}
use Rattle.pes_packet.specs.Encoding.{pes_packet_bytes}
use Rattle.pes_packet.specs.Marks.{field_size}
use Rattle.pes_packet.specs.Payloads.{part_of}
use Rattle.ts_packet.specs.declared.start.Start.{Start}
use Rattle.ts_packet.specs.Beginnings.{start_by}
use Rattle.slot_contents.specs.Contents.{Content, PayloadContent, NullContent}
use Rattle.unit_timing.specs.PesPacket.{PesPacket}
use Rattle.unit_queue.specs.Causes.{first_cause, packets_cause}
use Rattle.unit_queue.specs.OwnedStreams.{has_access}
use Rattle.unit_queue.specs.Tallies.{empty_tally, exceeds, counted}
use Rattle.unit_queue.specs.Queues.{Queued, Queue, queued}
use Rattle.unit_queue.specs.declared.parameters.StreamParameters.{StreamParameters}
use Rattle.unit_queue.specs.declared.refusal.FeedError.{FeedError}

-- more bytes remain of a PES packet, and of the field in front of it, than one packet holds
abbrev pub goes_on : Bool → List ℕ → ℕ → Bool
goes_on access pes sent = nat_lt 184 (field_size access + length pes - sent)

-- a payload, if there are bytes for it
unfoldable pub payload_or_null : ℕ → ℕ → Start → List ℕ → Content
payload_or_null pid number start bytes = if length bytes == 0 then NullContent else PayloadContent pid number start bytes

-- the packet that carries the bytes after the first `sent` bytes of a PES packet and of the field in front of it
abbrev pub part_content : ℕ → ℕ → Bool → List ℕ → ℕ → Content
part_content pid number access pes sent = payload_or_null pid number (start_by (sent == 0) access) (part_of (field_size access) sent pes)

-- what the queue puts into slot s, an own slot
unfoldable pub front_content : ℕ → Queue → List Queued → Content
front_content s q [] = NullContent
front_content s q (u ∷ us) = if nat_lt s u.release then NullContent else part_content q.parameters.pid q.counter u.access (u.header ++ u.bytes) q.sent

abbrev pub queue_content : ℕ → Queue → Content
queue_content s q = front_content s q q.units

-- the queue after a piece of its first unit is sent, with more pieces to follow or not
abbrev pub stepped : Bool → Queue → Queue
stepped more q =
    if more then record q { sent = q.sent + 184; counter = (q.counter + 1) % 256 }
    else record q { units = drop 1 q.units; sent = 0; counter = (q.counter + 1) % 256 }

unfoldable pub front_sent : ℕ → Queue → List Queued → Queue
front_sent s q [] = q
front_sent s q (u ∷ us) = if nat_lt s u.release then q else stepped (goes_on u.access (u.header ++ u.bytes) q.sent) q

-- the queue after slot s, an own slot
abbrev pub sent_in : ℕ → Queue → Queue
sent_in s q = front_sent s q q.units

-- a queue that has had no unit
abbrev pub empty_queue : StreamParameters → ℕ → Queue
empty_queue r capacity = record { parameters = r; units = []; capacity = capacity; sent = 0; counter = 0; min_next_dts = 0; tally = empty_tally r.allowance }

-- the unit is late for a queue when `slots` slots are written
abbrev pub late_at : StreamParameters → ℕ → ℕ → Bool
late_at r slots dts = nat_lt dts r.lead || nat_lt (release r.rate r.lead dts) slots

-- when the unit before is due, 0 if there is no unit before
abbrev pub last_dts : Queue → ℕ
last_dts q = q.min_next_dts - q.parameters.interval

-- a unit has more packets than are allowed after the packets that the queue counted
abbrev pub is_over_for : Queue → PesPacket → Bool
is_over_for q unit = exceeds q.parameters.allowance q.tally (last_dts q) unit

-- a unit in the model of timing
abbrev pub timed_by : StreamParameters → AccessUnit → PesPacket
timed_by r u = record { dts = u.dts; size = length (pes_packet_bytes r.stream_id r.base0 u); front = field_size (has_access u) }

-- why the queue refuses a unit
abbrev pub state_cause : ℕ → Queue → AccessUnit → Option FeedError
state_cause slots q u =
    first_cause q.parameters.size q.parameters.pts_limit q.min_next_dts (late_at q.parameters slots u.dts) (nat_le q.capacity (length q.units))
    (packets_cause q.parameters.allowance (is_over_for q (timed_by q.parameters u))) u

-- the queue with one unit more at its end
abbrev pub joined : Queue → PesPacket → Queued → Queue
joined q unit u =
    record q { units = q.units ++ u ∷ []; min_next_dts = unit.dts + q.parameters.interval; tally = counted q.parameters.allowance q.tally (last_dts q) unit }

abbrev pub accepted : Queue → AccessUnit → Queue
accepted q u = joined q (timed_by q.parameters u) (queued q.parameters u)
