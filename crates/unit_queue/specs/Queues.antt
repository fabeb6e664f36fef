-- The state of a queue, and the history that it represents.
use Rattle.std.specs.Prelude.{◌≡◌, ◌≤◌, ◌<◌, ℕ, ◌+◌, ◌*◌, ◌%◌, ◌/◌, ◌^◌, Bool, List, length, map, All, IsTrue}
use Rattle.clock27.specs.Release.{release}
use Rattle.pes_packet.specs.AccessUnits.{AccessUnit}
use Rattle.pes_packet.specs.Encoding.{pes_header_bytes}
use Rattle.pes_packet.specs.Marks.{marks_size}
use Rattle.pes_packet.specs.StreamIds.{is_unit_id, greatest_size}
use Rattle.unit_timing.specs.PesPacket.{Spaced, Sized}
use Rattle.unit_timing.specs.Allowances.{KeepsAllowance, allowance_rows}
use Rattle.unit_queue.specs.declared.parameters.StreamParameters.{StreamParameters}
use Rattle.unit_queue.specs.OwnedStreams.{OwnedStream, has_access, timed}
use Rattle.unit_queue.specs.Places.{left_before, begun_before}
use Rattle.unit_queue.specs.Causes.{min_next_dts_of}
use Rattle.unit_queue.specs.Tallies.{Tally, tally_of}

-- numbers that a stream can declare
pub record ParametersInRange (r : StreamParameters) : Type 0 where
  pub pid : r.pid < 2 ^ 13
  pub base0 : r.base0 < 2 ^ 33
  pub stream_id : IsTrue (is_unit_id r.stream_id)
  pub size : r.size ≤ greatest_size r.stream_id
  pub pts_limit : r.pts_limit ≤ 5_400_000
  pub rows : 0 < allowance_rows r.allowance

-- the maximum number of packets of a unit, with at most 19 bytes of header and the bytes of its marks
abbrev pub max_packets_per_unit : StreamParameters → ℕ
max_packets_per_unit r = (19 + r.size + 183) / 184

-- the units that a stream accepts: each by itself, including its marks, and together their distances, their sizes and the number of their packets
pub record IsUnit (r : StreamParameters) (u : AccessUnit) : Type 0 where
  pub some : 1 ≤ length u.bytes
  pub most : length u.bytes + marks_size u.marks ≤ r.size
  pub later : u.dts ≤ u.pts
  pub soon : u.pts ≤ u.dts + r.pts_limit
  pub last : u.dts ≤ 2 ^ 52

pub record Kept (l : OwnedStream) (us : List AccessUnit) : Type 0 where
  pub units : All (IsUnit l.parameters) us
  pub spaced : Spaced l.parameters.interval l.parameters.lead (map (timed l) us)
  pub sized : Sized (19 + l.parameters.size) (map (timed l) us)
  pub allowed : KeepsAllowance l.parameters.allowance (max_packets_per_unit l.parameters) (map (timed l) us)

-- a waiting unit: the slot of its release, its PES header, whether a decoder may begin with it, and its bytes
pub record Queued : Type 0 where
  pub release : ℕ
  pub header : List ℕ
  pub access : Bool
  pub bytes : List ℕ

-- a queue: the units not sent whole, and the bytes sent of the first unit and of the field in front of it; the number of packets sent, modulo 256; the
-- minimum DTS of the next unit; and the tally of the packets of all accepted units
pub record Queue : Type 0 where
  pub parameters : StreamParameters
  pub units : List Queued
  pub capacity : ℕ
  pub sent : ℕ
  pub counter : ℕ
  pub min_next_dts : ℕ
  pub tally : Tally

-- a unit as it waits
abbrev pub queued : StreamParameters → AccessUnit → Queued
queued r u = record {
  release = release r.rate r.lead u.dts;
  header = pes_header_bytes r.stream_id (length u.bytes) u.marks (u.pts + r.base0) (u.dts + r.base0);
  access = has_access u;
  bytes = u.bytes;
}

-- a queue for these units, which are not sent whole, when `begun` packets of the first unit are sent; this unit begins with packet `number` of the stream
abbrev pub queue_at : OwnedStream → ℕ → ℕ → List AccessUnit → ℕ → ℕ → Tally → Queue
queue_at l number begun us capacity min_next_dts tally = record {
  parameters = l.parameters;
  units = map (queued l.parameters) us;
  capacity = capacity;
  sent = 184 * begun;
  counter = (number + begun) % 256;
  min_next_dts = min_next_dts;
  tally = tally;
}

-- the queue of this capacity for a stream that has accepted these units, with `slots` slots written
abbrev pub queue_of : OwnedStream → ℕ → ℕ → List AccessUnit → Queue
queue_of l slots capacity us = queue_at l (left_before l slots us).number (begun_before l slots us) (left_before l slots us).units capacity
    (min_next_dts_of l us) (tally_of l.parameters.allowance (map (timed l) us))

-- a queue represents this history
pub record QueueHolds (l : OwnedStream) (slots capacity : ℕ) (us : List AccessUnit) (q : Queue) : Type 0 where
  pub state : q ≡ queue_of l slots capacity us
  pub kept : Kept l us
