-- A stream at a constant rate, packet by packet: its parts, and its packets and units in the form of the model of finished bytes.
--
-- Lists of packets begin with the last packet.
use Rattle.std.specs.Prelude.{◌≡◌, ℕ, ◌+◌, ◌-◌, ◌*◌, ◌/◌, ◌<◌, ◌≤◌, nat_le, List, [], ◌∷◌, ◌++◌, Option, Some, None, All}
use Rattle.clock27.specs.Arrival.{bytes_from}
use Rattle.clock27.specs.Peak.{IsPeak, Climbs}
use Rattle.clock27.specs.Units.{byte_units_at_1bps}
use Rattle.unit_timing.specs.MainBuffer.{mb_fullness}
use Rattle.unit_timing.specs.PesPacket.{PesPacket}
use Rattle.unit_timing.specs.Schedule.{Packet}
use Rattle.unit_timing.specs.Transport.{slots_of, tb_fullness, pes_left}
use Rattle.tstd.specs.Removal.{removal_time}
use Rattle.tstd_rows.specs.History.{Part, transport_of, main_peak}
use Rattle.tstd_rows.specs.History.Part.{Passes, Carries, Begins}
use Rattle.tstd_rows.specs.declared.unit_seen.DueTime.{DueTime}

-- a packet of the stream: its index among all packets, the size of its payload, and, if a unit begins with it, when that unit is due, in units of 90 kHz
pub record StreamPacket : Type 0 where
  pub slot : ℕ
  pub size : ℕ
  pub begins : Option ℕ

abbrev pub due_time : ℕ → ℕ → ℕ → DueTime
due_time rate rx due = record { until = removal_time rate rx due; deadline = due * rate * rx / byte_units_at_1bps }

-- the part for a unit that begins with a packet, if any
unfoldable pub begun : ℕ → ℕ → Option ℕ → List Part → List Part
begun rate rx None before = before
begun rate rx (Some due) before = Begins (due_time rate rx due) ∷ before

-- the parts of these packets: for each packet the bytes before its payload, and then its payload
unfoldable pub parts_of : ℕ → ℕ → List StreamPacket → List Part
parts_of rate rx [] = []
parts_of rate rx (p ∷ before) =
    Carries (bytes_from rx (188 * p.slot + (188 - p.size)) p.size)
    ∷ begun rate rx p.begins (Passes (bytes_from rx (188 * p.slot) (188 - p.size)) ∷ parts_of rate rx before)

-- the same packets, in the order of the stream
unfoldable pub packets_of : List StreamPacket → List Packet
packets_of [] = []
packets_of (p ∷ before) = packets_of before ++ record { slot = p.slot; size = p.size } ∷ []

-- `size` more bytes of the last unit; bytes before the first unit are taken as a unit due at 0, which is never in the main buffer
unfoldable pub with_bytes_of_last : ℕ → List PesPacket → List PesPacket
with_bytes_of_last size [] = record { dts = 0; size = size; front = 0 } ∷ []
with_bytes_of_last size (u ∷ []) = record { dts = u.dts; size = u.size + size; front = u.front } ∷ []
with_bytes_of_last size (u ∷ v ∷ units) = u ∷ with_bytes_of_last size (v ∷ units)

-- the units with the payload of one more packet
unfoldable pub with_payload : Option ℕ → ℕ → List PesPacket → List PesPacket
with_payload None size units = with_bytes_of_last size units
with_payload (Some due) size units = units ++ record { dts = due; size = size; front = 0 } ∷ []

-- the units that these packets carry, in the order of the stream
unfoldable pub units_of : List StreamPacket → List PesPacket
units_of [] = []
units_of (p ∷ before) = with_payload p.begins p.size (units_of before)

-- the figures of a view of these parts are the figures of the model of finished bytes: the greatest fullness of the transport buffer and of the main buffer
-- over all moments
pub record HasFigures (rate rx : ℕ) (packets : List StreamPacket) (parts : List Part) : Type 0 where
  pub transport : IsPeak (λ x. tb_fullness rate rx x (slots_of (packets_of packets))) (transport_of rate parts).most
  pub main : IsPeak (λ x. mb_fullness rate rx x (units_of packets) (pes_left rate rx 0 (packets_of packets))) (main_peak rate parts)

-- a byte that leaves the transport buffer at d meets the deadline of a unit exactly if it meets the time stamp of the unit
abbrev pub InTimeLaw : Type 0
InTimeLaw = (rate rx due d : ℕ) → nat_le (d * byte_units_at_1bps) (due * rate * rx) ≡ nat_le d (due_time rate rx due).deadline

abbrev pub ConstantRateLaw : Type 0
ConstantRateLaw = (rate rx : ℕ) (packets : List StreamPacket) → 0 < rate → 0 < rx → All (λ p. p.size ≤ 188) packets →
    Climbs 0 (slots_of (packets_of packets)) → HasFigures rate rx packets (parts_of rate rx packets)
