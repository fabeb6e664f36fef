-- The least that a stream declares so that its units keep it.
use Rattle.std.specs.Prelude.{ℕ, ◌+◌, ◌-◌, ◌/◌, ◌^◌, ◌≤◌, min, max, All, List, [], ◌∷◌, length, map, take}
use Rattle.std.specs.Int.{div_ceil}
use Rattle.clock27.specs.Units.{slot_units_at_1bps}
use Rattle.pes_packet.specs.AccessUnits.{AccessUnit}
use Rattle.pes_packet.specs.Encoding.{pes_packet_bytes}
use Rattle.pes_packet.specs.Marks.{field_size, marks_size}
use Rattle.unit_timing.specs.declared.allowance.Allowance.{Allowance}
use Rattle.unit_timing.specs.declared.allowance.Allowance.TheVariants.{Groups, Pace}
use Rattle.unit_timing.specs.PesPacket.{PesPacket, packets_of_unit, packets_of_units}
use Rattle.unit_timing.specs.Levels.{greatest_level}

-- the least time from one DTS to the next, at most a second
unfoldable pub interval_after : ℕ → List AccessUnit → ℕ
interval_after before [] = 90_000
interval_after before (u ∷ us) = min (u.dts - before) (interval_after u.dts us)

unfoldable pub min_interval : List AccessUnit → ℕ
min_interval [] = 90_000
min_interval (u ∷ us) = interval_after u.dts us

-- the size of the largest unit in bytes, with what its marks take
unfoldable pub max_unit_size : List AccessUnit → ℕ
max_unit_size [] = 0
max_unit_size (u ∷ us) = max (length u.bytes + marks_size u.marks) (max_unit_size us)

-- the longest time from the DTS of a unit to its PTS
unfoldable pub max_pts_after : List AccessUnit → ℕ
max_pts_after [] = 0
max_pts_after (u ∷ us) = max (u.pts - u.dts) (max_pts_after us)

-- the packets of one unit of `size` bytes, whose header has at most 19 bytes and what its marks take
abbrev pub max_unit_packets : ℕ → ℕ
max_unit_packets size = (19 + size + 183) / 184

-- the most packets of `group` PES packets in a row, or of all that are left
unfoldable pub max_group : ℕ → List PesPacket → ℕ
max_group group [] = 0
max_group group (unit ∷ units) = max (packets_of_units (take group (unit ∷ units))) (max_group group units)

-- the PES packets of units, whose sizes do not depend on the stream_id
abbrev pub timed_unit : ℕ → ℕ → AccessUnit → PesPacket
timed_unit id base0 u = record { dts = u.dts; size = length (pes_packet_bytes id base0 u); front = field_size u.marks.random_access }

abbrev pub timed_units : ℕ → ℕ → List AccessUnit → List PesPacket
timed_units id base0 us = map (timed_unit id base0) us

-- the packets that units declare by groups, and by a pace in bit/s of whole packets: at least as many as the largest unit may have
abbrev pub group_packets : ℕ → ℕ → ℕ → List AccessUnit → ℕ
group_packets id base0 group us = max (max_unit_packets (max_unit_size us)) (max_group group (timed_units id base0 us))

-- the packets of each unit, and of a unit of the largest size
pub record CountedPacketsView : Type 0 where
  pub numbers : List ℕ
  pub largest : ℕ

-- no number is above `greatest`, a number of packets that a unit in memory may have
pub record AreAtMost (greatest : ℕ) (numbers : List ℕ) : Type 0 where
  pub each : All (λ n. n ≤ greatest) numbers
  pub bound : greatest ≤ 2 ^ 56

unfoldable pub counted_packets : ℕ → ℕ → List AccessUnit → CountedPacketsView
counted_packets id base0 us = record { numbers = map packets_of_unit (timed_units id base0 us); largest = max_unit_packets (max_unit_size us) }

abbrev pub burst_packets : ℕ → ℕ → ℕ → List AccessUnit → ℕ
burst_packets id base0 pace us = max (max_unit_packets (max_unit_size us)) (div_ceil (greatest_level pace (timed_units id base0 us)) slot_units_at_1bps)

-- no more than is declared
abbrev pub AllowsUnits : Allowance → ℕ → ℕ → List AccessUnit → Type 0
AllowsUnits (Groups group most) id base0 us = group_packets id base0 group us ≤ most
AllowsUnits (Pace burst pace) id base0 us = burst_packets id base0 pace us ≤ burst
