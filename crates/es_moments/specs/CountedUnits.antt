-- The counts of a stream's units, whose bytes need not be in one place.
use Rattle.std.specs.Prelude.{ℕ, ◌+◌, ◌-◌, ◌^◌, ◌≤◌, ◌<◌, min, max, List, [], ◌∷◌, length, map, sum, take}
use Rattle.pes_packet.specs.AccessUnits.{AccessUnit}
use Rattle.pes_packet.specs.Marks.{marks_size}
use Rattle.unit_timing.specs.PesPacket.{packets_of_unit}
use Rattle.es_moments.specs.Declaration.{CountedPacketsView, counted_packets, max_unit_packets, max_unit_size, min_interval, timed_unit}
use Rattle.es_moments.specs.UnitRuns.{UnitRunsView, UnitStep, unit_runs}
use Rattle.es_moments.specs.declared.unit_weights.UnitWeight.{UnitWeight}

-- 1. The weight of a unit: when it is due, its bytes with the bytes of its marks, and its packets

abbrev pub weight_of : ℕ → ℕ → AccessUnit → UnitWeight
weight_of id base0 u = record {
  dts = u.dts;
  size = length u.bytes + marks_size u.marks;
  packets = packets_of_unit (timed_unit id base0 u);
}

abbrev pub weights : ℕ → ℕ → List AccessUnit → List UnitWeight
weights id base0 us = map (weight_of id base0) us

-- the weight of a unit in memory
pub record IsWeight (w : UnitWeight) : Type 0 where
  pub size : w.size < 2 ^ 63 + 28
  pub packets : w.packets ≤ 2 ^ 56

-- 2. The same counts by the weight of each unit

unfoldable pub weighed_size : List UnitWeight → ℕ
weighed_size [] = 0
weighed_size (w ∷ ws) = max w.size (weighed_size ws)

unfoldable pub weighed_after : ℕ → List UnitWeight → ℕ
weighed_after before [] = 90_000
weighed_after before (w ∷ ws) = min (w.dts - before) (weighed_after w.dts ws)

unfoldable pub weighed_interval : List UnitWeight → ℕ
weighed_interval [] = 90_000
weighed_interval (w ∷ ws) = weighed_after w.dts ws

unfoldable pub weighed_steps : ℕ → List UnitWeight → List UnitStep
weighed_steps last [] = []
weighed_steps last (w ∷ ws) = record { time = w.dts - last; packets = w.packets } ∷ weighed_steps w.dts ws

abbrev pub weighed_packets : List UnitWeight → CountedPacketsView
weighed_packets ws = record { numbers = map (λ w. w.packets) ws; largest = max_unit_packets (weighed_size ws) }

abbrev pub weighed_runs : List UnitWeight → UnitRunsView
weighed_runs ws = record { steps = weighed_steps 0 ws; largest = max_unit_packets (weighed_size ws) }

-- the greatest sum of `group` numbers of packets in a row, or of all the numbers that remain; at least the number of a unit of the largest size
unfoldable pub max_row : ℕ → List ℕ → ℕ
max_row group [] = 0
max_row group (n ∷ ns) = max (sum (take group (n ∷ ns))) (max_row group ns)

abbrev pub row_packets : ℕ → CountedPacketsView → ℕ
row_packets group packets = max packets.largest (max_row group packets.numbers)

-- 3. All counts of a stream's units: how many they are, the least time between two, the size of the largest, and their packets in rows and at any pace

pub record CountedUnitsView : Type 0 where
  pub count : ℕ
  pub interval : ℕ
  pub largest : ℕ
  pub packets : CountedPacketsView
  pub runs : UnitRunsView

unfoldable pub counted_units : List AccessUnit → CountedUnitsView
counted_units us = record {
  count = length us;
  interval = min_interval us;
  largest = max_unit_size us;
  packets = counted_packets 0 0 us;
  runs = unit_runs 0 0 us;
}

unfoldable pub weighed_units : List UnitWeight → CountedUnitsView
weighed_units ws = record {
  count = length ws;
  interval = weighed_interval ws;
  largest = weighed_size ws;
  packets = weighed_packets ws;
  runs = weighed_runs ws;
}
