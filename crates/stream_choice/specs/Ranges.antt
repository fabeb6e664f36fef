-- The ranges of the numbers that a choice is made from.
use Rattle.std.specs.Prelude.{ℕ, ◌^◌, ◌≤◌, ◌&&◌, nat_le, Bool, List, length, All}
use Rattle.std.specs.List.{list_all}
use Rattle.unit_timing.specs.declared.allowance.Allowance.{Allowance}
use Rattle.unit_timing.specs.declared.allowance.Allowance.TheVariants.{Groups, Pace}
use Rattle.stream_choice.specs.declared.needs.Needs.{Needs}

-- the numbers that a description can declare for a stream
pub record IsNeeds (needs : Needs) : Type 0 where
  pub some_interval : 1 ≤ needs.interval
  pub most_interval : needs.interval ≤ 90000
  pub some_size : 1 ≤ needs.size
  pub most_size : needs.size ≤ 4000000
  pub least_rx : 64000 ≤ needs.rx
  pub most_rx : needs.rx ≤ 200000000
  pub some_main : 1 ≤ needs.main
  pub most_main : needs.main ≤ 10000000

-- a number of units in a row, and the most packets that they have together
pub record IsGroup (group packets : ℕ) : Type 0 where
  pub some_units : 1 ≤ group
  pub most_units : group ≤ 64
  pub some_packets : 1 ≤ packets
  pub most_packets : packets ≤ 2 ^ 21

-- a burst, and a pace in bits a second of whole packets
pub record IsPace (burst pace : ℕ) : Type 0 where
  pub some_burst : 1 ≤ burst
  pub most_burst : burst ≤ 100000
  pub some_pace : 1 ≤ pace
  pub most_pace : pace ≤ 100000000

abbrev pub IsAllowance : Allowance → Type 0
IsAllowance (Groups group packets) = IsGroup group packets
IsAllowance (Pace burst pace) = IsPace burst pace

-- the most packets of 1, 2, .. units in a row
pub record AreMaxPackets (max_packets : List ℕ) : Type 0 where
  pub some_groups : 1 ≤ length max_packets
  pub most_groups : length max_packets ≤ 64
  pub some_packets : All (λ packets. 1 ≤ packets) max_packets
  pub most_packets : All (λ packets. packets ≤ 2 ^ 21) max_packets

-- the same as functions
unfoldable pub is_within : ℕ → ℕ → ℕ → Bool
is_within low high n = nat_le low n && nat_le n high

unfoldable pub is_needs : Needs → Bool
is_needs needs =
    is_within 1 90000 needs.interval && is_within 1 4000000 needs.size && is_within 64000 200000000 needs.rx && is_within 1 10000000 needs.main

unfoldable pub are_max_packets : List ℕ → Bool
are_max_packets max_packets = is_within 1 64 (length max_packets) && list_all (is_within 1 (2 ^ 21)) max_packets
