-- The bounds of a stream's allowance, for both kinds of declaration, if the stream is in its ranges.
use Rattle.std.proofs.Common.{ℕ, ◌*◌, ◌/◌, ◌%◌, ◌^◌, ◌<◌, ◌≤◌, min, arith}
use Rattle.std.proofs.Math.Nat.{le_trans, min-le_right, div-le_self}
use Rattle.std.proofs.lemmas.Nat.{mul-le}
use Rattle.unit_timing.specs.declared.allowance.Allowance.{Allowance}
use Rattle.unit_timing.specs.declared.allowance.Allowance.TheVariants.{Groups, Pace}
use Rattle.unit_timing.specs.Allowances.{allowance_rows, packets_at_once, packets_within, steady_packets, steady_time}
use Rattle.description_parts.specs.Described.{DescribedStream}
use Rattle.description_parts.specs.Ranges.{IsAllowance, IsStream}
use Rattle.description_parts.specs.Tables.{greatest_unit_packets}

-- A unit has at least one packet, and at most the packets of 4,000,000 bytes.
pub unit_some : (s : DescribedStream) → 1 ≤ greatest_unit_packets s
unit_some s = omega arith

pub unit_few : (s : DescribedStream) → IsStream s → greatest_unit_packets s ≤ 21740
unit_few s is = omega (arith, is.most_size)

-- Bounds for any allowance in its range; n is the number of packets of the greatest unit

rows_some_of : (n : ℕ) (a : Allowance) → IsAllowance n a → 1 ≤ allowance_rows a
rows_some_of n (Groups units packets) is = is.some_units
rows_some_of n (Pace burst pace) is = omega arith

rows_most_of : (n : ℕ) (a : Allowance) → IsAllowance n a → allowance_rows a ≤ 64
rows_most_of n (Groups units packets) is = is.most_units
rows_most_of n (Pace burst pace) is = omega arith

-- A group has at most 1,391,360 packets.
group_few : (n units packets : ℕ) → packets ≤ units * n → units ≤ 64 → n ≤ 21740 → packets ≤ 1391360
group_few n units packets within most few = omega (arith, within, mul-le units n 64 21740 most few)

at_once_few_of : (n : ℕ) (a : Allowance) (m : ℕ) → IsAllowance n a → n ≤ 21740 → packets_at_once a n m ≤ 1391360
at_once_few_of n (Groups units packets) m is few = le_trans (min-le_right (m * n) packets) (group_few n units packets is.most_packets is.most_units few)
at_once_few_of n (Pace burst pace) m is few = omega (arith, is.most_burst)

within_few_of : (n : ℕ) (a : Allowance) (units lead : ℕ) → IsAllowance n a → n ≤ 21740 → units ≤ 90000 → lead ≤ 90000 → packets_within a n units lead < 2 ^ 40
within_few_of n (Groups g most) units lead is few counted near =
    let group = group_few n g most is.most_packets is.most_units few in
    let groups = mul-le (units / g) most 90000 1391360 (le_trans (div-le_self units g) counted) group in
    omega (arith, groups, group, min-le_right (units % g * n) most)
within_few_of n (Pace burst pace) units lead is few counted near = omega (arith, is.most_burst, mul-le pace lead 100000000 90000 is.most_pace near)

steady_some_of : (n : ℕ) (a : Allowance) → IsAllowance n a → 1 ≤ n → 1 ≤ steady_packets a
steady_some_of n (Groups units packets) is some = omega (arith, is.some_packets)
steady_some_of n (Pace burst pace) is some = is.some_pace

steady_few_of : (n : ℕ) (a : Allowance) → IsAllowance n a → n ≤ 21740 → steady_packets a ≤ 1391360 * 135360000
steady_few_of n (Groups units packets) is few = omega (arith, group_few n units packets is.most_packets is.most_units few)
steady_few_of n (Pace burst pace) is few = omega (arith, is.most_pace)

time_some_of : (n : ℕ) (a : Allowance) (apart : ℕ) → IsAllowance n a → 1 ≤ apart → 1 ≤ steady_time a apart
time_some_of n (Groups units packets) apart is some = omega (arith, mul-le 1 1 units apart is.some_units some)
time_some_of n (Pace burst pace) apart is some = omega arith

time_few_of : (n : ℕ) (a : Allowance) (apart : ℕ) → IsAllowance n a → apart ≤ 90000 → steady_time a apart ≤ 5760000
time_few_of n (Groups units packets) apart is few = omega (arith, mul-le units apart 64 90000 is.most_units few)
time_few_of n (Pace burst pace) apart is few = omega arith

-- Bounds for a stream

-- The number of successive units whose packets the lead covers one by one is 1 to 64.
pub rows_some : (s : DescribedStream) → IsStream s → 1 ≤ allowance_rows s.allowance
rows_some s is = rows_some_of (greatest_unit_packets s) s.allowance is.allowance

pub rows_most : (s : DescribedStream) → IsStream s → allowance_rows s.allowance ≤ 64
rows_most s is = rows_most_of (greatest_unit_packets s) s.allowance is.allowance

-- The greatest number of packets of m units is bounded.
pub at_once_few : (s : DescribedStream) (m : ℕ) → IsStream s → packets_at_once s.allowance (greatest_unit_packets s) m ≤ 1391360
at_once_few s m is = at_once_few_of (greatest_unit_packets s) s.allowance m is.allowance (unit_few s is)

-- The greatest number of packets of units that are due within a bounded time is below 2^40.
pub within_few : (s : DescribedStream) (units lead : ℕ) → IsStream s → units ≤ 90000 → lead ≤ 90000 →
    packets_within s.allowance (greatest_unit_packets s) units lead < 2 ^ 40
within_few s units lead is counted near = within_few_of (greatest_unit_packets s) s.allowance units lead is.allowance (unit_few s is) counted near

-- The numbers of packets and of time in the long run are bounded.
pub steady_some : (s : DescribedStream) → IsStream s → 1 ≤ steady_packets s.allowance
steady_some s is = steady_some_of (greatest_unit_packets s) s.allowance is.allowance (unit_some s)

pub steady_few : (s : DescribedStream) → IsStream s → steady_packets s.allowance ≤ 1391360 * 135360000
steady_few s is = steady_few_of (greatest_unit_packets s) s.allowance is.allowance (unit_few s is)

pub time_some : (s : DescribedStream) → IsStream s → 1 ≤ steady_time s.allowance s.interval
time_some s is = time_some_of (greatest_unit_packets s) s.allowance s.interval is.allowance is.some_interval

pub time_few : (s : DescribedStream) → IsStream s → steady_time s.allowance s.interval ≤ 5760000
time_few s is = time_few_of (greatest_unit_packets s) s.allowance s.interval is.allowance is.most_interval
