-- Numbers of small runs, as theorems: a wrong number fails the check.
use Rattle.std.proofs.Common.{◌≡◌, ℕ, Bool, true, false, nat_eq, ◌%◌, Some, None, List, [], ◌∷◌, ◌++◌, take, drop, refl}
use Rattle.clock27.specs.Arrival.{bytes_from, arrivals}
use Rattle.clock27.specs.Departure.{departures}
use Rattle.clock27.specs.Fullness.{fullness}
use Rattle.own_slots.specs.Slots.{own_before, own_slots}
use Rattle.unit_timing.specs.declared.allowance.Allowance.{Allowance}
use Rattle.unit_timing.specs.declared.allowance.Allowance.TheVariants.{Groups, Pace}
use Rattle.unit_timing.specs.PesPacket.{PesPacket, packets_of_unit, grouped}
use Rattle.unit_timing.specs.Allowances.{group_curve, pace_curve}
use Rattle.unit_timing.specs.Levels.{level_after, last_due, greatest_after, level, greatest_level, is_over}
use Rattle.unit_timing.specs.Schedule.{Packet, first_slot, cut, packets_in_slots}
use Rattle.unit_timing.specs.Transport.{of_payloads, pes_left}
use Rattle.unit_timing.specs.Arrived.{first_late}
use Rattle.unit_timing.specs.MainBuffer.{mb_fullness}
use Rattle.unit_timing.specs.SystemBuffer.{system_tb_fullness, bsys_fullness}
use Rattle.unit_timing.specs.Plans.{Declaration}
use Rattle.unit_timing.specs.Conditions.{Share, rate_needed, rate_given}

-- The PAT in slot 2 and the PMT in slot 3 at 1,504,000 bits a second: when the last byte arrives, the transport buffer holds 127 bytes.
system_transport : system_tb_fullness 1504000 1502000000 (2 ∷ 3 ∷ []) ≡ 127
unfolding arrivals bytes_from departures fullness
system_transport = refl

-- When the last byte enters the system buffer, the system buffer holds 346 bytes.
system_buffer : bsys_fullness 1504000 1883008000 (2 ∷ 3 ∷ []) ≡ 346
unfolding arrivals bytes_from departures fullness
system_buffer = refl

-- ---- A stream in every fourth slot at 1,504,000 bits a second (a slot lasts 90 units of 90 kHz); its buffer is drained at 2,000,000. An access unit of 576
-- bytes with one stamp, 1,600, makes a unit of 590 bytes, in four packets

every_fourth : ℕ → Bool
every_fourth s = nat_eq (s % 4) 0

one_unit : ℕ → List PesPacket
one_unit due = record { dts = due; size = 590; front = 0 } ∷ []

run_of : ℕ → ℕ → List Packet
run_of due n = packets_in_slots every_fourth 1504000 due 0 (one_unit due) (own_slots every_fourth 0 n)

first_run : run_of 1600 18 ≡ record { slot = 0; size = 184 } ∷ record { slot = 4; size = 184 } ∷ record { slot = 8; size = 184 } ∷ record
    { slot = 12; size = 38 } ∷ []
unfolding run_of every_fourth one_unit packets_in_slots first_slot cut own_before own_slots
first_run = refl

-- With two bytes in front the first packet carries 182 bytes; a unit of 367 bytes has three packets, a unit of 366 bytes two.
first_less : cut 2 367 (0 ∷ 4 ∷ 8 ∷ []) ≡ record { slot = 0; size = 182 } ∷ record { slot = 4; size = 184 } ∷ record { slot = 8; size = 1 } ∷ []
unfolding cut
first_less = refl

two_packets : packets_of_unit (record { dts = 0; size = 366; front = 2 }) ≡ 2
two_packets = refl

three_packets : packets_of_unit (record { dts = 0; size = 367; front = 2 }) ≡ 3
three_packets = refl

-- The transport buffer holds only the byte that arrives, for example the last.
one_byte : fullness 4886000000 (arrivals 2000000 (0 ∷ 4 ∷ 8 ∷ 12 ∷ [])) (departures 1504000 0 (arrivals 2000000 (0 ∷ 4 ∷ 8 ∷ 12 ∷ []))) ≡ 1
unfolding arrivals bytes_from departures fullness
one_byte = refl

-- When the last byte leaves the transport buffer, all 590 bytes are in the main buffer.
last_byte : take 1 (drop 589 (pes_left 1504000 2000000 0 (run_of 1600 18))) ≡ 4887504000 ∷ []
unfolding run_of every_fourth one_unit packets_in_slots first_slot cut own_before own_slots of_payloads arrivals bytes_from departures
last_byte = refl

whole_unit : mb_fullness 1504000 2000000 4887504000 (one_unit 1600) (pes_left 1504000 2000000 0 (run_of 1600 18)) ≡ 590
unfolding mb_fullness run_of every_fourth one_unit packets_in_slots first_slot cut own_before own_slots of_payloads arrivals bytes_from departures
whole_unit = refl

-- The unit is in time. With stamp 1,080 it would be late; in a run that ends before its stamp it is not due.
in_time : first_late 1504000 2000000 18 0 (one_unit 1600) (pes_left 1504000 2000000 0 (run_of 1600 18)) ≡ None
unfolding first_late run_of every_fourth one_unit packets_in_slots first_slot cut own_before own_slots of_payloads arrivals bytes_from departures
in_time = refl

late : first_late 1504000 2000000 18 0 (one_unit 1080) (pes_left 1504000 2000000 0 (run_of 1080 18)) ≡ Some 0
unfolding first_late run_of every_fourth one_unit packets_in_slots first_slot cut own_before own_slots of_payloads arrivals bytes_from departures
late = refl

not_due : first_late 1504000 2000000 11 0 (one_unit 1080) (pes_left 1504000 2000000 0 (run_of 1080 11)) ≡ None
unfolding first_late run_of every_fourth one_unit packets_in_slots first_slot cut own_before own_slots of_payloads arrivals bytes_from departures
not_due = refl

-- ---- Groups of two units with at most three packets, each unit with at most two: five units in a row have at most eight packets

five_units : grouped 2 3 2 5 ≡ 8
five_units = refl

-- If units are due 3,600 apart, five units are due within 14,400; in a little less, four units, with six packets.
five_in_time : group_curve 2 3 2 3600 14400 ≡ 8
five_in_time = refl

four_in_time : group_curve 2 3 2 3600 14399 ≡ 6
four_in_time = refl

-- ---- A burst of four packets, and then 250 packets a second, 376,000 bits: in 3,600 units of 90 kHz ten packets, in 3,599 fewer

four_and_ten : pace_curve 4 376000 3600 ≡ 14
four_and_ten = refl

four_and_nine : pace_curve 4 376000 3599 ≡ 13
four_and_nine = refl

-- A unit of four packets fills the bucket (one packet is 135,360,000). The pace empties the bucket in 1,440; after 1,439 a second such unit exceeds it by
-- 1/360 of a packet.
one_full : greatest_level 376000 (one_unit 1600) ≡ 541440000
unfolding one_unit greatest_after
one_full = refl

two_full : level 376000 (one_unit 1600 ++ one_unit 3040) ≡ 541440000
unfolding one_unit level_after
two_full = refl

too_full : level 376000 (one_unit 1600 ++ one_unit 3039) ≡ 541816000
unfolding one_unit level_after
too_full = refl

-- So a second unit is refused at 3,039, and taken at 3,040.
refused : is_over (Pace 4 376000) (one_unit 1600) (record { dts = 3039; size = 590; front = 0 }) ≡ true
unfolding one_unit level_after last_due
refused = refl

taken : is_over (Pace 4 376000) (one_unit 1600) (record { dts = 3040; size = 590; front = 0 }) ≡ false
unfolding one_unit level_after last_due
taken = refl

-- Thirty own slots of 120 at 1,504,000 bits a second carry no more than this pace, but more than six times the packets of the groups.
declared : Allowance → Declaration
declared a = record { interval = 3600; lead = 3600; drain = 2000000; main = 4000; largest = 590; unit_packets = 4; allowance = a }

quarter : Share
quarter = record { count = 30; period = 120; spread = 0; peak = 0 }

pace_needs : rate_needed (declared (Pace 4 376000)) quarter ≡ rate_given 1504000 (declared (Pace 4 376000)) quarter
unfolding declared quarter
pace_needs = refl

groups_need : rate_needed (declared (Groups 2 3)) quarter ≡ 48729600000
unfolding declared quarter
groups_need = refl

groups_get : rate_given 1504000 (declared (Groups 2 3)) quarter ≡ 324864000000
unfolding declared quarter
groups_get = refl
