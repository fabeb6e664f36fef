-- The definitions of the two buffers of a video stream, applied to numbers
use Rattle.std.specs.Prelude.{option_and_then}
use Rattle.tstd_rows.specs.RoomTimes.{raised}
use Rattle.std.proofs.Common.{◌≡◌, List, [], ◌∷◌, Some, None, refl}
use Rattle.clock27.specs.Departure.{departures, last_left}
use Rattle.clock27.specs.Fullness.{fullness}
use Rattle.clock27.specs.Peak.{greatest_at, most_found}
use Rattle.unit_timing.specs.LeakMethod.{transfers}
use Rattle.tstd_rows.specs.History.{Part, arrivals_of, payload_left, until_of}
use Rattle.tstd_rows.specs.History.Part.{Passes, Carries, Begins}
use Rattle.tstd_rows.specs.VideoViewed.{leak_step, multiplexing_left, multiplexing_buffer, multiplexing_held, elementary_held, elementary_peak, removed_of}
use Rattle.tstd_rows.specs.VideoViewed.{transferred, last_transfer, last_transferred, room_left, cause_of, unit_cause, with_entry}
use Rattle.tstd_rows.specs.declared.late_causes.LateCause.TheVariants.{Multiplex, FullBuffer}

-- On the clock S is 216,000,000. MPEG-2 main level: 18,000,000 bits a second into MB, 15,000,000 out of MB. AVC and HEVC: both rates are equal. High level: a
-- leak of 15,750,000 after 96,000,000.
main_level : leak_step 216000000 18000000 15000000 ≡ 259200000
main_level = refl

same_rate : leak_step 216000000 24000000 24000000 ≡ 216000000
same_rate = refl

high_level : leak_step 216000000 96000000 15750000 ≡ 1316571429
high_level = refl

-- The two units of `Examples`, whose payload bytes leave the transport buffer at 30, 40 and 60; a byte takes 20 to leave MB
two_units : List Part
two_units =
    Carries (21 ∷ []) ∷ Passes (20 ∷ []) ∷ Begins (record { until = 45; deadline = 45 })
    ∷ Carries (2 ∷ 3 ∷ []) ∷ Passes (0 ∷ 1 ∷ []) ∷ Begins (record { until = 100; deadline = 100 }) ∷ []

leaks : multiplexing_left 10 20 two_units ≡ 50 ∷ 70 ∷ 90 ∷ []
unfolding two_units payload_left arrivals_of departures last_left
leaks = refl

-- MB holds two bytes at 40, and never more.
two_in_mb : multiplexing_held 10 20 two_units 40 ≡ 2
unfolding two_units payload_left arrivals_of departures last_left fullness
two_in_mb = refl

most_in_mb : (multiplexing_buffer 10 20 two_units).most ≡ 2
unfolding two_units payload_left arrivals_of departures last_left most_found
most_in_mb = refl

-- EB holds one byte from 50, two bytes from 70, and none after the first unit is removed; the second unit is too late to enter it.
one_in_eb : elementary_held 10 20 two_units 50 ≡ 1
unfolding two_units elementary_held until_of payload_left arrivals_of departures last_left
one_in_eb = refl

two_in_eb : elementary_held 10 20 two_units 90 ≡ 2
unfolding two_units elementary_held until_of payload_left arrivals_of departures last_left
two_in_eb = refl

none_in_eb : elementary_held 10 20 two_units 100 ≡ 0
unfolding two_units elementary_held until_of payload_left arrivals_of departures last_left
none_in_eb = refl

most_in_eb : elementary_peak 10 20 two_units ≡ 2
unfolding two_units elementary_held until_of payload_left arrivals_of departures last_left greatest_at
most_in_eb = refl

-- With an EB of one byte, the second byte of the first unit waits until the unit is removed, at 100, and the bytes after it wait too.
removed : removed_of two_units ≡ 100 ∷ 100 ∷ 45 ∷ []
unfolding two_units removed_of until_of
removed = refl

held_back : transferred 10 20 1 two_units ≡ 50 ∷ 120 ∷ 140 ∷ []
unfolding two_units removed_of until_of transfers payload_left arrivals_of departures last_left
held_back = refl

last_goes : last_transferred 10 20 1 two_units ≡ 140
unfolding two_units removed_of until_of last_transfer payload_left arrivals_of departures last_left
last_goes = refl

-- With an EB of two bytes, the third byte waits until the first unit is removed, at 100.
two_rooms : last_transferred 10 20 2 two_units ≡ 120
unfolding two_units removed_of until_of last_transfer payload_left arrivals_of departures last_left
two_rooms = refl

by_room : room_left 20 1 two_units ≡ 20 ∷ 120 ∷ 140 ∷ 160 ∷ []
unfolding two_units removed_of until_of departures
by_room = refl

-- The first unit is late because EB is full. The second unit is late because of MB alone, whatever EB does.
first_late : cause_of 100 70 120 ≡ Some FullBuffer
unfolding cause_of
first_late = refl

second_late : cause_of 45 90 140 ≡ Some Multiplex
unfolding cause_of
second_late = refl

-- A unit of three bytes with an EB of two: all its bytes are in MB by 50, and its last byte waits until the unit itself is removed, at 100
three_bytes : List Part
three_bytes = Carries (2 ∷ 3 ∷ 4 ∷ []) ∷ Passes (0 ∷ 1 ∷ []) ∷ Begins (record { until = 100; deadline = 100 }) ∷ []

over_its_buffer : last_transferred 10 20 2 three_bytes ≡ 120
unfolding three_bytes removed_of until_of last_transfer payload_left arrivals_of departures last_left
over_its_buffer = refl

over_cause : option_and_then unit_cause (with_entry (Some (record { due = record { until = 100; deadline = 100 }; bytes = 3; left = 90 })) 120) ≡ Some
    FullBuffer
unfolding with_entry cause_of
over_cause = refl

-- A unit whose bytes have not arrived is not late yet.
no_byte : with_entry (Some (record { due = record { until = 100; deadline = 100 }; bytes = 0; left = 0 })) 120
    ≡ Some (record { seen = record { due = record { until = 100; deadline = 100 }; bytes = 0; left = 0 }; entered = 0 })
unfolding with_entry
no_byte = refl

-- Raised times: 6 comes after 7, and 0 is past.
past_and_low : raised 5 (0 ∷ 7 ∷ 6 ∷ 9 ∷ []) ≡ 5 ∷ 7 ∷ 7 ∷ 9 ∷ []
unfolding raised
past_and_low = refl

in_time : cause_of 100 70 90 ≡ None
unfolding cause_of
in_time = refl
