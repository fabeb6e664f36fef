-- Numbers of a small video stream, as theorems: a wrong number fails the check.
use Rattle.std.proofs.Common.{◌≡◌, ℕ, Bool, true, false, List, [], ◌∷◌, ◌++◌, replicate, refl}
use Rattle.clock27.specs.Arrival.{bytes_from, arrivals}
use Rattle.clock27.specs.Departure.{departures}
use Rattle.clock27.specs.Fullness.{fullness}
use Rattle.own_slots.specs.Period.{places}
use Rattle.own_slots.specs.Extremes.{greatest}
use Rattle.own_slots.specs.Gaps.{gap}
use Rattle.own_slots.specs.Work.{work_at, most_before, most_after}
use Rattle.unit_timing.specs.PesPacket.{PesPacket}
use Rattle.unit_timing.specs.Schedule.{Packet}
use Rattle.unit_timing.specs.Transport.{of_payloads}
use Rattle.unit_timing.specs.MainBuffer.{mb_fullness}
use Rattle.unit_timing.specs.VideoBuffers.{multiplexing_fullness, elementary_fullness, video_fullness}
use Rattle.unit_timing.specs.LeakMethod.{transfers, rooms_of, removed_at, latest}

-- ---- A unit of 590 bytes with one stamp, in four packets

in_slots : ℕ → ℕ → ℕ → ℕ → List Packet
in_slots a b c d = record { slot = a; size = 184 } ∷ record { slot = b; size = 184 } ∷ record { slot = c; size = 184 } ∷ record { slot = d; size = 38 } ∷ []

unit : List PesPacket
unit = record { dts = 1600; size = 590; front = 0 } ∷ []

-- Four slots in a row at 3,008,000 bits a second, TB drained at 2,000,000 and MB at 1,000,000: when the last byte of the third packet enters MB, 552 bytes
-- have entered MB; MB holds 273 and EB 279.
multiplexing : multiplexing_fullness 3008000 2000000 1000000 1696512000000000 (in_slots 0 1 2 3) ≡ 273
unfolding in_slots of_payloads arrivals bytes_from departures fullness
multiplexing = refl

elementary : elementary_fullness 3008000 2000000 1000000 1696512000000000 unit (in_slots 0 1 2 3) ≡ 279
unfolding unit in_slots of_payloads arrivals bytes_from departures mb_fullness
elementary = refl

together : video_fullness 3008000 2000000 1000000 1696512000000000 unit (in_slots 0 1 2 3) ≡ 552
unfolding unit in_slots of_payloads arrivals bytes_from departures mb_fullness
together = refl

-- If MB leaks as fast as TB is drained, MB holds only the byte that enters.
fast_leak : multiplexing_fullness 1504000 2000000 2000000 19008000000000 (in_slots 0 4 8 12) ≡ 1
unfolding in_slots of_payloads arrivals bytes_from departures fullness
fast_leak = refl

-- ---- The work of MB: four own slots of 24; the work has room in 627 bytes

four_of_24 : List Bool
four_of_24 = replicate 4 true ++ replicate 20 false

room_in_mb : most_before 3008000 1000000 0 four_of_24 ≡ 1886016000
unfolding four_of_24 greatest work_at
room_in_mb = refl

peak_of_mb : most_after 3008000 1000000 0 four_of_24 ≡ 1698016000
unfolding four_of_24 greatest work_at
peak_of_mb = refl

-- ---- The leak if EB is full: four bytes enter MB one after another, and each takes 3 to leave it. EB has room for two bytes, and its first two are removed
-- at 10, so the last two leave MB from 10 on

held_back : transfers 3 0 (bytes_from 1 0 4) (rooms_of 2 (10 ∷ 10 ∷ 20 ∷ 20 ∷ [])) ≡ 3 ∷ 6 ∷ 13 ∷ 16 ∷ []
unfolding transfers bytes_from
held_back = refl

never_held_back : transfers 3 0 (bytes_from 1 0 4) (rooms_of 4 (10 ∷ 10 ∷ 20 ∷ 20 ∷ [])) ≡ 3 ∷ 6 ∷ 9 ∷ 12 ∷ []
unfolding transfers bytes_from
never_held_back = refl

-- Each byte leaves at the later of two times: the time by MB alone, and the time by the room in EB alone.
two_queues : latest (departures 3 0 (bytes_from 1 0 4)) (departures 3 0 (rooms_of 2 (10 ∷ 10 ∷ 20 ∷ 20 ∷ []))) ≡ 3 ∷ 6 ∷ 13 ∷ 16 ∷ []
unfolding latest departures bytes_from
two_queues = refl

-- Two units, with two bytes and one byte: each byte is removed at its unit's stamp.
removed : removed_at 1504000 2000000 (record { dts = 1; size = 2; front = 0 } ∷ record { dts = 3; size = 1; front = 0 } ∷ []) ≡ 3008000000000 ∷ 3008000000000 ∷
    9024000000000 ∷ []
unfolding removed_at
removed = refl
