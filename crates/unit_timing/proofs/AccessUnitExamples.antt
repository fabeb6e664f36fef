-- Numbers of PES packets of several access units, as theorems: a wrong number fails the check.
use Rattle.std.proofs.Common.{◌≡◌, ℕ, List, [], ◌∷◌, map, replicate, refl, arith}
use Rattle.unit_timing.specs.declared.allowance.Allowance.TheVariants.{Groups, Pace}
use Rattle.unit_timing.specs.Plans.{Declaration}
use Rattle.unit_timing.specs.Conditions.{Share, bytes_waiting}
use Rattle.unit_timing.specs.AccessUnits.{FramedPacket, Followed, access_units_held, framed_fullness, framed_waiting}
use Rattle.unit_timing.specs.AccessUnits.{frame_declaration}
use Rattle.unit_timing.specs.declared.framing.FrameDeclaration.{FrameDeclaration}
use Rattle.unit_timing.specs.declared.framing.LastBytes.TheVariants.{Sums}

-- ---- A packet of three access units, due at 1,600, 1,700 and 1,800 units of 90 kHz. At 1,599 all bytes are there; each access unit is removed at its time

three : List FramedPacket
three = record { packet = record { dts = 1600; size = 590; front = 0 }; access_units = 200 ∷ 200 ∷ 190 ∷ [] } ∷ []

-- At 1,504,000 bits a second, drained at 2,000,000: the fullness at the moment of 1,599 units of 90 kHz and at the later moments, each rounded up
before_first : framed_fullness 1504000 2000000 6680266667 100 three (replicate 590 0) ≡ 590
unfolding three framed_fullness access_units_held
before_first = refl

first_removed : framed_fullness 1504000 2000000 6684444445 100 three (replicate 590 0) ≡ 390
unfolding three framed_fullness access_units_held
first_removed = refl

second_removed : framed_fullness 1504000 2000000 7102222223 100 three (replicate 590 0) ≡ 190
unfolding three framed_fullness access_units_held
second_removed = refl

all_removed : framed_fullness 1504000 2000000 7520000000 100 three (replicate 590 0) ≡ 0
unfolding three framed_fullness access_units_held
all_removed = refl

-- ---- Layer II at 192 kbit/s: five access units of 576 bytes a packet, 2,160 units of 90 kHz apart, and 14 bytes of header. A packet may arrive in a burst,
-- up to 10,800 before it is due. If packets are removed whole, at most 2,894 bytes wait; if access units are removed singly, 5,198, because a packet may
-- arrive while four access units of the previous packet wait. A main buffer of 3,584 bytes has room only for 2,894

sound : Declaration
sound = record { interval = 10800; lead = 10800; drain = 2000000; main = 3584; largest = 2894; unit_packets = 16; allowance = Pace 16 1500000 }

five : FrameDeclaration
five = frame_declaration 10800 (record { frames = 5; frame = 2160; frame_size = 576 })

most_slots : Share
most_slots = record { count = 109; period = 120; spread = 0; peak = 0 }

removed_whole : bytes_waiting 1700000 sound most_slots ≡ 2894
unfolding sound most_slots
removed_whole = refl

removed_in_turn : framed_waiting 1700000 sound five most_slots 4 ≡ 5198
unfolding sound five most_slots
removed_in_turn = refl

-- ---- AAC at 128 kbit/s and 48 kHz: packets of 8 and of 7 access units, 1,920 units of 90 kHz apart. The next packet is due 1,920 after the last access
-- unit of each packet, so two packets are 13,440 or 15,360 apart

coded : Declaration
coded = record { interval = 13440; lead = 13440; drain = 2000000; main = 3584; largest = 2819; unit_packets = 16; allowance = Groups 1 16 }

coded_slots : Share
coded_slots = record { count = 62; period = 100; spread = 0; peak = 0 }

-- The most bytes of the last 1 to 7 access units of a packet that has more
last_frames : List ℕ
last_frames = 421 ∷ 778 ∷ 1162 ∷ 1562 ∷ 1950 ∷ 2328 ∷ 2754 ∷ []

by_frames_left : FrameDeclaration
by_frames_left = record { frames = 8; frame = 1920; rest = 1920; left = Sums last_frames }

-- The same by the greatest access unit, of 430 bytes, and the least time between two packets
by_greatest : FrameDeclaration
by_greatest = frame_declaration 13440 (record { frames = 8; frame = 1920; frame_size = 430 })

numbers : List ℕ
numbers = 1 ∷ 2 ∷ 3 ∷ 4 ∷ 5 ∷ 6 ∷ 7 ∷ []

-- Packets of 8, 7 and 8 access units follow one another as declared
coded_packets : List FramedPacket
coded_packets =
    record { packet = record { dts = 20000; size = 2768; front = 0 }; access_units = 300 ∷ 340 ∷ 341 ∷ 342 ∷ 343 ∷ 340 ∷ 341 ∷ 421 ∷ [] }
    ∷ record { packet = record { dts = 35360; size = 2371; front = 0 }; access_units = 314 ∷ 340 ∷ 340 ∷ 340 ∷ 340 ∷ 340 ∷ 357 ∷ [] }
    ∷ record { packet = record { dts = 48800; size = 2768; front = 0 }; access_units = 300 ∷ 340 ∷ 341 ∷ 342 ∷ 343 ∷ 340 ∷ 341 ∷ 421 ∷ [] } ∷ []

coded_followed : Followed by_frames_left 0 coded_packets
unfolding Followed by_frames_left coded_packets
coded_followed = (omega arith, (omega arith, (omega arith, tt)))

-- When 1 to 7 access units are left, a main buffer of 3,584 bytes has room. By the greatest access unit it has none for two to five of them
coded_waiting : map (framed_waiting 300000 coded by_frames_left coded_slots) numbers ≡ 3240 ∷ 3354 ∷ 3186 ∷ 3034 ∷ 2870 ∷ 2880 ∷ 2754 ∷ []
unfolding coded coded_slots last_frames by_frames_left numbers
coded_waiting = refl

greatest_waiting : map (framed_waiting 300000 coded by_greatest coded_slots) numbers ≡ 3249 ∷ 3679 ∷ 3866 ∷ 3744 ∷ 3622 ∷ 3500 ∷ 3562 ∷ []
unfolding coded coded_slots by_greatest numbers
greatest_waiting = refl
