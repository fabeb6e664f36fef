-- The two buffers of a video stream after its transport buffer TB: the multiplexing buffer MB and the elementary stream
-- buffer EB (ISO/IEC 13818-1, 2.4.2.3). By the leak method bytes of PES packets enter MB as they leave TB, and leave MB for
-- EB at Rbx bits a second, while EB is not full; a unit is removed from EB whole at its decoding time stamp. This file has
-- the leak if EB is never full, `LeakMethod` the leak if EB may be full.
--
-- Times are in units of 8 / (R * Rx * Rbx) seconds: byte i of the output arrives at i * Rx * Rbx, a byte takes R * Rbx to
-- leave TB and R * Rx to leave MB, and a moment x lies at or before a stamp of `due` units of 90 kHz if x * 720,000 ≤
-- due * R * (Rx * Rbx).
--
-- The bytes of a PES packet header are treated as payload: they take time to leave MB, and enter EB.
use Rattle.std.specs.Prelude.{ℕ, ◌+◌, ◌*◌, ◌<◌, ◌≤◌, Bool, List, [], ◌∷◌, map, All}
use Rattle.clock27.specs.Departure.{departures}
use Rattle.clock27.specs.Fullness.{fullness}
use Rattle.own_slots.specs.Slots.{Rises, own_slots}
use Rattle.own_slots.specs.Work.{BoundsWork}
use Rattle.unit_timing.specs.PesPacket.{PesPacket}
use Rattle.unit_timing.specs.Schedule.{Packet, packets_in_slots}
use Rattle.unit_timing.specs.Transport.{slots_of, pes_left}
use Rattle.unit_timing.specs.Deadline.{InTime}
use Rattle.unit_timing.specs.Arrived.{AllLeft}
use Rattle.unit_timing.specs.MainBuffer.{mb_fullness}

-- ---- MB

-- when the payload bytes of these packets enter MB: as they leave TB, which is drained at Rx
abbrev pub multiplexing_entered : ℕ → ℕ → ℕ → List Packet → List ℕ
multiplexing_entered rate rx rbx packets = pes_left (rbx * rate) (rx * rbx) 0 packets

-- when they leave MB, and so enter EB: at Rbx
abbrev pub multiplexing_left : ℕ → ℕ → ℕ → List Packet → List ℕ
multiplexing_left rate rx rbx packets = departures (rx * rate) 0 (multiplexing_entered rate rx rbx packets)

-- how many bytes MB holds at the moment x
abbrev pub multiplexing_fullness : ℕ → ℕ → ℕ → ℕ → List Packet → ℕ
multiplexing_fullness rate rx rbx x packets = fullness x (multiplexing_entered rate rx rbx packets) (multiplexing_left rate rx rbx packets)

-- ---- EB

-- how many bytes EB holds at the moment x: as a main buffer, each from its entry to its unit's stamp
abbrev pub elementary_fullness : ℕ → ℕ → ℕ → ℕ → List PesPacket → List Packet → ℕ
elementary_fullness rate rx rbx x units packets = mb_fullness rate (rx * rbx) x units (multiplexing_left rate rx rbx packets)

-- the bytes in MB and EB together: each byte from its entry into MB to its unit's stamp
abbrev pub video_fullness : ℕ → ℕ → ℕ → ℕ → List PesPacket → List Packet → ℕ
video_fullness rate rx rbx x units packets = mb_fullness rate (rx * rbx) x units (multiplexing_entered rate rx rbx packets)

-- ---- laws

-- the first list has as many times as the second, each no later than the one in its place there
unfoldable pub NoLater : List ℕ → List ℕ → Type 0
NoLater [] [] = Unit {0}
NoLater [] (u ∷ us) = ⊥
NoLater (t ∷ ts) [] = ⊥
NoLater (t ∷ ts) (u ∷ us) = (t ≤ u) × NoLater ts us

-- MB never holds more than `room` bytes if the work of the stream's own slots at the drain Rbx finds room for each
-- packet in `room` bytes, whichever own slots are used
abbrev pub MultiplexingLaw : Type 0
MultiplexingLaw = (own : ℕ → Bool) (rate rx rbx room peak : ℕ) (W : ℕ → ℕ) (packets : List Packet) (x : ℕ) → 0 < rate → 0 < rx → rbx ≤ rx →
    BoundsWork own rate rbx room peak W → Rises own 0 (slots_of packets) → multiplexing_fullness rate rx rbx x packets ≤ room

-- nor if it leaks a little slower: a byte takes up to 8 / (R * Rx) seconds more, and packets have headers of 4 bytes or more
abbrev pub SlowLeakLaw : Type 0
SlowLeakLaw = (own : ℕ → Bool) (rate rx rbx slow room peak : ℕ) (W : ℕ → ℕ) (packets : List Packet) (x : ℕ) → 184 ≤ rate → 0 < rx → rbx ≤ rx →
    rx * rate ≤ slow → slow ≤ rx * rate + rbx → All (λ p. p.size ≤ 184) packets → BoundsWork own rate rbx room peak W → Rises own 0 (slots_of packets) →
    fullness x (multiplexing_entered rate rx rbx packets) (departures slow 0 (multiplexing_entered rate rx rbx packets)) ≤ room

-- each byte is in EB at most the time that a byte takes to leave TB after it would leave a TB that is drained at Rbx
abbrev pub LeakLaw : Type 0
LeakLaw = (rate rx rbx : ℕ) (packets : List Packet) → rbx ≤ rx →
    NoLater (multiplexing_left rate rx rbx packets) (map (λ d. rx * d + rbx * rate) (pes_left rate rbx 0 packets))

-- so the bytes of packets before slot e are in EB by e's begin, the greatest work after an own slot, and the time that a byte takes
-- to leave TB
abbrev pub LeakedLaw : Type 0
LeakedLaw = (own : ℕ → Bool) (rate rx rbx room peak : ℕ) (W : ℕ → ℕ) (packets : List Packet) (e : ℕ) → rbx ≤ rx →
    BoundsWork own rate rbx room peak W → Rises own 0 (slots_of packets) → All (λ p. p.slot < e) packets →
    All (λ d. d ≤ rx * (188 * rbx * e + peak) + rbx * rate) (multiplexing_left rate rx rbx packets)

-- if MB leaks at least as fast as TB is drained, it never holds more than one byte
abbrev pub FastLeakLaw : Type 0
FastLeakLaw = (rate rx rbx : ℕ) (packets : List Packet) (x : ℕ) → 0 < rate → 0 < rx → rx ≤ rbx → multiplexing_fullness rate rx rbx x packets ≤ 1

-- if each unit is sent that work and the time of a byte, `rate`, before its stamp, each unit that is due is in EB whole by
-- its stamp, in a run of any length
abbrev pub WholeInTimeLaw : Type 0
WholeInTimeLaw = (own : ℕ → Bool) (rate lead rx rbx room peak : ℕ) (W : ℕ → ℕ) (units : List PesPacket) (n : ℕ) → 0 < rbx → rbx ≤ rx →
    BoundsWork own rate rbx room peak W → InTime own rate lead rbx (peak + rate) 0 units →
    AllLeft rate (rx * rbx) n units (multiplexing_left rate rx rbx (packets_in_slots own rate lead 0 units (own_slots own 0 n)))
