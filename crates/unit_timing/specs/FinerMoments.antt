-- Moments that are not whole: on a scale k times as fine the moment x is x / k on the first scale, and all arrivals and departures
-- are k times as great. Stamps keep their place: a stamp of T units of 90 kHz is at T * (k * rate) * r / 720,000.
use Rattle.std.specs.Prelude.{◌≡◌, ℕ, ◌*◌, ◌/◌, ◌<◌, ◌≤◌, List, map}
use Rattle.clock27.specs.Arrival.{arrivals}
use Rattle.clock27.specs.Departure.{departures}
use Rattle.clock27.specs.Fullness.{fullness}
use Rattle.clock27.specs.Peak.{IsPeak}
use Rattle.unit_timing.specs.PesPacket.{PesPacket}
use Rattle.unit_timing.specs.Schedule.{Packet}
use Rattle.unit_timing.specs.Transport.{tb_fullness, pes_left}
use Rattle.unit_timing.specs.MainBuffer.{mb_fullness}
use Rattle.unit_timing.specs.SystemBuffer.{system_tb_fullness, bsys_fullness}
use Rattle.unit_timing.specs.VideoBuffers.{multiplexing_fullness}

-- ---- the buffers of a stream

-- the transport buffer holds what it holds at the last whole moment
abbrev pub TransportMoments : Type 0
TransportMoments = (k rate r x : ℕ) (slots : List ℕ) → 0 < k → tb_fullness (k * rate) (k * r) x slots ≡ tb_fullness rate r (x / k) slots

-- its bytes leave it k times as late
abbrev pub LeftScaled : Type 0
LeftScaled = (k rate r : ℕ) (packets : List Packet) → pes_left (k * rate) (k * r) 0 packets ≡ map (λ d. k * d) (pes_left rate r 0 packets)

-- what the main buffer holds at a moment of the finer scale, of bytes that left the transport buffer at these times of
-- the first one
abbrev pub mb_fullness_at : ℕ → ℕ → ℕ → ℕ → List PesPacket → List ℕ → ℕ
mb_fullness_at k rate r x units left = mb_fullness (k * rate) r x units (map (λ d. k * d) left)

-- is no more than at the last whole moment
abbrev pub MainMoments : Type 0
MainMoments = (k rate r x : ℕ) (units : List PesPacket) (left : List ℕ) → 0 < k →
    mb_fullness_at k rate r x units left ≤ mb_fullness rate r (x / k) units left

-- and at a whole moment the same
abbrev pub MainWholeMoments : Type 0
MainWholeMoments = (k rate r x : ℕ) (units : List PesPacket) (left : List ℕ) → 0 < k →
    mb_fullness_at k rate r (k * x) units left ≡ mb_fullness rate r x units left

-- so the greatest fullness over all moments is the greatest over the whole moments
abbrev pub MainPeakMoments : Type 0
MainPeakMoments = (k rate r n : ℕ) (units : List PesPacket) (left : List ℕ) → 0 < k →
    IsPeak (λ x. mb_fullness rate r x units left) n → IsPeak (λ x. mb_fullness_at k rate r x units left) n

-- ---- the multiplexing buffer of a video stream; its elementary stream buffer is as a main buffer

-- when the payload bytes of these packets enter the multiplexing buffer, and when they leave it
abbrev pub multiplexing_entered_at : ℕ → ℕ → ℕ → ℕ → List Packet → List ℕ
multiplexing_entered_at k rate rx rbx packets = pes_left (k * (rbx * rate)) (k * (rx * rbx)) 0 packets

abbrev pub multiplexing_left_at : ℕ → ℕ → ℕ → ℕ → List Packet → List ℕ
multiplexing_left_at k rate rx rbx packets = departures (k * (rx * rate)) 0 (multiplexing_entered_at k rate rx rbx packets)

-- it holds what it holds at the last whole moment
abbrev pub MultiplexingMoments : Type 0
MultiplexingMoments = (k rate rx rbx x : ℕ) (packets : List Packet) → 0 < k →
    fullness x (multiplexing_entered_at k rate rx rbx packets) (multiplexing_left_at k rate rx rbx packets) ≡ multiplexing_fullness rate rx rbx (x / k) packets

-- ---- the two buffers of a program's tables

-- when the bytes of the packets with these indices arrive, leave the transport buffer, and leave the system buffer
abbrev pub system_arrivals_at : ℕ → List ℕ → List ℕ
system_arrivals_at k slots = arrivals (k * 2000000) slots

abbrev pub system_tb_left_at : ℕ → ℕ → List ℕ → List ℕ
system_tb_left_at k rate slots = departures (k * (2 * rate)) 0 (system_arrivals_at k slots)

abbrev pub bsys_left_at : ℕ → ℕ → List ℕ → List ℕ
bsys_left_at k rate slots = departures (k * (25 * rate)) 0 (system_tb_left_at k rate slots)

-- each holds what it holds at the last whole moment
abbrev pub SystemTransportMoments : Type 0
SystemTransportMoments = (k rate x : ℕ) (slots : List ℕ) → 0 < k →
    fullness x (system_arrivals_at k slots) (system_tb_left_at k rate slots) ≡ system_tb_fullness rate (x / k) slots

abbrev pub SystemBufferMoments : Type 0
SystemBufferMoments = (k rate x : ℕ) (slots : List ℕ) → 0 < k →
    fullness x (system_tb_left_at k rate slots) (bsys_left_at k rate slots) ≡ bsys_fullness rate (x / k) slots
