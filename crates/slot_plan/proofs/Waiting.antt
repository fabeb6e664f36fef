-- No byte of a unit enters the decoder more than a second before the unit's decoding time.
use Rattle.std.proofs.Common.{◌≡◌, ℕ, ◌+◌, ◌-◌, ◌*◌, ◌≤◌, Bool, List, [], ◌∷◌, ◌++◌, length, take, drop, refl, arith, All}
use Rattle.std.proofs.Math.Nat.{mul-le-mul_right}
use Rattle.std.proofs.lemmas.List.{take_at, drop_at, length-drop}
use Rattle.std.proofs.lemmas.List.Elements.{All-head, All-tail, All-drop, All-weaker}
use Rattle.clock27.specs.Arrival.{bytes_from, arrivals}
use Rattle.clock27.proofs.Departures.{row}
use Rattle.own_slots.specs.Slots.{own_slots}
use Rattle.unit_timing.specs.PesPacket.{PesPacket}
use Rattle.unit_timing.specs.Schedule.{Packet, packets_in_slots}
use Rattle.unit_timing.specs.Transport.{slots_of, of_payloads, NoneLeavesEarly}
use Rattle.unit_timing.specs.LongestStay.{WaitsAtMost}
use Rattle.unit_timing.proofs.NotEarly.{small_packets}
use Rattle.unit_timing.proofs.StayLemmas.{longest_stay_law}
use Rattle.unit_timing.proofs.TransportBuffer.{length-bytes_from}
use Rattle.slot_plan.specs.Waits.{pes_entered, longest_wait}

-- The times at which bytes enter

pes_entered-cons : (r : ℕ) (p : Packet) (packets : List Packet) →
    pes_entered r (p ∷ packets) ≡ drop (188 - p.size) (bytes_from r (188 * p.slot) 188) ++ pes_entered r packets
unfolding of_payloads arrivals
pes_entered-cons r p packets =
    let many : length (bytes_from r (188 * p.slot) 188) ≡ 188 = length-bytes_from r (188 * p.slot) 188 in
    rw (
      take_at (bytes_from r (188 * p.slot) 188) (arrivals r (slots_of packets)) 188 many,
      drop_at (bytes_from r (188 * p.slot) 188) (arrivals r (slots_of packets)) 188 many,
    ) refl

-- No byte enters before the slot of its packet begins.
entered : (r : ℕ) (packets : List Packet) → All (λ p. p.size ≤ 188) packets → NoneLeavesEarly r packets (pes_entered r packets)
unfolding NoneLeavesEarly
entered r [] few = unfold of_payloads in refl
entered r (p ∷ packets) few =
    let first = bytes_from r (188 * p.slot) 188 in
    let one = drop (188 - p.size) (bytes_from r (188 * p.slot) 188) in
    let small : p.size ≤ 188 = All-head (λ p. p.size ≤ 188) p packets few in
    let many : length one ≡ p.size = rw (length-drop (188 - p.size) first, length-bytes_from r (188 * p.slot) 188) (omega (arith, small)) in
    let all : All (λ d. 188 * p.slot * r ≤ d) one = All-drop (λ d. 188 * p.slot * r ≤ d) (188 - p.size) first (row r (188 * p.slot) 188) in
    rw (pes_entered-cons r p packets, take_at one (pes_entered r packets) p.size many, drop_at one (pes_entered r packets) p.size many)
    (many, all, entered r packets (All-tail (λ p. p.size ≤ 188) p packets few))

-- The time from the entry of bytes to their decoding

no_later : (wait longer due rate r t : ℕ) → wait ≤ longer → due ≤ t * 720000 + wait * rate * r → due ≤ t * 720000 + longer * rate * r
no_later wait longer due rate r t le at = omega (arith, at, mul-le-mul_right r (mul-le-mul_right rate le))

more_wait : (wait longer rate r : ℕ) (units : List PesPacket) (times : List ℕ) → wait ≤ longer → WaitsAtMost wait rate r units times →
    WaitsAtMost longer rate r units times
unfolding WaitsAtMost
more_wait wait longer rate r [] times le waits = tt
more_wait wait longer rate r (unit ∷ units) times le waits = (
  All-weaker (λ t. unit.dts * rate * r ≤ t * 720000 + wait * rate * r) (λ t. unit.dts * rate * r ≤ t * 720000 + longer * rate * r)
      (λ t at. no_later wait longer (unit.dts * rate * r) rate r t le at) (take unit.size times) waits.0,
  more_wait wait longer rate r units (drop unit.size times) le waits.1,
)

-- Bytes wait for at most the lead, so at most a second.
pub waits_law : (own : ℕ → Bool) (rate lead r n : ℕ) (units : List PesPacket) → lead ≤ 90000 →
    WaitsAtMost longest_wait rate r units (pes_entered r (packets_in_slots own rate lead 0 units (own_slots own 0 n)))
waits_law own rate lead r n units short =
    more_wait lead 90000 rate r units (pes_entered r (packets_in_slots own rate lead 0 units (own_slots own 0 n))) short
    (longest_stay_law own rate lead r n units (pes_entered r (packets_in_slots own rate lead 0 units (own_slots own 0 n)))
    (entered r (packets_in_slots own rate lead 0 units (own_slots own 0 n)) (small_packets own rate lead 0 units (own_slots own 0 n))))
