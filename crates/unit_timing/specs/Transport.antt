-- The transport buffer of a stream (ISO/IEC 13818-1, 2.4.2.3): all bytes of its packets enter it as they arrive, and
-- leave it at r bits a second.
use Rattle.std.specs.Prelude.{◌≡◌, ℕ, ◌+◌, ◌-◌, ◌*◌, ◌<◌, ◌≤◌, Bool, List, [], ◌∷◌, ◌++◌, length, take, drop, map, All}
use Rattle.clock27.specs.Arrival.{arrivals}
use Rattle.clock27.specs.Departure.{departures}
use Rattle.clock27.specs.Fullness.{fullness}
use Rattle.own_slots.specs.Slots.{Rises}
use Rattle.own_slots.specs.Work.{BoundsWork}
use Rattle.unit_timing.specs.Schedule.{Packet}

abbrev pub slots_of : List Packet → List ℕ
slots_of packets = map (λ p. p.slot) packets

-- from a list with an entry for each byte of these packets, the payloads' entries: the last `size` of each packet's
-- 188
unfoldable pub of_payloads : List Packet → List ℕ → List ℕ
of_payloads [] ds = []
of_payloads (p ∷ packets) ds = drop (188 - p.size) (take 188 ds) ++ of_payloads packets (drop 188 ds)

-- how many bytes it holds at the moment x, of the packets in these slots
abbrev pub tb_fullness : ℕ → ℕ → ℕ → List ℕ → ℕ
tb_fullness rate r x slots = fullness x (arrivals r slots) (departures rate 0 (arrivals r slots))

-- when the payload bytes of these packets leave the transport buffer; `prev` is when the byte before them left, 0 if
-- there is none
abbrev pub pes_left : ℕ → ℕ → ℕ → List Packet → List ℕ
pes_left rate r prev packets = of_payloads packets (departures rate prev (arrivals r (slots_of packets)))

-- these are departures of the payload bytes of these packets, one for each, and no byte leaves before its packet's slot begins:
-- whatever bytes are in the transport buffer before them, and however fast it is drained
unfoldable pub NoneLeavesEarly : ℕ → List Packet → List ℕ → Type 0
NoneLeavesEarly r [] left = left ≡ []
NoneLeavesEarly r (p ∷ packets) left =
    (length (take p.size left) ≡ p.size) × All (λ d. 188 * p.slot * r ≤ d) (take p.size left) × NoneLeavesEarly r packets (drop p.size left)

-- the departures of `pes_left` are such, and so are the departures of two lists of packets joined, as if a buffer begins empty with
-- the second list
pub record NoneLeavesEarlyLaw : Type 0 where
  pub model : (rate r prev : ℕ) (packets : List Packet) → All (λ p. p.size ≤ 188) packets → NoneLeavesEarly r packets (pes_left rate r prev packets)
  pub joined : (r : ℕ) (packets packets' : List Packet) (left left' : List ℕ) → NoneLeavesEarly r packets left → NoneLeavesEarly r packets' left' →
      NoneLeavesEarly r (packets ++ packets') (left ++ left')

-- the buffer never holds more than `room` bytes, if the work fits
abbrev pub RoomLaw : Type 0
RoomLaw = (own : ℕ → Bool) (rate r room peak : ℕ) (W : ℕ → ℕ) (slots : List ℕ) (x : ℕ) → 0 < rate →
    BoundsWork own rate r room peak W → Rises own 0 slots →
    tb_fullness rate r x slots ≤ room

-- the bytes of packets before slot e have left the buffer by e's begin and the greatest work after an own slot
abbrev pub LeftLaw : Type 0
LeftLaw = (own : ℕ → Bool) (rate r room peak : ℕ) (W : ℕ → ℕ) (packets : List Packet) (e : ℕ) →
    BoundsWork own rate r room peak W → Rises own 0 (slots_of packets) → All (λ p. p.slot < e) packets →
    All (λ d. d ≤ 188 * r * e + peak) (pes_left rate r 0 packets)
