-- Departures of payload bytes, none before its packet's slot begins
use Rattle.std.proofs.Common.{◌≡◌, ℕ, ◌+◌, ◌-◌, ◌*◌, ◌≤◌, min, Bool, List, [], ◌∷◌, ◌++◌, length, take, drop, refl, ◌∙◌, sym, subst, ap, inl, inr, arith, All}
use Rattle.std.proofs.Math.Nat.{le_trans}
use Rattle.std.proofs.lemmas.Bool.{cases_lt}
use Rattle.std.proofs.lemmas.List.{take_at, drop_at, take_all, drop_all, take-take, drop-take, drop-drop, take-append-drop, take-append-le, drop-append-le}
use Rattle.std.proofs.lemmas.List.{length-take, length-drop}
use Rattle.std.proofs.lemmas.List.Elements.{All-head, All-tail, All-drop, All-weaker, All-append, All-cons, All-nil}
use Rattle.clock27.specs.Arrival.{bytes_from}
use Rattle.clock27.specs.Departure.{departures, last_left}
use Rattle.clock27.proofs.Departures.{length-departures}
use Rattle.own_slots.specs.Slots.{own_slots}
use Rattle.unit_timing.specs.PesPacket.{PesPacket, packets_of_unit}
use Rattle.unit_timing.specs.Schedule.{Packet, first_slot, cut, packets_in_slots}
use Rattle.unit_timing.specs.Transport.{of_payloads, pes_left, NoneLeavesEarly, NoneLeavesEarlyLaw}
use Rattle.unit_timing.proofs.TransportBuffer.{pes_left-cons, length-bytes_from}
use Rattle.unit_timing.proofs.PacketsInSlots.{sent_nothing}
use Rattle.unit_timing.proofs.MainBufferBytes.{packet_later}

-- ---- Which departures are not early

model : (rate r prev : ℕ) (packets : List Packet) → All (λ p. p.size ≤ 188) packets → NoneLeavesEarly r packets (pes_left rate r prev packets)
unfolding NoneLeavesEarly
model rate r prev [] few = unfold of_payloads in refl
model rate r prev (p ∷ packets) few =
    let first = bytes_from r (188 * p.slot) 188 in
    let one = drop (188 - p.size) (departures rate prev first) in
    let rest = pes_left rate r (last_left rate prev first) packets in
    let small : p.size ≤ 188 = All-head (λ p. p.size ≤ 188) p packets few in
    let many : length one ≡ p.size =
    rw (length-drop (188 - p.size) (departures rate prev first), length-departures rate prev first, length-bytes_from r (188 * p.slot) 188)
    (omega (arith, small)) in
    let all : All (λ d. 188 * p.slot * r ≤ d) one =
    All-drop (λ d. 188 * p.slot * r ≤ d) (188 - p.size) (departures rate prev first)
    (All-weaker (λ d. 188 * p.slot * r + rate ≤ d) (λ d. 188 * p.slot * r ≤ d) (λ d h. omega (arith, h)) (departures rate prev first)
    (packet_later rate r prev p.slot (188 * p.slot * r) (omega arith))) in
    rw (pes_left-cons rate r prev p packets, take_at one rest p.size many, drop_at one rest p.size many)
    (many, all, model rate r (last_left rate prev first) packets (All-tail (λ p. p.size ≤ 188) p packets few))

joined : (r : ℕ) (packets packets' : List Packet) (left left' : List ℕ) → NoneLeavesEarly r packets left → NoneLeavesEarly r packets' left' →
    NoneLeavesEarly r (packets ++ packets') (left ++ left')
unfolding NoneLeavesEarly
joined r [] packets' left left' none late = rw none late
joined r (p ∷ packets) packets' left left' late late' =
    let many : p.size ≤ length left = omega (arith, length-take p.size left, late.0) in
    rw (take-append-le p.size left left' many, drop-append-le p.size left left' many)
    (late.0, late.1, joined r packets packets' (drop p.size left) left' late.2 late')

pub none_leaves_early_law : NoneLeavesEarlyLaw
none_leaves_early_law = record { model = model; joined = joined }

-- No packet of a unit carries more than 188 bytes.
small_cut : (front size : ℕ) (slots : List ℕ) → All (λ p. p.size ≤ 188) (cut front size slots)
unfolding cut
small_cut front size [] = All-nil (λ (p : Packet). p.size ≤ 188)
small_cut front size (s ∷ slots) =
    All-cons (λ (p : Packet). p.size ≤ 188) (record { slot = s; size = min (184 - front) size }) (cut (front - 184) (size - (184 - front)) slots) (omega arith)
    (small_cut (front - 184) (size - (184 - front)) slots)

pub small_packets : (own : ℕ → Bool) (rate lead free : ℕ) (units : List PesPacket) (slots : List ℕ) →
    All (λ p. p.size ≤ 188) (packets_in_slots own rate lead free units slots)
unfolding packets_in_slots
small_packets own rate lead free [] slots = All-nil (λ (p : Packet). p.size ≤ 188)
small_packets own rate lead free (unit ∷ units) slots =
    let b = first_slot own rate lead free unit in
    let xs = take (packets_of_unit unit) (drop b slots) in
    All-append (λ (p : Packet). p.size ≤ 188) (cut unit.front unit.size xs) (packets_in_slots own rate lead (b + packets_of_unit unit) units slots)
    (small_cut unit.front unit.size xs)
    (small_packets own rate lead (b + packets_of_unit unit) units slots)

-- In a run, no departure of the model is early.
pub run_left : (own : ℕ → Bool) (rate lead r n : ℕ) (units : List PesPacket) →
    NoneLeavesEarly r (packets_in_slots own rate lead 0 units (own_slots own 0 n))
    (pes_left rate r 0 (packets_in_slots own rate lead 0 units (own_slots own 0 n)))
run_left own rate lead r n units =
    model rate r 0 (packets_in_slots own rate lead 0 units (own_slots own 0 n)) (small_packets own rate lead 0 units (own_slots own 0 n))

-- ---- The departures of one unit

-- A unit has no more departures than bytes.
pub few_left : (r front size : ℕ) (slots left : List ℕ) → NoneLeavesEarly r (cut front size slots) left → length left ≤ size
unfolding cut NoneLeavesEarly
few_left r front size [] left none = rw none (omega arith)
few_left r front size (s ∷ slots) left late =
    let rest = few_left r (front - 184) (size - (184 - front)) slots (drop (min (184 - front) size) left) late.2 in
    omega (arith, rest, length-drop (min (184 - front) size) left, length-take (min (184 - front) size) left, late.0)

-- A unit's bytes leave after its first slot has begun.
pub unit_later : (r front size low : ℕ) (slots left : List ℕ) → NoneLeavesEarly r (cut front size slots) left → All (λ s. low ≤ 188 * s * r) slots →
    All (λ d. low ≤ d) left
unfolding cut NoneLeavesEarly
unit_later r front size low [] left none all = rw none (All-nil (λ (d : ℕ). low ≤ d))
unit_later r front size low (s ∷ slots) left late all =
    let k = min (184 - front) size in
    let first : low ≤ 188 * s * r = All-head (λ s. low ≤ 188 * s * r) s slots all in
    let one : All (λ d. low ≤ d) (take k left) = All-weaker (λ d. 188 * s * r ≤ d) (λ d. low ≤ d) (λ d h. le_trans first h) (take k left) late.1 in
    let rest = unit_later r (front - 184) (size - (184 - front)) low slots (drop k left) late.2 (All-tail (λ s. low ≤ 188 * s * r) s slots all) in
    rw (take-append-drop k left) at (All-append (λ d. low ≤ d) (take k left) (drop k left) one rest)

-- ---- The departures of the later units

unfoldable bytes_of : List Packet → ℕ
bytes_of [] = 0
bytes_of (p ∷ packets) = p.size + bytes_of packets

bytes_of-cut : (front size : ℕ) (slots : List ℕ) → bytes_of (cut front size slots) ≡ min size (184 * length slots - front)
unfolding bytes_of cut
bytes_of-cut front size [] = omega arith
bytes_of-cut front size (s ∷ slots) = omega (arith, bytes_of-cut (front - 184) (size - (184 - front)) slots)

parted : (r : ℕ) (packets packets' : List Packet) (left : List ℕ) → NoneLeavesEarly r (packets ++ packets') left →
    (bytes_of packets ≤ length left) × NoneLeavesEarly r packets (take (bytes_of packets) left) × NoneLeavesEarly r packets' (drop (bytes_of packets) left)
unfolding bytes_of NoneLeavesEarly
parted r [] packets' left late = (omega arith, refl, late)
parted r (p ∷ packets) packets' left late =
    let n = bytes_of packets in
    let rest = parted r packets packets' (drop p.size left) late.2 in
    let some : p.size ≤ length left = omega (arith, length-take p.size left, late.0) in (
      omega (arith, some, rest.0, length-drop p.size left),
      rw (take-take p.size (p.size + n) left (omega arith), drop-take p.size n left) (late.0, late.1, rest.1),
      rw (← drop-drop n p.size left) rest.2,
    )

nothing_left : (r : ℕ) (left : List ℕ) → NoneLeavesEarly r [] left → left ≡ []
unfolding NoneLeavesEarly
nothing_left r left none = none

no_packets : (r : ℕ) → NoneLeavesEarly r [] []
unfolding NoneLeavesEarly
no_packets r = refl

pub unit_parts : (own : ℕ → Bool) (rate lead r n b p front size : ℕ) (units : List PesPacket) (left : List ℕ) → front + size ≤ 184 * p →
    NoneLeavesEarly r (cut front size (take p (drop b (own_slots own 0 n))) ++ packets_in_slots own rate lead (b + p) units (own_slots own 0 n)) left →
    NoneLeavesEarly r (cut front size (take p (drop b (own_slots own 0 n)))) (take size left)
    × NoneLeavesEarly r (packets_in_slots own rate lead (b + p) units (own_slots own 0 n)) (drop size left)
unit_parts own rate lead r n b p front size units left small late =
    let slots = own_slots own 0 n in
    let xs = take p (drop b slots) in
    let later = packets_in_slots own rate lead (b + p) units slots in
    let k = bytes_of (cut front size xs) in
    let parts = parted r (cut front size xs) later left late in
    let many : k ≡ min size (184 * min p (length slots - b) - front) =
    bytes_of-cut front size xs ∙ (rw (length-take p (drop b slots), length-drop b slots) refl) in
    elim (cases_lt (length slots) (b + p)) [
      | inl short ↦
          let nothing : later ≡ [] = sent_nothing own rate lead (b + p) units slots (omega arith) in
          let none : NoneLeavesEarly r [] (drop k left) = rw nothing at parts.2 in
          let over : drop k left ≡ [] = nothing_left r (drop k left) none in
          let lens : length (drop k left) ≡ 0 = ap (λ (l : List ℕ). length l) over in
          let all : length left ≤ k = omega (arith, length-drop k left, lens) in
          let all' : length left ≤ size = omega (arith, all, many) in (
            subst (λ (l : List ℕ). NoneLeavesEarly r (cut front size xs) l) (take_all k left all ∙ sym (take_all size left all')) parts.1,
            rw (nothing, drop_all size left all') (no_packets r),
          )
      | inr whole ↦
          let e : k ≡ size = omega (arith, many) in (
            subst (λ (m : ℕ). NoneLeavesEarly r (cut front size xs) (take m left)) e parts.1,
            subst (λ (m : ℕ). NoneLeavesEarly r later (drop m left)) e parts.2,
          )
    ]
