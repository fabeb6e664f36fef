-- The transport buffer
use Rattle.std.proofs.Common.{◌≡◌, ℕ, zero, suc, ◌+◌, ◌-◌, ◌*◌, ◌<◌, ◌≤◌, max, Bool, true, List, [], ◌∷◌, ◌++◌, length, drop, refl, ap, ◌∙◌, sym, inl, inr}
use Rattle.std.proofs.Common.{arith, add-one, All}
use Rattle.std.proofs.Math.Nat.{mul-le-mul_right, le_trans}
use Rattle.std.proofs.lemmas.Bool.{cases_Bool}
use Rattle.std.proofs.lemmas.List.{take_at, drop_at}
use Rattle.std.proofs.lemmas.List.Elements.{All-nil, All-head, All-tail, All-append, All-drop, All-weaker}
use Rattle.clock27.specs.Arrival.{bytes_from, arrivals}
use Rattle.clock27.specs.Departure.{departures, last_left}
use Rattle.clock27.specs.Fullness.{Stays}
use Rattle.clock27.proofs.Departures.{departures-append, length-departures, last_packet, rising}
use Rattle.clock27.proofs.Fullness.{room_law}
use Rattle.own_slots.specs.Slots.{Rises}
use Rattle.own_slots.specs.Work.{BoundsWork}
use Rattle.unit_timing.specs.Schedule.{Packet}
use Rattle.unit_timing.specs.Transport.{slots_of, of_payloads, pes_left, RoomLaw, LeftLaw}

-- A last departure lies within the work bound at slot s.
abbrev pub Level : ℕ → (ℕ → ℕ) → ℕ → ℕ → Type 0
Level r W s prev = prev ≤ 188 * s * r + W s

-- A last departure within the bound stays within it at the next slot.
level_next : (own : ℕ → Bool) (rate r room peak : ℕ) (W : ℕ → ℕ) (s prev : ℕ) → BoundsWork own rate r room peak W → Level r W s prev → Level r W (suc s) prev
level_next own rate r room peak W s prev b h = rw (← add-one s)
    (elim (cases_Bool (own s)) [
      | inl y ↦ omega (arith, h, (b s).busy y)
      | inr n ↦ omega (arith, h, (b s).idle n)
    ])

-- A last departure within the bound stays within it at each later slot.
level_more : (own : ℕ → Bool) (rate r room peak : ℕ) (W : ℕ → ℕ) (k s prev : ℕ) → BoundsWork own rate r room peak W → Level r W s prev → Level r W (s + k) prev
level_more own rate r room peak W zero s prev b h = let e : s + 0 ≡ s = omega arith in rw e h
level_more own rate r room peak W (suc k) s prev b h =
    let e : s + suc k ≡ suc (s + k) = omega arith in
    rw e (level_next own rate r room peak W (s + k) prev b (level_more own rate r room peak W k s prev b h))

pub level_le : (own : ℕ → Bool) (rate r room peak : ℕ) (W : ℕ → ℕ) (s t prev : ℕ) → BoundsWork own rate r room peak W → s ≤ t → Level r W s prev →
    Level r W t prev
level_le own rate r room peak W s t prev b le h =
    let e : s + (t - s) ≡ t = omega arith in
    rw e at (level_more own rate r room peak W (t - s) s prev b h)

-- The last byte of a packet in an own slot leaves within the bound at the next slot.
pub level_packet : (own : ℕ → Bool) (rate r room peak : ℕ) (W : ℕ → ℕ) (s prev : ℕ) → BoundsWork own rate r room peak W → own s ≡ true → Level r W s prev →
    Level r W (suc s) (last_left rate prev (bytes_from r (188 * s) 188))
level_packet own rate r room peak W s prev b y h = rw (← add-one s) (omega (arith, h, (b s).busy y, last_packet rate prev r (188 * s) 188))

-- The last byte of a packet in an own slot leaves within the greatest work.
peak_packet : (own : ℕ → Bool) (rate r room peak : ℕ) (W : ℕ → ℕ) (s prev e : ℕ) → BoundsWork own rate r room peak W → own s ≡ true → Level r W s prev → s < e →
    last_left rate prev (bytes_from r (188 * s) 188) ≤ 188 * r * e + peak
peak_packet own rate r room peak W s prev e b y h lt =
    omega (arith, h, (b s).peaks y, last_packet rate prev r (188 * s) 188, mul-le-mul_right (188 * r) lt)

pub length-bytes_from : (r i n : ℕ) → length (bytes_from r i n) ≡ n
unfolding bytes_from
length-bytes_from r i zero = refl
length-bytes_from r i (suc n) = ap suc (length-bytes_from r (suc i) n)

pub stays-append : (wait : ℕ) (ts ds ts' ds' : List ℕ) → length ts ≡ length ds → Stays wait ts ds → Stays wait ts' ds' → Stays wait (ts ++ ts') (ds ++ ds')
unfolding Stays
stays-append wait [] [] ts' ds' e h h' = h'
stays-append wait [] (d ∷ ds) ts' ds' e h h' = cc
stays-append wait (t ∷ ts) [] ts' ds' e h h' = cc
stays-append wait (t ∷ ts) (d ∷ ds) ts' ds' e h h' = (h.0, stays-append wait ts ds ts' ds' (cc) h.1 h')

-- The bytes of one packet stay within the room, if the packet fits after the bytes that are there.
packet_stays : (rate r room i n prev : ℕ) → prev + n * rate ≤ i * r + room * rate → n * rate ≤ room * rate →
    Stays (room * rate) (bytes_from r i n) (departures rate prev (bytes_from r i n))
unfolding bytes_from departures Stays
packet_stays rate r room i zero prev fits few = tt
packet_stays rate r room i (suc n) prev fits few =
    (omega (arith, fits, few), packet_stays rate r room (suc i) n (max (i * r) prev + rate) (omega (arith, fits, few)) (omega (arith, few)))

all_stay : (own : ℕ → Bool) (rate r room peak : ℕ) (W : ℕ → ℕ) (slots : List ℕ) (from prev : ℕ) → BoundsWork own rate r room peak W → Rises own from slots →
    Level r W from prev →
    Stays (room * rate) (arrivals r slots) (departures rate prev (arrivals r slots))
unfolding arrivals Rises
all_stay own rate r room peak W [] from prev b rises h = unfold Stays in tt
all_stay own rate r room peak W (s ∷ slots) from prev b rises h =
    let here = level_le own rate r room peak W from s prev b rises.0 h in
    let one = packet_stays rate r room (188 * s) 188 prev (omega (arith, here, (b s).fits rises.1)) (omega (arith, (b s).fits rises.1)) in
    let rest = all_stay own rate r room peak W slots (suc s) (last_left rate prev (bytes_from r (188 * s) 188)) b rises.2
    (level_packet own rate r room peak W s prev b rises.1 here) in
    rw (departures-append rate prev (bytes_from r (188 * s) 188) (arrivals r slots))
    (stays-append (room * rate) (bytes_from r (188 * s) 188) (departures rate prev (bytes_from r (188 * s) 188)) _ _
    (sym (length-departures rate prev (bytes_from r (188 * s) 188))) one rest)

pub transport_room : RoomLaw
transport_room own rate r room peak W slots x pos b rises =
    let start : Level r W 0 0 = omega arith in
    room_law x rate room (arrivals r slots) pos (all_stay own rate r room peak W slots 0 0 b rises start)

-- The departures of one packet, and of the packets after it
pub pes_left-cons : (rate r prev : ℕ) (p : Packet) (packets : List Packet) → pes_left rate r prev (p ∷ packets)
    ≡ drop (188 - p.size) (departures rate prev (bytes_from r (188 * p.slot) 188))
    ++ pes_left rate r (last_left rate prev (bytes_from r (188 * p.slot) 188)) packets
unfolding of_payloads arrivals
pes_left-cons rate r prev p packets =
    let first = bytes_from r (188 * p.slot) 188 in
    let many : length (departures rate prev first) ≡ 188 = length-departures rate prev first ∙ length-bytes_from r (188 * p.slot) 188 in
    rw (
      departures-append rate prev first (arrivals r (slots_of packets)),
      take_at (departures rate prev first) (departures rate (last_left rate prev first) (arrivals r (slots_of packets))) 188 many,
      drop_at (departures rate prev first) (departures rate (last_left rate prev first) (arrivals r (slots_of packets))) 188 many,
    ) refl

pub left_by : (own : ℕ → Bool) (rate r room peak : ℕ) (W : ℕ → ℕ) (e : ℕ) (packets : List Packet) (from prev : ℕ) → BoundsWork own rate r room peak W →
    Rises own from (slots_of packets) → Level r W from prev → All (λ p. p.slot < e) packets → All (λ d. d ≤ 188 * r * e + peak) (pes_left rate r prev packets)
unfolding Rises
left_by own rate r room peak W e [] from prev b rises h before = unfold of_payloads in All-nil (λ d. d ≤ 188 * r * e + peak)
left_by own rate r room peak W e (p ∷ packets) from prev b rises h before =
    let here = level_le own rate r room peak W from p.slot prev b rises.0 h in
    let first = bytes_from r (188 * p.slot) 188 in
    let last = peak_packet own rate r room peak W p.slot prev e b rises.1 here (All-head (λ p. p.slot < e) p packets before) in
    rw (pes_left-cons rate r prev p packets)
    (All-append (λ d. d ≤ 188 * r * e + peak) (drop (188 - p.size) (departures rate prev first)) (pes_left rate r (last_left rate prev first) packets)
    (All-drop (λ d. d ≤ 188 * r * e + peak) (188 - p.size) (departures rate prev first)
    (All-weaker (λ d. d ≤ last_left rate prev first) (λ d. d ≤ 188 * r * e + peak) (λ d le. le_trans le last) (departures rate prev first)
    (rising rate prev first)))
    (left_by own rate r room peak W e packets (suc p.slot) (last_left rate prev first) b rises.2
    (level_packet own rate r room peak W p.slot prev b rises.1 here)
    (All-tail (λ p. p.slot < e) p packets before)))

pub left_law : LeftLaw
left_law own rate r room peak W packets e b rises before =
    let start : Level r W 0 0 = omega arith in
    left_by own rate r room peak W e packets 0 0 b rises start before
