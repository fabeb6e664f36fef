-- A multiplexing buffer may leak a little slower than declared, for example if a byte takes a whole number of units of time. It needs no more room, because
-- the headers of packets, which the plan counts in its work, never enter it.
use Rattle.std.proofs.Common.{◌≡◌, ◌∙◌, sym, ℕ, zero, suc, ◌+◌, ◌-◌, ◌*◌, ◌<◌, ◌≤◌, max, Bool, true, false, List, [], ◌∷◌, ◌++◌, map, replicate, refl}
use Rattle.std.proofs.Common.{ap, ap₂, subst, inl, inr, arith, All}
use Rattle.std.proofs.Math.Nat.{mul-le-mul_left, mul-le-mul_right, mul-pos}
use Rattle.std.proofs.lemmas.Bool.{cases_lt}
use Rattle.std.proofs.lemmas.List.Elements.{All-head, All-tail}
use Rattle.clock27.specs.Arrival.{arrivals, bytes_from}
use Rattle.clock27.specs.Departure.{departures, last_left}
use Rattle.clock27.specs.Fullness.{Stays, fullness}
use Rattle.clock27.proofs.Departures.{departures-append, length-departures}
use Rattle.clock27.proofs.Fullness.{room_law}
use Rattle.clock27.proofs.Tandem.{tandem_law}
use Rattle.own_slots.specs.Slots.{Rises}
use Rattle.own_slots.specs.Work.{BoundsWork}
use Rattle.own_slots.proofs.WorkLemmas.{work_scale_law}
use Rattle.unit_timing.specs.Schedule.{Packet}
use Rattle.unit_timing.specs.Transport.{of_payloads, slots_of}
use Rattle.unit_timing.specs.VideoBuffers.{NoLater, SlowLeakLaw, multiplexing_entered}
use Rattle.unit_timing.proofs.Thinning.{payload_bytes, payloads_thin, thin}
use Rattle.unit_timing.proofs.TransportBuffer.{Level, level_le, level_packet, stays-append}

-- ---- Each byte leaves a queue some time before the room runs out

-- The bytes of one packet, after k of them have arrived: `low` is at most the time between two bytes, and at most the time that one byte takes to leave.
packet_soon : (rate r low room less i n k prev : ℕ) → low ≤ r → low ≤ rate → less ≤ rate → less ≤ 187 * low → n + k ≡ 188 → 188 ≤ room →
    prev + n * rate + k * low ≤ i * r + room * rate → Stays (room * rate - less) (bytes_from r i n) (departures rate prev (bytes_from r i n))
unfolding bytes_from departures Stays
packet_soon rate r low room less i zero k prev le le' few few' all room_most fits = tt
packet_soon rate r low room less i (suc n) k prev le le' few few' all room_most fits =
    let whole : 188 * rate ≤ room * rate = mul-le-mul_right rate room_most in
    let below : k * low ≤ k * rate = mul-le-mul_left k le' in
    let split : 188 * rate ≡ suc n * rate + k * rate = ap (λ (m : ℕ). m * rate) (sym all) ∙ two n k rate in
    let here : max (i * r) prev + rate ≤ i * r + (room * rate - less) = first n all fits whole in
    let next : max (i * r) prev + rate + n * rate + suc k * low ≤ suc i * r + room * rate = omega (arith, fits, le, whole, below, split) in
    (here, packet_soon rate r low room less (suc i) n (suc k) (max (i * r) prev + rate) le le' few few' (omega (arith, all)) room_most next)
  where
    two : (n k rate : ℕ) → (suc n + k) * rate ≡ suc n * rate + k * rate
    two n k rate = omega arith

    first : (m : ℕ) → suc m + k ≡ 188 → prev + suc m * rate + k * low ≤ i * r + room * rate → 188 * rate ≤ room * rate →
        max (i * r) prev + rate ≤ i * r + (room * rate - less)
    first zero all fits whole =
        let k_is : k ≡ 187 = omega (arith, all) in
        let slack : k * low ≡ 187 * low = ap (λ (m : ℕ). m * low) k_is in
        omega (arith, fits, few, few', whole, slack)
    first (suc m) all fits whole = omega (arith, fits, few, whole)

all_soon : (own : ℕ → Bool) (rate r low room less peak : ℕ) (W : ℕ → ℕ) (slots : List ℕ) (from prev : ℕ) → 0 < rate → low ≤ r → low ≤ rate → less ≤ rate →
    less ≤ 187 * low →
    BoundsWork own rate r room peak W → Rises own from slots → Level r W from prev →
    Stays (room * rate - less) (arrivals r slots) (departures rate prev (arrivals r slots))
unfolding arrivals Rises
all_soon own rate r low room less peak W [] from prev pos le le' few few' b rises h = unfold Stays in tt
all_soon own rate r low room less peak W (s ∷ slots) from prev pos le le' few few' b rises h =
    let here = level_le own rate r room peak W from s prev b rises.0 h in
    let fits = (b s).fits rises.1 in
    let row : List ℕ = bytes_from r (188 * s) 188 in
    let none : 0 * low ≡ 0 = omega arith in
    let one = packet_soon rate r low room less (188 * s) 188 0 prev le le' few few' refl (room_most fits) (omega (arith, here, fits, none)) in
    let rest = all_soon own rate r low room less peak W slots (suc s) (last_left rate prev row) pos le le' few few' b rises.2
    (level_packet own rate r room peak W s prev b rises.1 here) in
    rw (departures-append rate prev row (arrivals r slots))
    (stays-append (room * rate - less) row (departures rate prev row) _ _ (sym (length-departures rate prev row)) one rest)
  where
    room_most : W s + 188 * rate ≤ room * rate → 188 ≤ room
    room_most fits = elim (cases_lt room 188) [
      | inl under ↦ absurd (omega (arith, fits, mul-le-mul_right rate under, pos))
      | inr within ↦ within
    ]

-- ---- Some of the bytes

thin_stays : (wait : ℕ) (keeps : List Bool) (ts ds : List ℕ) → Stays wait ts ds → Stays wait (thin keeps ts) (thin keeps ds)
unfolding thin Stays
thin_stays wait [] ts ds stays = tt
thin_stays wait (true ∷ keeps) [] ds stays = tt
thin_stays wait (false ∷ keeps) [] ds stays = tt
thin_stays wait (true ∷ keeps) (t ∷ ts) [] stays = tt
thin_stays wait (false ∷ keeps) (t ∷ ts) [] stays = nothing (thin keeps ts)
  where
    nothing : (us : List ℕ) → Stays wait us []
    nothing [] = unfold Stays in tt
    nothing (u ∷ us) = unfold Stays in tt
thin_stays wait (true ∷ keeps) (t ∷ ts) (d ∷ ds) stays = (stays.0, thin_stays wait keeps ts ds stays.1)
thin_stays wait (false ∷ keeps) (t ∷ ts) (d ∷ ds) stays = thin_stays wait keeps ts ds stays.1

-- Bytes that leave no later stay no longer.
sooner_stays : (wait wait' : ℕ) (ts ds us : List ℕ) → wait ≤ wait' → NoLater ds us → Stays wait ts us → Stays wait' ts ds
unfolding NoLater Stays
sooner_stays wait wait' [] ds us le sooner stays = tt
sooner_stays wait wait' (t ∷ ts) [] us le sooner stays = tt
sooner_stays wait wait' (t ∷ ts) (d ∷ ds) [] le sooner stays = absurd sooner
sooner_stays wait wait' (t ∷ ts) (d ∷ ds) (u ∷ us) le sooner stays =
    (omega (arith, le, sooner.0, stays.0), sooner_stays wait wait' ts ds us le sooner.1 stays.1)

-- If bytes pass a first queue, where each takes `first`, and leave a second queue `first + less` later, they stay in the second at most `wait`.
second_stays : (first less wait prev : ℕ) (ts ds : List ℕ) → less ≤ wait → Stays (wait - less) ts ds →
    Stays wait (departures first prev ts) (map (λ d. d + (first + less)) ds)
unfolding departures Stays
second_stays first less wait prev [] ds le stays = tt
second_stays first less wait prev (t ∷ ts) [] le stays = tt
second_stays first less wait prev (t ∷ ts) (d ∷ ds) le stays =
    (omega (arith, le, stays.0), second_stays first less wait (max t prev + first) ts ds le stays.1)

-- ---- A slower queue of payloads

-- Payload bytes leave the slower queue at most `less` after they leave the queue of all bytes.
abbrev Soon : ℕ → ℕ → ℕ → ℕ → ℕ → List Bool → List ℕ → Type 0
Soon step slow less early prev keeps ts =
    NoLater (departures slow early (thin keeps ts)) (map (λ d. d + less) (thin keeps (departures step prev ts)))

-- If the last byte so far left the slower queue soon, so do all bytes after it.
abbrev AllSoon : ℕ → ℕ → ℕ → List Bool → Type 0
AllSoon step slow less keeps = (early prev : ℕ) (ts : List ℕ) → early ≤ prev + less → Soon step slow less early prev keeps ts

-- Header bytes take time only in the queue of all bytes.
header_soon : (step slow less n m early prev : ℕ) (keeps : List Bool) (ts : List ℕ) → early + m * step ≤ prev + less → less ≤ step → 0 < n + m →
    ((prev' : ℕ) (us : List ℕ) → early ≤ prev' → Soon step slow less early prev' keeps us) → Soon step slow less early prev (replicate n false ++ keeps) ts
unfolding thin departures NoLater
header_soon step slow less zero m early prev keeps ts ahead few some rest =
    rest prev ts (omega (arith, ahead, few, mul-le-mul_right step some))
header_soon step slow less (suc n) m early prev keeps [] ahead few some rest = tt
header_soon step slow less (suc n) m early prev keeps (t ∷ ts) ahead few some rest =
    header_soon step slow less n (suc m) early (max t prev + step) keeps ts (omega (arith, ahead)) few (omega arith) rest

-- Each byte of a payload loses at most `each`.
payload_soon : (step slow each less n k early prev : ℕ) (keeps : List Bool) (ts : List ℕ) → slow ≤ step + each → (n + k) * each ≤ less →
    early ≤ prev + k * each →
    AllSoon step slow less keeps → Soon step slow less early prev (replicate n true ++ keeps) ts
unfolding thin departures NoLater
payload_soon step slow each less zero k early prev keeps ts le few ahead rest = rest early prev ts (omega (arith, few, ahead))
payload_soon step slow each less (suc n) k early prev keeps [] le few ahead rest = tt
payload_soon step slow each less (suc n) k early prev keeps (t ∷ ts) le few ahead rest =
    let now : max t early + slow ≤ max t prev + step + suc k * each = omega (arith, le, ahead) in
    let some : suc k * each ≤ less = omega (arith, few) in (
      omega (arith, now, some),
      payload_soon step slow each less n (suc k) (max t early + slow) (max t prev + step) keeps ts le (omega (arith, few)) now rest,
    )

all_payloads_soon : (step slow each less : ℕ) (packets : List Packet) → slow ≤ step + each → 184 * each ≤ less → less ≤ step → All (λ p. p.size ≤ 184) packets →
    AllSoon step slow less (payload_bytes packets)
unfolding payload_bytes
all_payloads_soon step slow each less [] le few short small early prev ts ahead = unfold thin departures NoLater in tt
all_payloads_soon step slow each less (p ∷ packets) le few short small early prev ts ahead =
    let size : ℕ = p.size in
    let most : size ≤ 184 = All-head (λ p. p.size ≤ 184) p packets small in
    let n : ℕ = 188 - (188 - size) in
    let within : (n + 0) * each ≤ less = omega (arith, few, mul-le-mul_right each (count size most)) in
    let none : 0 * step ≡ 0 = omega arith in
    header_soon step slow less (188 - size) 0 early prev (replicate n true ++ payload_bytes packets) ts (omega (arith, ahead, none)) short (omega (arith, most))
    (λ prev' us free.
    payload_soon step slow each less n 0 early prev' (payload_bytes packets) us le within (omega (arith, free))
    (all_payloads_soon step slow each less packets le few short (All-tail (λ p. p.size ≤ 184) p packets small)))
  where
    count : (size : ℕ) → size ≤ 184 → 188 - (188 - size) + 0 ≤ 184
    count size most = omega (arith, most)

-- ---- The law

map_two : (a b : ℕ) (keeps : List Bool) (ds : List ℕ) → map (λ d. d + b) (thin keeps (map (λ d. d + a) ds)) ≡ thin keeps (map (λ d. d + (a + b)) ds)
unfolding thin
map_two a b [] ds = refl
map_two a b (true ∷ keeps) [] = refl
map_two a b (false ∷ keeps) [] = refl
map_two a b (true ∷ keeps) (d ∷ ds) = let e : d + a + b ≡ d + (a + b) = omega arith in ap₂ (λ (x : ℕ) (l : List ℕ). x ∷ l) e (map_two a b keeps ds)
map_two a b (false ∷ keeps) (d ∷ ds) = map_two a b keeps ds

slow_room : (own : ℕ → Bool) (rate rx rbx slow room peak : ℕ) (W : ℕ → ℕ) (packets : List Packet) (x : ℕ) → 184 ≤ rate → 0 < rx → rbx ≤ rx →
    rx * rate ≤ slow → slow ≤ rx * rate + rbx → All (λ p. p.size ≤ 184) packets → BoundsWork own rate rbx room peak W → Rises own 0 (slots_of packets) →
    184 * rbx ≤ room * (rx * rate) →
    fullness x (multiplexing_entered rate rx rbx packets) (departures slow 0 (multiplexing_entered rate rx rbx packets)) ≤ room
slow_room own rate rx rbx slow room peak W packets x fast some slower no_faster rounded small bounds rises wide =
    let step : ℕ = rx * rate in
    let first : ℕ = rbx * rate in
    let r : ℕ = rx * rbx in
    let less : ℕ = 184 * rbx in
    let ts : List ℕ = arrivals r (slots_of packets) in
    let keeps : List Bool = payload_bytes packets in
    let es : List ℕ = thin keeps (departures first 0 ts) in
    let alone : List ℕ = departures step 0 ts in
    let pos : 0 < step = mul-pos some (omega (arith, fast)) in
    let short : less ≤ step = omega (arith, mul-le-mul_left rx fast, mul-le-mul_right 184 slower) in
    let low : rbx ≤ r = omega (arith, mul-le-mul_right rbx some) in
    let scaled = work_scale_law own rate rbx room peak rx W bounds in
    let start : Level r (λ s. rx * W s) 0 0 = omega arith in
    let soon : Stays (room * step - less) ts alone =
    all_soon own step r rbx room less (rx * peak) (λ s. rx * W s) (slots_of packets) 0 0 pos low (omega (arith, short)) short (omega arith) scaled rises
    start in
    let us : List ℕ = thin keeps (map (λ d. d + (first + less)) alone) in
    let all : Stays (room * step) (departures first 0 ts) (map (λ d. d + (first + less)) alone) = second_stays first less (room * step) 0 ts alone wide soon in
    let thinned : Stays (room * step) es us = thin_stays (room * step) keeps (departures first 0 ts) (map (λ d. d + (first + less)) alone) all in
    let late : Soon step slow less 0 0 keeps (departures first 0 ts) =
    all_payloads_soon step slow rbx less packets rounded (omega arith) short small 0 0 (departures first 0 ts) (omega arith) in
    let same : map (λ d. d + less) (thin keeps (departures step 0 (departures first 0 ts))) ≡ us =
    ap (λ (l : List ℕ). map (λ d. d + less) (thin keeps l)) (tandem_law first step ts (mul-le-mul_right rate slower)) ∙ map_two first less keeps alone in
    let leaves : NoLater (departures slow 0 es) us = subst (λ (l : List ℕ). NoLater (departures slow 0 es) l) same late in
    let stays : Stays (room * slow) es (departures slow 0 es) =
    sooner_stays (room * step) (room * slow) es (departures slow 0 es) us (mul-le-mul_left room no_faster) leaves thinned in
    let fits : fullness x es (departures slow 0 es) ≤ room = room_law x slow room es (omega (arith, pos, no_faster)) stays in
    subst (λ (l : List ℕ). fullness x l (departures slow 0 l) ≤ room) (sym (payloads_thin packets (departures first 0 ts))) fits

pub slow_leak_law : SlowLeakLaw
slow_leak_law own rate rx rbx slow room peak W [] x fast some slower no_faster rounded small bounds rises = unfold of_payloads fullness departures in
    (omega arith)
slow_leak_law own rate rx rbx slow room peak W (p ∷ packets) x fast some slower no_faster rounded small bounds rises =
    let step : ℕ = rx * rate in
    let fits : rx * W p.slot + 188 * step ≤ room * step = (work_scale_law own rate rbx room peak rx W bounds p.slot).fits (unfold Rises in rises.1) in
    let short : 184 * rbx ≤ step = omega (arith, mul-le-mul_left rx fast, mul-le-mul_right 184 slower) in
    slow_room own rate rx rbx slow room peak W (p ∷ packets) x fast some slower no_faster rounded small bounds rises (omega (arith, fits, short))
