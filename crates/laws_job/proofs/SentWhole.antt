-- Units that are all due are sent whole.
use Rattle.std.proofs.Common.{◌≡◌, ◌≤◌, ℕ, ◌+◌, ◌-◌, ◌*◌, ◌==◌, Bool, true, false, if◌then◌else◌, min, List, [], ◌∷◌, ◌++◌, length, map, take, drop, All, ap}
use Rattle.std.proofs.Common.{◌∙◌, arith}
use Rattle.std.proofs.lemmas.List.{length-take, length-drop, length-append}
use Rattle.std.proofs.lemmas.List.Elements.{All-nil, All-cons, All-head, All-tail}
use Rattle.pes_packet.specs.AccessUnits.{AccessUnit}
use Rattle.pes_packet.specs.Encoding.{on_wire, pes_header_bytes, pes_packet_bytes}
use Rattle.pes_packet.specs.Marks.{extension_size}
use Rattle.pes_packet.proofs.Written.{header_sizes}
use Rattle.clock27.specs.Arrival.{arrivals}
use Rattle.clock27.specs.Departure.{departures}
use Rattle.own_slots.specs.Slots.{own_slots}
use Rattle.unit_timing.specs.PesPacket.{PesPacket}
use Rattle.unit_timing.specs.Arrived.{AllLeft}
use Rattle.unit_timing.specs.Schedule.{Packet, cut, packets_in_slots}
use Rattle.unit_timing.specs.Transport.{slots_of, of_payloads, pes_left}
use Rattle.unit_queue.specs.OwnedStreams.{OwnedStream, timed, packet_count, first_slot, end_slot}
use Rattle.laws_run.specs.Sent.{Sending}
use Rattle.laws_run.specs.Placed.{units_placed, sent_units}
use Rattle.laws_job.specs.Laws.{AllDue}

-- 1. Bytes of units and bytes of packets

unfoldable unit_bytes : List PesPacket → ℕ
unit_bytes [] = 0
unit_bytes (unit ∷ units) = unit.size + unit_bytes units

unfoldable packet_bytes : List Packet → ℕ
packet_bytes [] = 0
packet_bytes (p ∷ packets) = p.size + packet_bytes packets

more_bytes : (xs ys : List Packet) → packet_bytes (xs ++ ys) ≡ packet_bytes xs + packet_bytes ys
unfolding packet_bytes
more_bytes [] ys = omega arith
more_bytes (x ∷ xs) ys = omega (arith, more_bytes xs ys)

payload_bytes : (packets : List Packet) (ds : List ℕ) → length (of_payloads packets ds) ≤ packet_bytes packets
unfolding of_payloads packet_bytes
payload_bytes [] ds = omega arith
payload_bytes (p ∷ packets) ds =
    let first = drop (188 - p.size) (take 188 ds) in
    let rest = of_payloads packets (drop 188 ds) in
    omega (
      arith,
      length-append first rest,
      length-drop (188 - p.size) (take 188 ds),
      length-take 188 ds,
      payload_bytes packets (drop 188 ds),
    )

cut_bytes : (front size : ℕ) (slots : List ℕ) → packet_bytes (cut front size slots) ≡ min size (184 * length slots - front)
unfolding cut packet_bytes
cut_bytes front size [] = omega arith
cut_bytes front size (s ∷ slots) = omega (arith, cut_bytes (front - 184) (size - (184 - front)) slots)

-- A PES packet has a header.
header_some : (long same : Bool) (extension : ℕ) → 1 ≤ (if long then 45 else ((if same then 14 else 19) + extension))
header_some true same extension = omega arith
header_some false true extension = omega arith
header_some false false extension = omega arith

some_size : (l : OwnedStream) (u : AccessUnit) → 1 ≤ (timed l u).size
unfolding pes_packet_bytes
some_size l u =
    let base0 = l.parameters.base0 in
    let head = pes_header_bytes l.parameters.stream_id (length u.bytes) u.marks (u.pts + base0) (u.dts + base0) in
    omega (
      arith,
      length-append head u.bytes,
      header_sizes l.parameters.stream_id (length u.bytes) u.marks (u.pts + base0) (u.dts + base0),
      header_some u.marks.long (on_wire (u.pts + base0) == on_wire (u.dts + base0)) (extension_size u.marks),
    )

-- 2. No more bytes have left than entered

left_bytes : (rate r n : ℕ) (units : List PesPacket) (left : List ℕ) → All (λ u. u.dts * rate ≤ n * 135360000) units → AllLeft rate r n units left →
    unit_bytes units ≤ length left
unfolding AllLeft unit_bytes
left_bytes rate r n [] left due all = omega arith
left_bytes rate r n (unit ∷ units) left due all =
    let has = all.0 (All-head (λ u. u.dts * rate ≤ n * 135360000) unit units due) in
    let rest = left_bytes rate r n units (drop unit.size left) (All-tail (λ u. u.dts * rate ≤ n * 135360000) unit units due) all.1 in
    omega (arith, has.0, rest, length-drop unit.size left)

-- 3. Each unit has all its packets

-- The packets of a lane's units
abbrev packets_of : OwnedStream → ℕ → List AccessUnit → List ℕ → List Packet
packets_of l free us slots = packets_in_slots l.own l.parameters.rate l.parameters.lead free (map (timed l) us) slots

first_bytes : (l : OwnedStream) (free : ℕ) (u : AccessUnit) (us : List AccessUnit) (slots : List ℕ) →
    packet_bytes (packets_of l free (u ∷ us) slots)
    ≡ min (timed l u).size (184 * length (take (packet_count l u) (drop (first_slot l free u) slots)) - (timed l u).front)
    + packet_bytes (packets_of l (end_slot l free u) us slots)
unfolding packets_in_slots first_slot
first_bytes l free u us slots =
    let own = take (packet_count l u) (drop (first_slot l free u) slots) in
    more_bytes (cut (timed l u).front (timed l u).size own) (packets_of l (end_slot l free u) us slots)
    ∙ ap (λ (n : ℕ). n + packet_bytes (packets_of l (end_slot l free u) us slots)) (cut_bytes (timed l u).front (timed l u).size own)

no_more : (l : OwnedStream) (free : ℕ) (us : List AccessUnit) (slots : List ℕ) → packet_bytes (packets_of l free us slots) ≤ unit_bytes (map (timed l) us)
unfolding unit_bytes
no_more l free [] slots = unfold packets_in_slots in unfold packet_bytes in omega arith
no_more l free (u ∷ us) slots = omega (arith, first_bytes l free u us slots, no_more l (end_slot l free u) us slots)

-- Whether all bytes of a sent unit have packets
abbrev pub IsWhole : OwnedStream → Sending AccessUnit → Type 0
IsWhole l x = packet_count l x.item ≤ length x.packets

all_there : (l : OwnedStream) (free : ℕ) (us : List AccessUnit) (slots : List ℕ) → unit_bytes (map (timed l) us) ≤ packet_bytes (packets_of l free us slots) →
    All (IsWhole l) (units_placed l free us slots)
unfolding unit_bytes units_placed
all_there l free [] slots enough = All-nil (IsWhole l)
all_there l free (u ∷ us) slots enough =
    let own = take (packet_count l u) (drop (first_slot l free u) slots) in
    let first = first_bytes l free u us slots in
    let rest = no_more l (end_slot l free u) us slots in
    let some = some_size l u in
    All-cons (IsWhole l) (record { item = u; packets = own }) (units_placed l (end_slot l free u) us slots) (omega (arith, enough, first, rest, some))
    (all_there l (end_slot l free u) us slots (omega (arith, enough, first, rest)))

due_units : (l : OwnedStream) (n : ℕ) (us : List AccessUnit) → AllDue l.parameters.rate n us →
    All (λ u. u.dts * l.parameters.rate ≤ n * 135360000) (map (timed l) us)
due_units l n [] due = All-nil (λ (u : PesPacket). u.dts * l.parameters.rate ≤ n * 135360000)
due_units l n (u ∷ us) due =
    All-cons (λ (u : PesPacket). u.dts * l.parameters.rate ≤ n * 135360000) (timed l u) (map (timed l) us)
    (All-head (λ u. u.dts * l.parameters.rate ≤ n * 135360000) u us due)
    (due_units l n us (All-tail (λ u. u.dts * l.parameters.rate ≤ n * 135360000) u us due))

pub sent_whole : (l : OwnedStream) (r n : ℕ) (us : List AccessUnit) → AllDue l.parameters.rate n us →
    AllLeft l.parameters.rate r n (map (timed l) us)
    (pes_left l.parameters.rate r 0 (packets_in_slots l.own l.parameters.rate l.parameters.lead 0 (map (timed l) us) (own_slots l.own 0 n))) →
    All (IsWhole l) (sent_units l n us)
sent_whole l r n us due all =
    let packets = packets_of l 0 us (own_slots l.own 0 n) in
    let left = left_bytes l.parameters.rate r n (map (timed l) us) (pes_left l.parameters.rate r 0 packets) (due_units l n us due) all in
    let came = payload_bytes packets (departures l.parameters.rate 0 (arrivals r (slots_of packets))) in
    all_there l 0 us (own_slots l.own 0 n) (omega (arith, left, came))
