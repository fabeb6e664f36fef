-- A unit's packets, one payload after another
use Rattle.std.proofs.Common.{◌≡◌, ℕ, zero, suc, ◌+◌, ◌-◌, ◌*◌, ◌%◌, ◌<◌, ◌≤◌, Bool, true, false, List, [], ◌∷◌, ◌++◌, length, take, drop, Option, refl, sym}
use Rattle.std.proofs.Common.{ap, ◌∙◌, subst, arith, append_assoc, append-nil, cond, ◌==◌}
use Rattle.std.proofs.lemmas.Bool.{ltb-false, ne_eqb}
use Rattle.std.proofs.lemmas.List.{length-drop, drop-drop}
use Rattle.ts_packet.specs.declared.start.Start.{Start}
use Rattle.ts_packet.specs.declared.start.Start.TheVariants.{Continues}
use Rattle.ts_packet.specs.Beginnings.{start_by}
use Rattle.ts_packet.specs.Packets.{payload_packet}
use Rattle.slot_contents.specs.Contents.{packet_of}
use Rattle.pes_packet.specs.Marks.{extension_size, field_size}
use Rattle.pes_packet.specs.Payloads.{pieces, piece_count, part_of, unit_pieces}
use Rattle.pes_packet.specs.AccessUnits.{AccessUnit}
use Rattle.pes_packet.specs.Encoding.{pes_header_bytes, pes_packet_bytes, header_size, on_wire}
use Rattle.pes_packet.specs.declared.marks.Marks.{Marks}
use Rattle.pes_packet.proofs.Written.{header_sizes}
use Rattle.pes_packet.proofs.Payloads.{pieces_more, pieces_none}
use Rattle.unit_queue.specs.QueueSteps.{goes_on, part_content, payload_or_null}
use Rattle.unit_queue.proofs.PieceBytes.{field_most, part_some, start_same}
use Rattle.unit_queue.proofs.QueueSteps.{some_is}
use Rattle.mux_core.specs.Buffer.{Buffered, IsOutput, Took}
use Rattle.mux_core.specs.Formats.{formatted, formatted_all}
use Rattle.mux_core.proofs.Written.{took_longer}
use Rattle.mux_core.specs.PidPackets.{payload_packets}

-- The remaining payloads of a unit after `at` of its packets were sent
unfoldable pub left_pieces : Bool → ℕ → List ℕ → List (List ℕ)
left_pieces access zero pes = unit_pieces access pes
left_pieces access (suc n) pes = pieces (drop (184 * suc n - field_size access) pes)

-- A payload and the payloads after it, by their numbers and places
payloads_by : (pes : List ℕ) (m n a b c d : ℕ) → m ≡ n → a ≡ b → c ≡ d →
    ◌≡◌ {A = List (List ℕ)} (take m (drop a pes) ∷ pieces (drop c pes)) (take n (drop b pes) ∷ pieces (drop d pes))
payloads_by pes m n a b c d e f g = rw (e, f, g) refl

first_left : (access : Bool) (pes : List ℕ) → 0 < length pes →
    unit_pieces access pes ≡ part_of (field_size access) (184 * zero) pes ∷ pieces (drop (184 * suc zero - field_size access) pes)
unfolding unit_pieces
first_left true pes some =
    payloads_by pes 182 (184 - (2 - 184 * zero)) 0 (184 * zero - 2) 182 (184 * suc zero - 2) (omega arith) (omega arith) (omega arith)
first_left false pes some =
    pieces_more pes some
    ∙ payloads_by pes 184 (184 - (0 - 184 * zero)) 0 (184 * zero - 0) 184 (184 * suc zero - 0) (omega arith) (omega arith) (omega arith)

-- The remaining payloads are the next payload and the payloads after it.
left_more : (access : Bool) (at : ℕ) (pes : List ℕ) → 0 < length pes → 184 * at < field_size access + length pes →
    left_pieces access at pes ≡ part_of (field_size access) (184 * at) pes ∷ left_pieces access (suc at) pes
unfolding left_pieces
left_more access zero pes some inside = first_left access pes some
left_more access (suc n) pes some inside =
    let few : field_size access ≤ 2 = field_most access in
    let rest = drop (184 * suc n - field_size access) pes in
    let more : 0 < length (drop (184 * suc n - field_size access) pes) = omega (arith, inside, few, length-drop (184 * suc n - field_size access) pes) in
    let room : 184 ≡ 184 - (field_size access - 184 * suc n) = omega (arith, few) in
    let next : (184 * suc n - field_size access) + 184 ≡ 184 * suc (suc n) - field_size access = omega (arith, few) in
    pieces_more rest more
    ∙ ap (λ (t : List ℕ). take 184 (drop (184 * suc n - field_size access) pes) ∷ pieces t) (drop-drop 184 (184 * suc n - field_size access) pes)
    ∙ payloads_by pes 184 (184 - (field_size access - 184 * suc n)) (184 * suc n - field_size access) (184 * suc n - field_size access)
    ((184 * suc n - field_size access) + 184) (184 * suc (suc n) - field_size access) room refl next

-- If no bytes remain, no payloads remain.
left_none : (access : Bool) (at : ℕ) (pes : List ℕ) → field_size access + length pes ≤ 184 * suc at → left_pieces access (suc at) pes ≡ []
unfolding left_pieces
left_none access at pes short =
    pieces_none (drop (184 * suc at - field_size access) pes)
    (omega (arith, short, field_most access, length-drop (184 * suc at - field_size access) pes))

packets_more : (pid number : ℕ) (start : Start) (access : Bool) (at : ℕ) (pes : List ℕ) → 0 < length pes → 184 * at < field_size access + length pes
    → payload_packets pid start number (left_pieces access at pes)
    ≡ payload_packet pid start (number % 16) (part_of (field_size access) (184 * at) pes) ∷ payload_packets pid Continues (number + 1)
    (left_pieces access (suc at) pes)
unfolding payload_packets
packets_more pid number start access at pes some inside = rw (left_more access at pes some inside) refl

packets_none : (pid number : ℕ) (start : Start) (access : Bool) (at : ℕ) (pes : List ℕ) → field_size access + length pes ≤ 184 * suc at
    → payload_packets pid start number (left_pieces access (suc at) pes) ≡ []
unfolding payload_packets
packets_none pid number start access at pes short = rw (left_none access at pes short) refl

-- A part that has bytes is a packet with this payload.
piece_is : (pid counter number : ℕ) (start : Start) (bytes packet : List ℕ) → 0 < length bytes → counter ≡ number % 16
    → packet ≡ packet_of (payload_or_null pid counter start bytes) → packet ≡ payload_packet pid start (number % 16) bytes
unfolding packet_of
piece_is pid counter number start bytes packet some count is =
    let same : counter % 16 ≡ number % 16 = omega (arith, count) in
    is ∙ ap packet_of (some_is pid counter start bytes some) ∙ ap (λ (c : ℕ). payload_packet pid start c bytes) same

-- Some packets of a unit were sent, and `sent` bytes with them.
pub record PartWay (pid number : ℕ) (hex access : Bool) (pes : List ℕ) (sent counter : ℕ) (start now : Option (List ℕ)) (packets : Buffered)
    (all : List ℕ) : Type 0 where
  pub at : ℕ
  pub written : List ℕ
  pub some : 0 < length pes
  pub sent_is : sent ≡ 184 * at
  pub counter_is : counter ≡ (number + at) % 16
  pub output_is : written ++ formatted_all hex (payload_packets pid (start_by (at == 0) access) (number + at) (left_pieces access at pes))
      ≡ all ++ formatted_all hex (payload_packets pid (start_by true access) number (unit_pieces access pes))
  pub holds : IsOutput start now packets written

pub part_start : (pid number : ℕ) (hex access : Bool) (pes : List ℕ) (counter : ℕ) (start now : Option (List ℕ)) (packets : Buffered) (all : List ℕ)
    → 0 < length pes → IsOutput start now packets all → counter ≡ number % 16 → PartWay pid number hex access pes 0 counter start now packets all
unfolding left_pieces
part_start pid number hex access pes counter start now packets all some h e =
    let none : number + 0 ≡ number = omega arith in
    record {
      at = 0;
      written = all;
      some = some;
      sent_is = omega arith;
      counter_is = e ∙ ap (λ (n : ℕ). n % 16) (sym none);
      output_is = rw none refl;
      holds = h;
    }

-- The next packet
packet_is : (pid counter : ℕ) (access : Bool) (pes packet : List ℕ) (sent at : ℕ) → sent ≡ 184 * at →
    packet ≡ packet_of (part_content pid counter access pes sent)
    → packet ≡ packet_of (payload_or_null pid counter (start_by (at == 0) access) (part_of (field_size access) (184 * at) pes))
packet_is pid counter access pes packet sent at e is =
    is ∙ ap (λ (s : ℕ). packet_of (part_content pid counter access pes s)) e
    ∙ ap (λ (b : Bool). packet_of (payload_or_null pid counter (start_by b access) (part_of (field_size access) (184 * at) pes))) (start_same at)

-- The output so far, the next packet and the packets after it
part_output : (pid number : ℕ) (hex now_hex access : Bool) (pes packet : List ℕ) (sent counter : ℕ) (start now : Option (List ℕ)) (packets : Buffered)
    (all : List ℕ)
    (w : PartWay pid number hex access pes sent counter start now packets all) → sent < field_size access + length pes → now_hex ≡ hex
    → packet ≡ packet_of (part_content pid counter access pes sent)
    → (w.written ++ formatted now_hex packet) ++ formatted_all hex (payload_packets pid Continues (number + w.at + 1) (left_pieces access (suc w.at) pes))
    ≡ all ++ formatted_all hex (payload_packets pid (start_by true access) number (unit_pieces access pes))
part_output pid number hex now_hex access pes packet sent counter start now packets all w inside same is =
    let here : 184 * w.at < field_size access + length pes = omega (arith, inside, w.sent_is) in
    let part = part_of (field_size access) (184 * w.at) pes in
    let some : 0 < length (part_of (field_size access) (184 * w.at) pes) = part_some access (184 * w.at) pes w.some here in
    let first : packet ≡ payload_packet pid (start_by (w.at == 0) access) ((number + w.at) % 16) (part_of (field_size access) (184 * w.at) pes) =
    piece_is pid counter (number + w.at) (start_by (w.at == 0) access) part packet some w.counter_is
    (packet_is pid counter access pes packet sent w.at w.sent_is is) in
    let split : payload_packets pid (start_by (w.at == 0) access) (number + w.at) (left_pieces access w.at pes)
    ≡ packet ∷ payload_packets pid Continues (number + w.at + 1) (left_pieces access (suc w.at) pes) =
    packets_more pid (number + w.at) (start_by (w.at == 0) access) access w.at pes w.some here
    ∙ ap (λ (p : List ℕ). p ∷ payload_packets pid Continues (number + w.at + 1) (left_pieces access (suc w.at) pes)) (sym first) in
    rw same
    (append_assoc w.written (formatted hex packet) (formatted_all hex (payload_packets pid Continues (number + w.at + 1) (left_pieces access (suc w.at) pes)))
    ∙ ap (λ (ps : List (List ℕ)). w.written ++ formatted_all hex ps) (sym split) ∙ w.output_is)

next_of : (counter n m : ℕ) → counter ≡ n % 16 → m ≡ n + 1 → (counter + 1) % 16 ≡ m % 16
next_of counter n m e f = omega (arith, e, f)

-- One more packet is sent, and further packets follow.
pub part_more : (pid number : ℕ) (hex now_hex access : Bool) (pes packet : List ℕ) (sent counter next : ℕ) (start now later : Option (List ℕ))
    (packets after : Buffered) (all : List ℕ)
    (w : PartWay pid number hex access pes sent counter start now packets all) → sent < field_size access + length pes → now_hex ≡ hex
    → packet ≡ packet_of (part_content pid counter access pes sent) → next ≡ (counter + 1) % 16
    → IsOutput start later after (w.written ++ formatted now_hex packet)
    → PartWay pid number hex access pes (sent + 184) next start later after all
part_more pid number hex now_hex access pes packet sent counter next start now later packets after all w inside same is next_is holds =
    let begun : (suc w.at == 0) ≡ false = ne_eqb (suc w.at) 0 (λ e. omega (arith, e)) in
    let on : number + suc w.at ≡ number + w.at + 1 = omega arith in
    record {
      at = suc w.at;
      written = w.written ++ formatted now_hex packet;
      some = w.some;
      sent_is = omega (arith, w.sent_is);
      counter_is = next_is ∙ next_of counter (number + w.at) (number + suc w.at) w.counter_is on;
      output_is = rw (begun, on) (part_output pid number hex now_hex access pes packet sent counter start now packets all w inside same is);
      holds = holds;
    }

-- The last packet is sent.
pub part_end : (pid number : ℕ) (hex now_hex access : Bool) (pes packet : List ℕ) (sent counter next : ℕ) (start now later : Option (List ℕ))
    (packets after : Buffered) (all : List ℕ)
    (w : PartWay pid number hex access pes sent counter start now packets all) → sent < field_size access + length pes → now_hex ≡ hex
    → packet ≡ packet_of (part_content pid counter access pes sent) → next ≡ (counter + 1) % 16
    → goes_on access pes sent ≡ false
    → IsOutput start later after (w.written ++ formatted now_hex packet)
    → (next ≡ (number + piece_count (field_size access + length pes)) % 16)
    × IsOutput start later after (all ++ formatted_all hex (payload_packets pid (start_by true access) number (unit_pieces access pes)))
part_end pid number hex now_hex access pes packet sent counter next start now later packets after all w inside same is next_is last holds =
    let short : field_size access + length pes - sent ≤ 184 = ltb-false 184 (field_size access + length pes - sent) last in
    let count : number + piece_count (field_size access + length pes) ≡ number + w.at + 1 = omega (arith, w.sent_is, short, inside) in
    let none : payload_packets pid Continues (number + w.at + 1) (left_pieces access (suc w.at) pes) ≡ [] =
    packets_none pid (number + w.at + 1) Continues access w.at pes (omega (arith, w.sent_is, short)) in
    let whole : w.written ++ formatted now_hex packet ≡ all ++ formatted_all hex (payload_packets pid (start_by true access) number (unit_pieces access pes)) =
    sym (append-nil (w.written ++ formatted now_hex packet))
    ∙ ap (λ (ps : List (List ℕ)). (w.written ++ formatted now_hex packet) ++ formatted_all hex ps) (sym none)
    ∙ part_output pid number hex now_hex access pes packet sent counter start now packets all w inside same is in (
      next_is ∙ next_of counter (number + w.at) (number + piece_count (field_size access + length pes)) w.counter_is count,
      subst (λ (x : List ℕ). IsOutput start later after x) whole holds,
    )

-- The writer fails at the next packet.
pub part_failed : (pid number : ℕ) (hex now_hex access : Bool) (pes packet : List ℕ) (sent counter taken : ℕ) (start now later : Option (List ℕ))
    (packets : Buffered) (all : List ℕ)
    (w : PartWay pid number hex access pes sent counter start now packets all) → sent < field_size access + length pes → now_hex ≡ hex
    → packet ≡ packet_of (part_content pid counter access pes sent)
    → Took start later taken (w.written ++ formatted now_hex packet)
    → Took start later taken (all ++ formatted_all hex (payload_packets pid (start_by true access) number (unit_pieces access pes)))
part_failed pid number hex now_hex access pes packet sent counter taken start now later packets all w inside same is took =
    subst (λ (x : List ℕ). Took start later taken x)
    (part_output pid number hex now_hex access pes packet sent counter start now packets all w inside same is)
    (took_longer start later taken (w.written ++ formatted now_hex packet)
    (formatted_all hex (payload_packets pid Continues (number + w.at + 1) (left_pieces access (suc w.at) pes))) took)

-- The header and the bytes are the PES packet of the unit.
pub pes_is : (id : ℕ) (unit : AccessUnit) (header bytes : List ℕ) (size : ℕ) (marks : Marks) (pts dts : ℕ) → header ≡ pes_header_bytes id size marks pts dts →
    bytes ≡ unit.bytes
    → size ≡ length unit.bytes → marks ≡ unit.marks → pts ≡ unit.pts → dts ≡ unit.dts → header ++ bytes ≡ pes_packet_bytes id 0 unit
unfolding pes_packet_bytes
pes_is id unit header bytes size marks pts dts a b s m p d =
    let no_pts : unit.pts + 0 ≡ unit.pts = omega arith in
    let no_dts : unit.dts + 0 ≡ unit.dts = omega arith in
    rw (a, b, s, m, p, d, no_pts, no_dts) refl

size_some : (long b : Bool) (more : ℕ) → 0 < cond long 45 (cond b 14 19 + more)
size_some true b more = omega arith
size_some false true more = omega arith
size_some false false more = omega arith

-- A PES header is not empty.
pub header_some : (id size : ℕ) (marks : Marks) (pts dts : ℕ) → 0 < length (pes_header_bytes id size marks pts dts)
header_some id size marks pts dts =
    let long : length (pes_header_bytes id size marks pts dts) ≡ header_size marks pts dts = header_sizes id size marks pts dts in
    let some : 0 < header_size marks pts dts = size_some marks.long (on_wire pts == on_wire dts) (extension_size marks) in
    omega (arith, long, some)
