-- What a decoder gets from bytes that keep their promises.
use Rattle.std.proofs.Common.{◌≡◌, ◌⊎◌, ◌≤◌, ◌<◌, ℕ, zero, suc, ◌+◌, ◌*◌, ◌/◌, ◌%◌, ◌==◌, Bool, true, false, List, [], ◌∷◌, length, map, filter, take}
use Rattle.std.proofs.Common.{drop, slice_get, option_map, Some, Ok, All, refl, sym, ap, ◌∙◌, inl, inr, arith}
use Rattle.std.specs.Prelude.{◌&&◌, not}
use Rattle.std.specs.List.{concat, enumerate_from, filter_map}
use Rattle.std.specs.Simd.{first_chunks}
use Rattle.std.proofs.Math.Nat.{mul-le-mul_right}
use Rattle.std.proofs.lemmas.Bool.{cases_Bool, eqb-true, eq-eqb, false≢true}
use Rattle.std.proofs.lemmas.List.{length-append, length-drop}
use Rattle.std.proofs.lemmas.List.Folds.{flat_map-map}
use Rattle.std.proofs.lemmas.List.Elements.{All-nil, All-cons, All-head, All-tail}
use Rattle.std.proofs.lemmas.Option.{slice_get-map}
use Rattle.pes_packet.specs.AccessUnits.{AccessUnit}
use Rattle.pes_packet.specs.Marks.{field_size}
use Rattle.ts_packet.specs.Packets.{null_view}
use Rattle.ts_packet.specs.Reading.{packet_at}
use Rattle.ts_packet.specs.PidList.{Entry, entry_of, cut_packets, entries_of, is_of_pid, pid_list, payload_of}
use Rattle.ts_packet.proofs.Again.{packet_read}
use Rattle.description_parts.specs.Described.{Described, DescribedStream}
use Rattle.description_parts.specs.Ranges.{IsInRange}
use Rattle.slot_plan.specs.declared.slot.Slot.{Slot}
use Rattle.slot_plan.specs.SlotPids.{slot_pid}
use Rattle.slot_plan.proofs.SlotPids.{slots_below}
use Rattle.unit_timing.specs.declared.multiplexing_buffer.MultiplexingBuffer.{MultiplexingBuffer}
use Rattle.unit_timing.specs.Arrived.{AllLeft}
use Rattle.unit_timing.specs.Transport.{pes_left, slots_of}
use Rattle.unit_timing.specs.VideoBuffers.{multiplexing_left}
use Rattle.slot_plan.specs.Waits.{pes_entered}
use Rattle.unit_timing.proofs.LateUnits.{late_law}
use Rattle.clock27.specs.Arrival.{arrivals}
use Rattle.clock27.specs.Departure.{departures}
use Rattle.unit_queue.specs.OwnedStreams.{OwnedStream, pes_bytes, has_access}
use Rattle.unit_queue.specs.Payloads.{all_pieces}
use Rattle.unit_queue.proofs.Leftover.{text_some}
use Rattle.tstd.specs.Carried.{packets_on, timed_pes_packets}
use Rattle.mux_core.specs.Scheduled.{Scheduled}
use Rattle.mux_core.specs.Histories.{owned_stream}
use Rattle.mux_core.specs.Headline.{StreamKept, VideoKept, IsTransportPacket, IsNamed, IsAccessAtStart}
use Rattle.mux_core.specs.Decoder.{Follow, pieces_on, cut_thing}
use Rattle.mux_core.specs.DecodedRuns.{IsDue, ArrivesInEb, StreamDecoded, DecodedLaw}
use Rattle.mux_core.proofs.DecodedPackets.{all_in_the_clear, have_clocks, has_stamps, section_comes}
use Rattle.mux_core.proofs.KnownRanges.{stream_range}
use Rattle.mux_core.proofs.RandomAccess.{access_on}
use Rattle.mux_core.proofs.PutUnits.{Sent, SentBytes, cut_one, cut_all, sent_bytes, pes_whole}
use Rattle.mux_core.proofs.UnitBytes.{unit_bytes, unit_left, unit_stays, left_few, piece_bytes}

-- Continuity counters

pub count_on : (es : List Entry) → ((j : ℕ) (e : Entry) → slice_get es j ≡ Some e → e.packet.header.continuity_counter ≡ j % 16) → Follow es
count_on es counters j e f here next =
    let one : e.packet.header.continuity_counter ≡ j % 16 = counters j e here in
    let two : f.packet.header.continuity_counter ≡ suc j % 16 = counters (suc j) f next in
    omega (arith, one, two)

-- Packets

chunk_count : (k : ℕ) (bytes : List ℕ) → length (first_chunks 188 k bytes) ≡ k
chunk_count zero bytes = refl
chunk_count (suc k) bytes = ap suc (chunk_count k (drop 188 bytes))

-- The packets of chunks; the first chunk has this index.
entries_from : ℕ → List (List ℕ) → List Entry
entries_from index chunks = filter_map (λ p. entry_of p.0 p.1 (packet_at p.1)) (enumerate_from index chunks)

all_entries : (index : ℕ) (chunks : List (List ℕ)) → All IsTransportPacket chunks → length (entries_from index chunks) ≡ length chunks
unfolding entries_from entry_of
all_entries index [] all = refl
all_entries index (chunk ∷ chunks) all =
    let first = All-head IsTransportPacket chunk chunks all in
    let read : packet_at chunk ≡ Ok first.0 = packet_read chunk first.0 first.1 in
    rw read (ap suc (all_entries (index + 1) chunks (All-tail IsTransportPacket chunk chunks all)))

each_read : (bytes : List ℕ) → All IsTransportPacket (cut_packets bytes) → length (entries_of bytes) ≡ length bytes / 188
unfolding entries_from
each_read bytes all = all_entries 0 (cut_packets bytes) all ∙ chunk_count (length bytes / 188) bytes

-- PIDs

abbrev IsKnown : Described → Entry → Type 0
IsKnown d e = (e.packet ≡ null_view) ⊎ IsNamed d e.packet

abbrev IsClear : Entry → Type 0
IsClear e = e.packet.header.transport_error_indicator ≡ false

one_clear : (d : Described) (e : Entry) → IsKnown d e → IsClear e
one_clear d e (inl null) = ap (λ p. p.header.transport_error_indicator) null
one_clear d e (inr named) = named.1

all_clear : (d : Described) (es : List Entry) → All (IsKnown d) es → All IsClear es
all_clear d [] all = All-nil IsClear
all_clear d (e ∷ es) all = All-cons IsClear e es (one_clear d e (All-head (IsKnown d) e es all)) (all_clear d es (All-tail (IsKnown d) e es all))

of_its_pid : (pid : ℕ) (e : Entry) → is_of_pid pid e.packet ≡ true → e.packet.header.pid ≡ pid
of_its_pid pid e y = eqb-true e.packet.header.pid pid (first_true (e.packet.header.pid == pid) (not e.packet.header.transport_error_indicator) y)
  where
    first_true : (a b : Bool) → (a && b) ≡ true → a ≡ true
    first_true true b y = refl
    first_true false b y = absurd (false≢true y)

one_silent : (d : Described) (pid : ℕ) (e : Entry) → (pid == 8191) ≡ false → ((slot : Slot) → slot_pid d slot ≡ Some pid → ⊥) → IsKnown d e →
    is_of_pid pid e.packet ≡ true → ⊥
one_silent d pid e other none (inl null) y =
    let here : 8191 ≡ pid = sym (ap (λ p. p.header.pid) null) ∙ of_its_pid pid e y in
    false≢true (sym other ∙ eq-eqb pid 8191 (sym here))
one_silent d pid e other none (inr named) y = none named.0.0 (named.0.1 ∙ ap Some (of_its_pid pid e y))

none_listed : (d : Described) (pid : ℕ) (es : List Entry) → (pid == 8191) ≡ false → ((slot : Slot) → slot_pid d slot ≡ Some pid → ⊥) → All (IsKnown d) es →
    filter (λ e. is_of_pid pid e.packet) es ≡ []
none_listed d pid [] other none all = refl
none_listed d pid (e ∷ es) other none all =
    let rest = none_listed d pid es other none (All-tail (IsKnown d) e es all) in
    elim (cases_Bool (is_of_pid pid e.packet)) [
      | inl y ↦ absurd (one_silent d pid e other none (All-head (IsKnown d) e es all) y)
      | inr n ↦ rw n rest
    ]

abbrev IsNull : Entry → Type 0
IsNull e = e.packet ≡ null_view

one_null : (d : Described) (e : Entry) → IsInRange d → IsKnown d e → is_of_pid 8191 e.packet ≡ true → IsNull e
one_null d e r (inl null) y = null
one_null d e r (inr named) y =
    let below : e.packet.header.pid < 8191 = slots_below d named.0.0 e.packet.header.pid r named.0.1 in
    absurd (omega (arith, below, of_its_pid 8191 e y))

null_alone : (d : Described) (es : List Entry) → IsInRange d → All (IsKnown d) es → All IsNull (filter (λ e. is_of_pid 8191 e.packet) es)
null_alone d [] r all = All-nil IsNull
null_alone d (e ∷ es) r all =
    let rest = null_alone d es r (All-tail (IsKnown d) e es all) in
    elim (cases_Bool (is_of_pid 8191 e.packet)) [
      | inl y ↦ rw y (All-cons IsNull e (filter (λ x. is_of_pid 8191 x.packet) es) (one_null d e r (All-head (IsKnown d) e es all) y) rest)
      | inr n ↦ rw n rest
    ]

-- Units

-- A unit's PES packet, and whether a decoder may begin at the unit.
abbrev sent_as : OwnedStream → AccessUnit → Sent
sent_as l u = (has_access u, pes_bytes l u)

all_cut : (l : OwnedStream) (us : List AccessUnit) → all_pieces l us ≡ cut_all (map (sent_as l) us)
all_cut l us = sym (flat_map-map cut_thing cut_one (map (sent_as l) us) ∙ flat_map-map (λ (p : Sent). cut_thing (cut_one p)) (sent_as l) us)

some_bytes : (l : OwnedStream) (us : List AccessUnit) → All SentBytes (map (sent_as l) us)
some_bytes l [] = All-nil SentBytes
some_bytes l (u ∷ us) = All-cons SentBytes (sent_as l u) (map (sent_as l) us) (omega (arith, text_some l u)) (some_bytes l us)

-- The PES packets of units, without the marks of random access.
bytes_sent : (l : OwnedStream) (us : List AccessUnit) (k : ℕ) → sent_bytes (take k (map (sent_as l) us)) ≡ take k (map (pes_bytes l) us)
bytes_sent l [] zero = refl
bytes_sent l [] (suc k) = refl
bytes_sent l (u ∷ us) zero = refl
bytes_sent l (u ∷ us) (suc k) = ap (λ (ps : List (List ℕ)). pes_bytes l u ∷ ps) (bytes_sent l us k)

with_next : (pes : List (List ℕ)) (p : List ℕ) (i : ℕ) → slice_get pes i ≡ Some p → length (concat (take (suc i) pes)) ≡ length (concat (take i pes)) + length p
with_next [] p i is = absurd (let no : ⊥ = cc in no)
with_next (x ∷ pes) p zero is = let same : x ≡ p = cc in length-append x [] ∙ ap (λ (z : List ℕ). length z + 0) same
    ∙ (let swap : length p + 0 ≡ 0 + length p = omega arith in swap)
with_next (x ∷ pes) p (suc i) is =
    omega (arith, with_next pes p i is, length-append x (concat (take (suc i) pes)), length-append x (concat (take i pes)))

-- The bytes of a due unit are in the payloads of its PID, and they have left the transport buffer.
record Came (d : Scheduled) (k : ℕ) (s : DescribedStream) (units : List AccessUnit) (i : ℕ) (u : AccessUnit) (bytes : List ℕ) : Type 0 where
  sent : length (concat (take i (map (pes_bytes (owned_stream d k s)) units))) + length (pes_bytes (owned_stream d k s) u)
      ≤ length (concat (map (λ e. payload_of e.packet) (pid_list s.pid bytes)))
  left : length (concat (take i (map (pes_bytes (owned_stream d k s)) units))) + length (pes_bytes (owned_stream d k s) u)
      ≤ length (pes_left d.description.rate s.rx 0 (packets_on s.pid bytes))
  in_time : All (λ t. t * 720000 ≤ u.dts * d.description.rate * s.rx) (take (length (pes_bytes (owned_stream d k s) u))
      (drop (length (concat (take i (map (pes_bytes (owned_stream d k s)) units)))) (pes_left d.description.rate s.rx 0 (packets_on s.pid bytes))))

came : (d : Scheduled) (k : ℕ) (s : DescribedStream) (units : List AccessUnit) (slots : ℕ) (bytes : List ℕ) (i : ℕ) (u : AccessUnit) →
    StreamKept d k s units slots bytes →
    slice_get units i ≡ Some u → IsDue d.description slots u → Came d k s units i u bytes
came d k s units slots bytes i u kept is due =
    let l = owned_stream d k s in
    let rate = d.description.rate in
    let left : List ℕ = pes_left d.description.rate s.rx 0 (packets_on s.pid bytes) in
    let all : AllLeft d.description.rate s.rx slots (timed_pes_packets s.stream_id d.description.base0 units)
    (pes_left d.description.rate s.rx 0 (packets_on s.pid bytes)) =
    late_law.all_left rate s.rx slots 0 (timed_pes_packets s.stream_id d.description.base0 units) left kept.arrived in
    let mine = unit_left (λ (x : AccessUnit). x.dts) (pes_bytes l) (λ (x : AccessUnit). field_size x.marks.random_access) rate s.rx slots units u i left all is
    due in
    let some = text_some l u in
    let enough : length (concat (take i (map (pes_bytes (owned_stream d k s)) units))) + length (pes_bytes (owned_stream d k s) u)
    ≤ length (pes_left d.description.rate s.rx 0 (packets_on s.pid bytes)) =
    omega (arith, mine.0, some, length-drop (length (concat (take i (map (pes_bytes l) units)))) left) in
    let few = left_few (pid_list s.pid bytes) (departures rate 0 (arrivals s.rx (slots_of (packets_on s.pid bytes)))) in
    record { sent = omega (arith, enough, few); left = enough; in_time = mine.1 }

in_eb : (d : Scheduled) (k : ℕ) (s : DescribedStream) (b : MultiplexingBuffer) (units : List AccessUnit) (slots : ℕ) (bytes : List ℕ) (i : ℕ)
    (u : AccessUnit) → VideoKept d s b units slots bytes → slice_get units i ≡ Some u → IsDue d.description slots u →
    ArrivesInEb d.description s b u.dts (length (concat (take i (map (pes_bytes (owned_stream d k s)) units)))) (length (pes_bytes (owned_stream d k s) u)) bytes
in_eb d k s b units slots bytes i u kept is due =
    let l = owned_stream d k s in
    let left : List ℕ = multiplexing_left d.description.rate s.rx b.rbx (packets_on s.pid bytes) in
    let mine = unit_left (λ (x : AccessUnit). x.dts) (pes_bytes l) (λ (x : AccessUnit). field_size x.marks.random_access) d.description.rate (s.rx * b.rbx) slots
    units u i left kept.whole is due in
    record {
      left = omega (arith, mine.0, text_some l u, length-drop (length (concat (take i (map (pes_bytes l) units)))) left);
      in_time = mine.1;
    }

pub stream_decoded : (d : Scheduled) (k : ℕ) (s : DescribedStream) (units : List AccessUnit) (slots : ℕ) (bytes : List ℕ) → IsInRange d.description →
    slice_get d.description.streams k ≡ Some s → All (λ e. IsAccessAtStart e.packet) (entries_of bytes) → StreamKept d k s units slots bytes →
    StreamDecoded d k s units slots bytes
stream_decoded d k s units slots bytes r there known kept = record {
  follow = count_on (pid_list s.pid bytes) kept.counters;
  access = access_on s.pid bytes (all_pieces l units) known kept.pieces;
  whole = λ i u is due.
      let c = came d k s units slots bytes i u kept is due in
      let size = with_next pes (pes_bytes l u) i (named i u is) in
      let same = ap (λ (ps : List (List ℕ)). length (concat ps)) (bytes_sent l units (suc i)) in
      pes_whole (map (sent_as l) units) (sent_as l u) (length (pid_list s.pid bytes)) i (pieces_on s.pid bytes) (some_bytes l units)
      (slice_get-map (sent_as l) units i ∙ ap (option_map (sent_as l)) is)
      (kept.pieces ∙ ap (take (length (pid_list s.pid bytes))) (all_cut l units)) (omega (arith, same, size, c.sent, piece_bytes (pid_list s.pid bytes)));
  arrive = λ i u is due.
      let c = came d k s units slots bytes i u kept is due in
      record { there = unit_bytes pes (pes_bytes l u) _ i kept.carried (named i u is) c.sent; left = c.left; in_time = c.in_time };
  video = λ b has i u is due. in_eb d k s b units slots bytes i u (kept.video b has) is due;
  stamps = λ i u is fits. has_stamps s.stream_id d.description.base0 u fits;
  stay = λ i u is.
      unit_stays (λ (x : AccessUnit). x.dts) (pes_bytes l) (λ (x : AccessUnit). field_size x.marks.random_access) 90000 d.description.rate s.rx units u i
      (pes_entered s.rx (packets_on s.pid bytes)) kept.waits is;
  soon = λ j e u here sender.
      let released = kept.not_early j e u here sender in
      let most = mul-le-mul_right d.description.rate (stream_range d.description k s r there).most_lead in
      omega (arith, released, most);
}
  where
    l : OwnedStream
    l = owned_stream d k s

    pes : List (List ℕ)
    pes = map (pes_bytes l) units

    named : (i : ℕ) (u : AccessUnit) → slice_get units i ≡ Some u → slice_get pes i ≡ Some (pes_bytes l u)
    named i u is = slice_get-map (pes_bytes l) units i ∙ ap (option_map (pes_bytes l)) is

-- The law `decoded`

pub decoded : DecodedLaw
decoded d changes units slots bytes first r h =
    let count : length bytes / 188 ≡ slots = omega (arith, h.size) in
    record {
      read = each_read bytes h.packets ∙ count;
      unmarked = all_clear d.description (entries_of bytes) h.pids;
      clear = all_in_the_clear d.description (entries_of bytes) h.clear;
      silent = λ pid other none. none_listed d.description pid (entries_of bytes) other none h.pids;
      nulls = null_alone d.description (entries_of bytes) r h.pids;
      streams = λ k s is. stream_decoded d k s (units k) slots bytes r is h.access (h.streams k s is);
      programs = λ i p is. record {
        clocks = have_clocks d.description.rate d.description.base0 p.pcr_pid (pid_list p.pcr_pid bytes) (h.programs i p is).clocks;
        recur = (h.programs i p is).pcrs_recur;
      };
      tables = λ t lt. record {
        follow = count_on (pid_list _ bytes) (h.tables t lt).sections.counters;
        sections = λ j within. section_comes d changes t slots bytes j (first t) (h.tables t lt) within;
      };
    }
