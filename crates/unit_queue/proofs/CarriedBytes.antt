-- What the finished bytes carry of a stream.
use Rattle.std.proofs.Common.{◌≡◌, ℕ, zero, suc, ◌+◌, ◌-◌, ◌*◌, ◌%◌, nat_eq, Bool, true, false, Option, Some, None, List, [], ◌∷◌, ◌++◌, length, map, take}
use Rattle.std.proofs.Common.{drop, refl, sym, ap, ◌∙◌, inl, inr, arith, append-nil}
use Rattle.std.specs.Prelude.{slice_get}
use Rattle.std.specs.List.{concat, flat_map, starts_with}
use Rattle.std.proofs.lemmas.Bool.{cases_lt, lt-ltb, le-ltb}
use Rattle.std.proofs.lemmas.Bool.Decides.{Decides-eqb}
use Rattle.std.proofs.lemmas.List.{length-drop, length-take, length-map, take_at, map-append}
use Rattle.std.proofs.lemmas.Slice.Eq.{starts_is}
use Rattle.std.proofs.lemmas.List.Concat.{flat_map-cons, concat_is}
use Rattle.std.proofs.lemmas.List.Folds.{concat-append}
use Rattle.own_slots.specs.Slots.{own_before, own_slots}
use Rattle.pes_packet.specs.AccessUnits.{AccessUnit}
use Rattle.pes_packet.specs.Marks.{field_size}
use Rattle.pes_packet.specs.Payloads.{unit_pieces}
use Rattle.pes_packet.proofs.UnitPieces.{unit_pieces_join}
use Rattle.ts_packet.specs.declared.start.Start.{Start}
use Rattle.ts_packet.specs.declared.start.Start.TheVariants.{Continues}
use Rattle.ts_packet.specs.Beginnings.{start_by}
use Rattle.unit_timing.specs.Schedule.{Packet, payload_size_at, packet_in, packets_by_slot, first_slot as first_own_slot}
use Rattle.unit_timing.proofs.ScheduleLemmas.{slotwise_law}
use Rattle.ts_packet.specs.PidList.{Entry, pid_list, payload_of}
use Rattle.slot_contents.specs.Contents.{run_bytes, Payload, payload_at, Piece, put}
use Rattle.slot_contents.proofs.Counts.{payload_entries_again}
use Rattle.unit_queue.specs.OwnedStreams.{OwnedStream, pes_bytes, has_access, timed, packet_count, first_slot}
use Rattle.unit_queue.specs.Places.{UnitPlace, place_at, piece_bytes}
use Rattle.unit_queue.specs.Payloads.{marked, pes_pieces, all_pieces, piece_in, piece_of, stream_payloads}
use Rattle.unit_queue.specs.Laws.{CarriedLaw}
use Rattle.unit_queue.proofs.SentPlaces.{pieces_cons}
use Rattle.unit_queue.proofs.OwnPayloads.{found_at, found_piece, found_released, list_is, listed_at}

-- Joined payloads: if each element of a list is at the same place in a longer list, the list is a beginning of the longer list

begins_by_elements : {X : Type 0} (xs ys : List X) → ((j : ℕ) (x : X) → slice_get xs j ≡ Some x → slice_get ys j ≡ Some x) → xs ++ drop (length xs) ys ≡ ys
begins_by_elements [] ys same = refl
begins_by_elements (x ∷ xs) [] same = absurd (let h = same 0 x refl in let no : ⊥ = cc in no)
begins_by_elements (x ∷ xs) (y ∷ ys) same =
    let h : Some y ≡ Some x = same 0 x refl in
    let first : x ≡ y = cc in
    rw first (ap (λ l. y ∷ l) (begins_by_elements xs ys (λ j z is. same (suc j) z is)))

abbrev bytes_of : Piece → List ℕ
bytes_of p = p.bytes

marked_bytes : (start : Start) (xs : List (List ℕ)) → map bytes_of (marked start xs) ≡ xs
unfolding marked
marked_bytes start [] = refl
marked_bytes start (x ∷ xs) = ap (λ l. x ∷ l) (marked_bytes Continues xs)

concat_cons : (x : List ℕ) (xs : List (List ℕ)) → concat (x ∷ xs) ≡ x ++ concat xs
concat_cons x xs = concat-append (x ∷ []) xs ∙ ap (λ l. l ++ concat xs) (concat_is (x ∷ []) ∙ flat_map-cons (λ (y : List ℕ). y) x [] ∙ append-nil x)

all_bytes : (l : OwnedStream) (us : List AccessUnit) → concat (map bytes_of (all_pieces l us)) ≡ concat (map (pes_bytes l) us)
all_bytes l [] = refl
all_bytes l (u ∷ us) =
    let pes = pes_bytes l u in
    ap (λ (ps : List Piece). concat (map bytes_of ps)) (pieces_cons l u us)
    ∙ ap (λ (xs : List (List ℕ)). concat xs) (map-append bytes_of (pes_pieces (has_access u) pes) (all_pieces l us))
    ∙ concat-append (map bytes_of (pes_pieces (has_access u) pes)) (map bytes_of (all_pieces l us))
    ∙ ap (λ (xs : List (List ℕ)). concat xs ++ concat (map bytes_of (all_pieces l us)))
    (marked_bytes (start_by true (has_access u)) (unit_pieces (has_access u) pes))
    ∙ ap (λ (xs : List ℕ). xs ++ concat (map bytes_of (all_pieces l us))) (unit_pieces_join (has_access u) pes).joined
    ∙ ap (λ (xs : List ℕ). pes ++ xs) (all_bytes l us)
    ∙ sym (concat_cons pes (map (pes_bytes l) us))

map_at : {X Y : Type 0} (f : X → Y) (xs : List X) (j : ℕ) (y : Y) → slice_get (map f xs) j ≡ Some y → (x : X) × (slice_get xs j ≡ Some x) × (f x ≡ y)
map_at f [] j y is = absurd (let no : ⊥ = cc in no)
map_at f (x ∷ xs) zero y is = (x, refl, (let same : f x ≡ y = cc in same))
map_at f (x ∷ xs) (suc j) y is = map_at f xs j y is

map_bytes : (es : List Entry) → map bytes_of (map (λ (e : Entry). piece_in (payload_at e)) es) ≡ map (λ (e : Entry). payload_of e.packet) es
map_bytes [] = refl
map_bytes (e ∷ es) = ap (λ l. payload_of e.packet ∷ l) (map_bytes es)

joined_is : (l : OwnedStream) (us : List AccessUnit) (es : List Entry) →
    ((j : ℕ) (e : Entry) → slice_get es j ≡ Some e → slice_get (all_pieces l us) j ≡ Some (piece_in (payload_at e))) →
    starts_with nat_eq (concat (map (pes_bytes l) us)) (concat (map (λ (e : Entry). payload_of e.packet) es)) ≡ true
joined_is l us es each =
    let view = λ (e : Entry). piece_in (payload_at e) in
    let ps = map (λ (e : Entry). piece_in (payload_at e)) es in
    let rest = drop (length ps) (all_pieces l us) in
    let front : ps ++ rest ≡ all_pieces l us = begins_by_elements ps (all_pieces l us) (λ j x is.
    let h = map_at view es j x is in each j h.0 h.1 ∙ ap (λ (y : Piece). Some y) h.2) in
    let bytes : concat (map (pes_bytes l) us) ≡ concat (map (λ (e : Entry). payload_of e.packet) es) ++ concat (map bytes_of rest) =
    sym (all_bytes l us) ∙ ap (λ (q : List Piece). concat (map bytes_of q)) (sym front) ∙ ap (λ (xs : List (List ℕ)). concat xs) (map-append bytes_of ps rest)
    ∙ concat-append (map bytes_of ps) (map bytes_of rest) ∙ ap (λ (xs : List (List ℕ)). concat xs ++ concat (map bytes_of rest)) (map_bytes es) in
    (starts_is Decides-eqb (concat (map (pes_bytes l) us)) (concat (map (λ (e : Entry). payload_of e.packet) es)) _ refl).1 (concat (map bytes_of rest)) bytes

front_is : (l : OwnedStream) (us : List AccessUnit) (es : List Entry) →
    ((j : ℕ) (e : Entry) → slice_get es j ≡ Some e → slice_get (all_pieces l us) j ≡ Some (piece_in (payload_at e))) →
    map (λ (e : Entry). piece_in (payload_at e)) es ≡ take (length es) (all_pieces l us)
front_is l us es each =
    let view = λ (e : Entry). piece_in (payload_at e) in
    let ps = map (λ (e : Entry). piece_in (payload_at e)) es in
    let rest = drop (length ps) (all_pieces l us) in
    let front : ps ++ rest ≡ all_pieces l us = begins_by_elements ps (all_pieces l us) (λ j x is.
    let h = map_at view es j x is in each j h.0 h.1 ∙ ap (λ (y : Piece). Some y) h.2) in
    sym (take_at ps rest (length es) (length-map es view)) ∙ ap (λ (q : List Piece). take (length es) q) front

-- The packets in the timing model

abbrev size_of : OwnedStream → Option UnitPlace → Option ℕ
size_of l None = None
size_of l (Some x) = Some (length (piece_bytes l x))

place_size : (l : OwnedStream) (free number : ℕ) (us : List AccessUnit) (i : ℕ) →
    size_of l (place_at l free number us i) ≡ payload_size_at l.own l.parameters.rate l.parameters.lead free (map (timed l) us) i
unfolding place_at payload_size_at first_slot
place_size l free number [] i = refl
place_size l free number (u ∷ us) i =
    let first = first_own_slot l.own l.parameters.rate l.parameters.lead free (timed l u) in
    elim (cases_lt i first) [
      | inl below ↦ rw (lt-ltb i first below) refl
      | inr from ↦ elim (cases_lt i (first + packet_count l u)) [
        | inl inside ↦
            let pes = pes_bytes l u in
            let field = field_size (has_access u) in
            rw (
              le-ltb i first from,
              lt-ltb i (first + packet_count l u) inside,
              length-take (184 - (field - 184 * (i - first))) (drop (184 * (i - first) - field) pes),
              length-drop (184 * (i - first) - field) pes,
            ) refl
        | inr over ↦ rw (le-ltb i first from, le-ltb i (first + packet_count l u) over)
            (place_size l (first + packet_count l u) (number + packet_count l u) us i)
      ]
    ]

abbrev timed_packet : Payload → Packet
timed_packet p = record { slot = p.index; size = length p.bytes }

put_packet : (l : OwnedStream) (s : ℕ) (o : Option UnitPlace) → map timed_packet (put s (piece_of l o)) ≡ packet_in s (size_of l o)
put_packet l s None = refl
put_packet l s (Some x) = refl

picked_is : (l : OwnedStream) (us : List AccessUnit) (slots : List ℕ) →
    map timed_packet (flat_map (λ (t : ℕ). put t (piece_of l (place_at l 0 0 us (own_before l.own t)))) slots)
    ≡ packets_by_slot l.own (payload_size_at l.own l.parameters.rate l.parameters.lead 0 (map (timed l) us)) slots
unfolding packets_by_slot
picked_is l us [] = refl
picked_is l us (s ∷ slots) =
    let g = λ (t : ℕ). put t (piece_of l (place_at l 0 0 us (own_before l.own t))) in
    let o = place_at l 0 0 us (own_before l.own s) in
    ap (λ (ps : List Payload). map timed_packet ps) (flat_map-cons g s slots)
    ∙ map-append timed_packet (put s (piece_of l o)) (flat_map g slots)
    ∙ ap (λ (ps : List Packet). ps ++ map timed_packet (flat_map g slots))
    (put_packet l s o ∙ ap (λ (x : Option ℕ). packet_in s x) (place_size l 0 0 us (own_before l.own s)))
    ∙ ap (λ (ps : List Packet). packet_in s (payload_size_at l.own l.parameters.rate l.parameters.lead 0 (map (timed l) us) (own_before l.own s)) ++ ps)
    (picked_is l us slots)

entry_packets : (es : List Entry) → map timed_packet (map payload_at es) ≡ map (λ (e : Entry). record { slot = e.index; size = length (payload_of e.packet) })
    es
entry_packets [] = refl
entry_packets (e ∷ es) = ap (λ l. record { slot = e.index; size = length (payload_of e.packet) } ∷ l) (entry_packets es)

pub carried_law : CarriedLaw
carried_law l us content n alone =
    let ps = stream_payloads l us n in
    let es = pid_list l.parameters.pid (run_bytes content 0 n) in
    let each : (j : ℕ) (e : Entry) → slice_get (pid_list l.parameters.pid (run_bytes content 0 n)) j ≡ Some e →
    slice_get (all_pieces l us) j ≡ Some (piece_in (payload_at e)) =
    λ j e is. found_piece l us j (payload_at e) (found_at l us content n j e alone is) in
    record {
      counters = λ j e is. let whole : 0 + j ≡ j = omega arith in (listed_at l us content n j e alone is).counter ∙ ap (λ (m : ℕ). m % 16) whole;
      pieces = front_is l us es each;
      joined = joined_is l us es each;
      released = λ j e u is sender. found_released l us j (payload_at e) u (found_at l us content n j e alone is) sender;
      packets = sym (entry_packets es) ∙ ap (λ (xs : List Entry). map timed_packet (map payload_at xs)) (list_is l us content n alone)
          ∙ ap (λ (xs : List Payload). map timed_packet xs) (payload_entries_again l.parameters.pid 0 ps)
          ∙ picked_is l us (own_slots l.own 0 n) ∙ slotwise_law l.own l.parameters.rate l.parameters.lead n (map (timed l) us);
    }
