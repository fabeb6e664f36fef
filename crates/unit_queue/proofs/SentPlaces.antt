-- A place among a stream's own slots: its number, its piece and its unit.
use Rattle.std.proofs.Common.{◌≡◌, ℕ, zero, suc, ◌+◌, ◌-◌, ◌*◌, ◌^◌, ◌<◌, ◌≤◌, ◌==◌, nat_lt, Bool, true, cond, Option, Some, None, List, [], ◌∷◌, ◌++◌, length}
use Rattle.std.proofs.Common.{replicate, refl, sym, ap, ◌∙◌, inl, inr, arith}
use Rattle.std.specs.Prelude.{slice_get}
use Rattle.std.proofs.lemmas.Bool.{cases_lt, lt-ltb, le-ltb, ne_eqb}
use Rattle.std.proofs.lemmas.List.{length-replicate}
use Rattle.std.proofs.lemmas.List.Concat.{flat_map-cons}
use Rattle.circular_buffer.proofs.Places.{slice_get-append_left, slice_get-append_right}
use Rattle.clock27.specs.Release.{release}
use Rattle.own_slots.specs.Slots.{own_before}
use Rattle.pes_packet.specs.AccessUnits.{AccessUnit}
use Rattle.pes_packet.specs.Marks.{field_size}
use Rattle.pes_packet.specs.Payloads.{part_of, unit_pieces}
use Rattle.pes_packet.proofs.UnitPieces.{unit_pieces_join}
use Rattle.ts_packet.specs.declared.start.Start.{Start}
use Rattle.ts_packet.specs.declared.start.Start.TheVariants.{Continues}
use Rattle.ts_packet.specs.Beginnings.{start_by}
use Rattle.slot_contents.specs.Contents.{ContentFits}
use Rattle.unit_queue.specs.OwnedStreams.{OwnedStream, pes_bytes, has_access, packet_count, first_slot, end_slot}
use Rattle.unit_queue.specs.Places.{UnitPlace, place_at, piece_bytes, piece_start, content_of}
use Rattle.unit_queue.specs.Payloads.{marked, pes_pieces, all_pieces, all_senders}
use Rattle.unit_queue.specs.Laws.{ContentLaw}
use Rattle.unit_queue.proofs.PieceBytes.{part_most, part_some}
use Rattle.unit_queue.proofs.Leftover.{text_some, count_some, first_free, first_released, place_before, place_in, place_on}

-- The number of a packet is the count of earlier packets

unfoldable pub sent_before : OwnedStream → ℕ → ℕ → List AccessUnit → ℕ → ℕ
sent_before l free number [] i = number
sent_before l free number (u ∷ us) i =
    cond (nat_lt i (first_slot l free u)) number
    (cond (nat_lt i (end_slot l free u)) (number + (i - first_slot l free u)) (sent_before l (end_slot l free u) (number + packet_count l u) us i))

pub sent_fresh : (l : OwnedStream) (free number : ℕ) (us : List AccessUnit) (i : ℕ) → i ≤ free → sent_before l free number us i ≡ number
unfolding sent_before
sent_fresh l free number [] i le = refl
sent_fresh l free number (u ∷ us) i le = elim (cases_lt i (first_slot l free u)) [
  | inl below ↦ rw (lt-ltb i (first_slot l free u) below) refl
  | inr from ↦
      let here : i - first_slot l free u ≡ 0 = omega (arith, first_free l free u) in
      let none : number + 0 ≡ number = omega arith in
      rw (le-ltb i (first_slot l free u) from, lt-ltb i (end_slot l free u) (omega (arith, first_free l free u, count_some l u)), here, none) refl
]

abbrev pub one_of : Option UnitPlace → ℕ
one_of None = 0
one_of (Some x) = 1

pub sent_next : (l : OwnedStream) (free number : ℕ) (us : List AccessUnit) (i : ℕ) →
    sent_before l free number us (suc i) ≡ sent_before l free number us i + one_of (place_at l free number us i)
unfolding sent_before place_at
sent_next l free number [] i = omega arith
sent_next l free number (u ∷ us) i = elim (cases_lt i (first_slot l free u)) [
  | inl below ↦ elim (cases_lt (suc i) (first_slot l free u)) [
    | inl still ↦ rw (place_before l free number i u us below, lt-ltb i (first_slot l free u) below, lt-ltb (suc i) (first_slot l free u) still) (omega arith)
    | inr from ↦
        let here : suc i - first_slot l free u ≡ 0 = omega arith in
        let inside : suc i < end_slot l free u = omega (arith, count_some l u) in
        rw (
          place_before l free number i u us below,
          lt-ltb i (first_slot l free u) below,
          le-ltb (suc i) (first_slot l free u) from,
          lt-ltb (suc i) (end_slot l free u) inside,
          here,
        ) (omega arith)
  ]
  | inr from ↦ elim (cases_lt i (end_slot l free u)) [
    | inl inside ↦
        let on : first_slot l free u ≤ suc i = omega arith in
        let next : suc i - first_slot l free u ≡ (i - first_slot l free u) + 1 = omega arith in
        elim (cases_lt (suc i) (end_slot l free u)) [
          | inl still ↦ rw (
            place_in l free number i u us from inside,
            le-ltb i (first_slot l free u) from,
            lt-ltb i (end_slot l free u) inside,
            le-ltb (suc i) (first_slot l free u) on,
            lt-ltb (suc i) (end_slot l free u) still,
            next,
          ) (omega arith)
          | inr over ↦
              let ends : (i - first_slot l free u) + 1 ≡ packet_count l u = omega arith in
              let fresh = sent_fresh l (end_slot l free u) (number + packet_count l u) us (suc i) (omega arith) in
              rw (
                place_in l free number i u us from inside,
                le-ltb i (first_slot l free u) from,
                lt-ltb i (end_slot l free u) inside,
                le-ltb (suc i) (first_slot l free u) on,
                le-ltb (suc i) (end_slot l free u) over,
                fresh,
              ) (omega (arith, ends))
        ]
    | inr over ↦
        let on : first_slot l free u ≤ suc i = omega arith in
        let still : end_slot l free u ≤ suc i = omega arith in
        rw (
          place_on l free number i u us over,
          le-ltb i (first_slot l free u) from,
          le-ltb i (end_slot l free u) over,
          le-ltb (suc i) (first_slot l free u) on,
          le-ltb (suc i) (end_slot l free u) still,
        )
        (sent_next l (end_slot l free u) (number + packet_count l u) us i)
  ]
]

-- A place: its number, its piece, its unit, that it has bytes, and that it is not early

pub record PlaceIs (l : OwnedStream) (number : ℕ) (us : List AccessUnit) (i sent : ℕ) (x : UnitPlace) : Type 0 where
  pub number_is : x.number ≡ sent
  pub inside : 184 * x.piece < field_size (has_access x.unit) + length (pes_bytes l x.unit)
  pub released : own_before l.own (release l.parameters.rate l.parameters.lead x.unit.dts) ≤ i
  pub from : number ≤ x.number
  pub piece : slice_get (all_pieces l us) (x.number - number) ≡ Some (record { start = piece_start x; bytes = piece_bytes l x })
  pub sender : slice_get (all_senders l us) (x.number - number) ≡ Some x.unit

abbrev pub PlaceHas : OwnedStream → ℕ → List AccessUnit → ℕ → ℕ → Option UnitPlace → Type 0
PlaceHas l number us i sent None = Unit {0}
PlaceHas l number us i sent (Some x) = PlaceIs l number us i sent x

length-marked : (start : Start) (xs : List (List ℕ)) → length (marked start xs) ≡ length xs
unfolding marked
length-marked start [] = refl
length-marked start (x ∷ xs) = ap suc (length-marked Continues xs)

marked_on : (xs : List (List ℕ)) (q : ℕ) (bytes : List ℕ) → slice_get xs q ≡ Some bytes →
    slice_get (marked Continues xs) q ≡ Some (record { start = Continues; bytes = bytes })
unfolding marked
marked_on [] q bytes is = absurd (let no : ⊥ = cc in no)
marked_on (x ∷ xs) zero bytes is = let same : x ≡ bytes = cc in rw same refl
marked_on (x ∷ xs) (suc q) bytes is = marked_on xs q bytes is

marked_from : (access : Bool) (xs : List (List ℕ)) (q : ℕ) (bytes : List ℕ) → slice_get xs q ≡ Some bytes →
    slice_get (marked (start_by true access) xs) q ≡ Some (record { start = start_by (q == 0) access; bytes = bytes })
unfolding marked
marked_from access [] q bytes is = absurd (let no : ⊥ = cc in no)
marked_from access (x ∷ xs) zero bytes is = let same : x ≡ bytes = cc in rw same refl
marked_from access (x ∷ xs) (suc q) bytes is =
    let some : suc q ≡ 0 → ⊥ = λ e. omega (arith, e) in
    rw (ne_eqb (suc q) 0 some) (marked_on xs q bytes is)

replicate_at : {X : Type 0} (n q : ℕ) (x : X) → q < n → slice_get (replicate n x) q ≡ Some x
replicate_at zero q x lt = absurd (omega arith)
replicate_at (suc n) zero x lt = refl
replicate_at (suc n) (suc q) x lt = replicate_at n q x (omega arith)

-- The payloads of a list of units are the payloads of the first unit, then of the later units.
pub pieces_cons : (l : OwnedStream) (u : AccessUnit) (us : List AccessUnit) → all_pieces l (u ∷ us) ≡ pes_pieces (has_access u) (pes_bytes l u)
    ++ all_pieces l us
pieces_cons l u us = flat_map-cons (λ (v : AccessUnit). pes_pieces (has_access v) (pes_bytes l v)) u us

senders_cons : (l : OwnedStream) (u : AccessUnit) (us : List AccessUnit) → all_senders l (u ∷ us) ≡ replicate (packet_count l u) u ++ all_senders l us
senders_cons l u us = flat_map-cons (λ (v : AccessUnit). replicate (packet_count l v) v) u us

pieces_count : (l : OwnedStream) (u : AccessUnit) → length (pes_pieces (has_access u) (pes_bytes l u)) ≡ packet_count l u
pieces_count l u = length-marked (start_by true (has_access u)) (unit_pieces (has_access u) (pes_bytes l u))
    ∙ (unit_pieces_join (has_access u) (pes_bytes l u)).count

sent_in : (l : OwnedStream) (free number : ℕ) (u : AccessUnit) (us : List AccessUnit) (i : ℕ) → first_slot l free u ≤ i → i < end_slot l free u →
    sent_before l free number (u ∷ us) i ≡ number + (i - first_slot l free u)
unfolding sent_before
sent_in l free number u us i from inside = rw (le-ltb i (first_slot l free u) from, lt-ltb i (end_slot l free u) inside) refl

sent_on : (l : OwnedStream) (free number : ℕ) (u : AccessUnit) (us : List AccessUnit) (i : ℕ) → first_slot l free u ≤ i → end_slot l free u ≤ i →
    sent_before l free number (u ∷ us) i ≡ sent_before l (end_slot l free u) (number + packet_count l u) us i
unfolding sent_before
sent_on l free number u us i from over = rw (le-ltb i (first_slot l free u) from, le-ltb i (end_slot l free u) over) refl

place_here : (l : OwnedStream) (free number : ℕ) (u : AccessUnit) (us : List AccessUnit) (i : ℕ) → first_slot l free u ≤ i → i < end_slot l free u →
    PlaceIs l number (u ∷ us) i (sent_before l free number (u ∷ us) i)
    (record { unit = u; piece = i - first_slot l free u; number = number + (i - first_slot l free u) })
place_here l free number u us i from below =
    let b = i - first_slot l free u in
    let pes = pes_bytes l u in
    let few : i - first_slot l free u < packet_count l u = omega arith in
    let place : (number + (i - first_slot l free u)) - number ≡ i - first_slot l free u = omega arith in
    let size : i - first_slot l free u < length (pes_pieces (has_access u) (pes_bytes l u)) = rw (pieces_count l u) few in
    let many : i - first_slot l free u < length (replicate (packet_count l u) u) = rw (length-replicate (packet_count l u) u) few in
    record {
      number_is = sym (sent_in l free number u us i from below);
      inside = omega arith;
      released = omega (arith, first_released l free u);
      from = omega arith;
      piece = rw (place, pieces_cons l u us, slice_get-append_left (pes_pieces (has_access u) pes) (all_pieces l us) b size)
          (marked_from (has_access u) (unit_pieces (has_access u) pes) b (part_of (field_size (has_access u)) (184 * b) pes)
          ((unit_pieces_join (has_access u) pes).each b few));
      sender = rw (place, senders_cons l u us, slice_get-append_left (replicate (packet_count l u) u) (all_senders l us) b many)
          (replicate_at (packet_count l u) b u few);
    }

has_on : (l : OwnedStream) (number : ℕ) (u : AccessUnit) (us : List AccessUnit) (i sent : ℕ) (o : Option UnitPlace) →
    PlaceHas l (number + packet_count l u) us i sent o → PlaceHas l number (u ∷ us) i sent o
has_on l number u us i sent None h = tt
has_on l number u us i sent (Some x) h =
    let far : x.number - number ≡ length (pes_pieces (has_access u) (pes_bytes l u)) + (x.number - (number + packet_count l u)) =
    omega (arith, h.from, pieces_count l u) in
    let far_sender : x.number - number ≡ length (replicate (packet_count l u) u) + (x.number - (number + packet_count l u)) =
    omega (arith, h.from, length-replicate (packet_count l u) u) in
    record {
      number_is = h.number_is;
      inside = h.inside;
      released = h.released;
      from = omega (arith, h.from);
      piece = rw (
        pieces_cons l u us,
        slice_get-append_right (pes_pieces (has_access u) (pes_bytes l u)) (all_pieces l us) (x.number - number)
            (x.number - (number + packet_count l u)) far,
      ) h.piece;
      sender = rw (
        senders_cons l u us,
        slice_get-append_right (replicate (packet_count l u) u) (all_senders l us) (x.number - number) (x.number - (number + packet_count l u)) far_sender,
      )
          h.sender;
    }

pub place_has : (l : OwnedStream) (free number : ℕ) (us : List AccessUnit) (i : ℕ) →
    PlaceHas l number us i (sent_before l free number us i) (place_at l free number us i)
place_has l free number [] i = unfold place_at sent_before in tt
place_has l free number (u ∷ us) i = elim (cases_lt i (first_slot l free u)) [
  | inl below ↦ rw (place_before l free number i u us below) tt
  | inr from ↦ elim (cases_lt i (end_slot l free u)) [
    | inl inside ↦ rw (place_in l free number i u us from inside) (place_here l free number u us i from inside)
    | inr over ↦ rw (place_on l free number i u us over, sent_on l free number u us i from over)
        (has_on l number u us i (sent_before l (end_slot l free u) (number + packet_count l u) us i)
        (place_at l (end_slot l free u) (number + packet_count l u) us i)
        (place_has l (end_slot l free u) (number + packet_count l u) us i))
  ]
]

-- The content of an own slot fits into a packet

place_content : (l : OwnedStream) (us : List AccessUnit) (i sent : ℕ) (o : Option UnitPlace) → l.parameters.pid < 2 ^ 13 → PlaceHas l 0 us i sent o →
    ContentFits (content_of l o)
place_content l us i sent None pid h = tt
place_content l us i sent (Some x) pid h =
    let pes = pes_bytes l x.unit in
    (pid, part_some (has_access x.unit) (184 * x.piece) pes (omega (arith, text_some l x.unit)) h.inside, part_most (has_access x.unit) x.piece pes)

pub content_law : ContentLaw
content_law l us t rules =
    place_content l us (own_before l.own t) (sent_before l 0 0 us (own_before l.own t)) (place_at l 0 0 us (own_before l.own t)) rules.pid
    (place_has l 0 0 us (own_before l.own t))
