-- The payloads of a table, place by place, as the payloads of its sections.
use Rattle.std.proofs.Common.{◌≡◌, ℕ, zero, suc, ◌+◌, ◌-◌, ◌*◌, ◌%◌, ◌<◌, ◌≤◌, ◌==◌, Bool, true, false, cond, List, [], ◌∷◌, ◌++◌, length, map, take, drop}
use Rattle.std.proofs.Common.{slice_index_or, Option, Some, None, refl, sym, ap, ap₂, subst, ◌∙◌, inl, inr, arith, lt-ltb, le-ltb, eqb-true, ne_eqb, append-nil}
use Rattle.std.proofs.Common.{append_assoc, drop-drop, mul-suc}
use Rattle.std.specs.List.{flat_map}
use Rattle.std.specs.Simd.{first_chunks}
use Rattle.std.proofs.Math.Seq.{take-append_seam}
use Rattle.std.proofs.Math.Nat.{mod-eq_of_lt, mod_self, mod-add-mod}
use Rattle.std.proofs.lemmas.Nat.{mod_below}
use Rattle.std.proofs.lemmas.Bool.{cases_lt, cases_Bool}
use Rattle.std.proofs.lemmas.List.{map-append}
use Rattle.std.proofs.lemmas.List.Sums.{sum_by-cons}
use Rattle.std.proofs.lemmas.List.Concat.{flat_map-cons}
use Rattle.std.proofs.lemmas.Grind.{flat_map-append}
use Rattle.own_slots.specs.Slots.{own_before, own_slots}
use Rattle.own_slots.specs.Rounds.{starts}
use Rattle.own_slots.proofs.Counts.{own_before_own, own_before_other}
use Rattle.ts_packet.specs.Beginnings.{start_by}
use Rattle.slot_contents.specs.Contents.{Payload, Piece, put}
use Rattle.table_rounds.specs.Parts.{places_of, filled, part_of}
use Rattle.table_rounds.specs.Tables.{Table, SectionPlace, round_places, place_in, place_at, round_before, begin_before, moment_of, moment_before, not_yet, bytes_at, part_at}
use Rattle.table_rounds.specs.Payloads.{table_payloads}
use Rattle.table_rounds.proofs.Places.{place_inside, place_after}
use Rattle.unit_queue.specs.Payloads.{marked, piece_in}
use Rattle.laws_run.specs.Sections.{section_packets, section_pieces, filled_section}
use Rattle.laws_run.specs.Rounds.{sections_from, round_sections, sections_of_rounds, HasRoom, RoundsAreSections}

-- The places of a round

abbrev listed : Option Piece → List Piece
listed None = []
listed (Some piece) = piece ∷ []

-- The piece of these texts that a place carries
abbrev place_part : (ℕ → List ℕ) → SectionPlace → Option Piece
place_part text p = part_of (text p.section) p.part

-- The payloads of d places from place i on
unfoldable places_pieces : (ℕ → List ℕ) → ℕ → List ℕ → ℕ → ℕ → List Piece
places_pieces text j ls i zero = []
places_pieces text j ls i (suc d) = listed (place_part text (place_in j ls i)) ++ places_pieces text j ls (suc i) d

places_split : (text : ℕ → List ℕ) (j : ℕ) (ls : List ℕ) (i a d : ℕ) →
    places_pieces text j ls i (a + d) ≡ places_pieces text j ls i a ++ places_pieces text j ls (i + a) d
unfolding places_pieces
places_split text j ls i zero d =
    let m : zero + d ≡ d = omega arith in
    let k : i ≡ i + zero = omega arith in
    ap (places_pieces text j ls i) m ∙ ap (λ (x : ℕ). places_pieces text j ls x d) k
places_split text j ls i (suc a) d =
    let one : List Piece = listed (place_part text (place_in j ls i)) in
    let m : suc a + d ≡ suc (a + d) = omega arith in
    let k : suc i + a ≡ i + suc a = omega arith in
    ap (places_pieces text j ls i) m ∙ ap (λ (xs : List Piece). one ++ xs) (places_split text j ls (suc i) a d)
    ∙ sym (append_assoc one (places_pieces text j ls (suc i) a) (places_pieces text j ls (suc i + a) d))
    ∙ ap (λ (x : ℕ). (one ++ places_pieces text j ls (suc i) a) ++ places_pieces text j ls x d) k

-- The places after the places of the first section
places_shift : (text : ℕ → List ℕ) (j l : ℕ) (ls : List ℕ) (n i d : ℕ) → n ≡ places_of l + i →
    places_pieces text j (l ∷ ls) n d ≡ places_pieces text (suc j) ls i d
unfolding places_pieces
places_shift text j l ls n i zero e = refl
places_shift text j l ls n i (suc d) e =
    ap₂ (λ (p : SectionPlace) (xs : List Piece). listed (place_part text p) ++ xs) (place_after j l ls n i e)
    (places_shift text j l ls (suc n) (suc i) d (omega (arith, e)))

-- The places of one section carry its payloads from payload q on.
section_places : (text : ℕ → List ℕ) (j l : ℕ) (ls : List ℕ) (q d : ℕ) → q + d ≡ places_of l → section_packets (text j) ≤ places_of l →
    places_pieces text j (l ∷ ls) q d ≡ marked (start_by (q == 0) false) (first_chunks 184 (section_packets (text j) - q) (drop (184 * q) (filled (text j))))
unfolding places_pieces marked part_of
section_places text j l ls q zero e room =
    let none : section_packets (text j) - q ≡ 0 = omega (arith, e, room) in rw none refl
section_places text j l ls q (suc d) e room =
    let here : place_in j (l ∷ ls) q ≡ record { section = j; part = q } = place_inside j l ls q (omega (arith, e)) in
    let rest = section_places text j l ls (suc q) d (omega (arith, e)) room in
    let no : (suc q == 0) ≡ false = ne_eqb (suc q) 0 (λ x. omega (arith, x)) in
    elim (cases_lt (184 * q) (1 + length (text j))) [
      | inl less ↦
          let more : section_packets (text j) - q ≡ suc (section_packets (text j) - suc q) = omega (arith, less) in
          let on : drop 184 (drop (184 * q) (filled (text j))) ≡ drop (184 * suc q) (filled (text j)) =
          drop-drop 184 (184 * q) (filled (text j)) ∙ ap (λ (n : ℕ). drop n (filled (text j))) (omega (arith, mul-suc 184 q)) in
          rw (here, lt-ltb (184 * q) (1 + length (text j)) less, rest, no, more, on) refl
      | inr none ↦
          let left : section_packets (text j) - q ≡ 0 = omega (arith, none) in
          let after : section_packets (text j) - suc q ≡ 0 = omega (arith, none) in
          rw (here, le-ltb (184 * q) (1 + length (text j)) none, rest, left, after) refl
    ]

from_start : (text : List ℕ) → marked (start_by (0 == 0) false) (first_chunks 184 (section_packets text - 0) (drop (184 * 0) (filled text))) ≡ section_pieces
    text
unfolding filled_section
from_start text =
    let a : section_packets text - 0 ≡ section_packets text = omega arith in
    let b : 184 * 0 ≡ 0 = omega arith in
    rw (a, b) refl

-- The places of a round carry the payloads of its sections.
round_is_sections : (text : ℕ → List ℕ) (j : ℕ) (ls : List ℕ) → ((i : ℕ) → i < length ls → length (text (j + i)) ≤ slice_index_or ls i 0) →
    places_pieces text j ls 0 (round_places ls) ≡ flat_map section_pieces (sections_from text j ls)
unfolding places_pieces sections_from
round_is_sections text j [] room = refl
round_is_sections text j (l ∷ ls) room =
    let first : length (text (j + 0)) ≤ l = room 0 (omega arith) in
    let here : j + 0 ≡ j = omega arith in
    let fits : length (text j) ≤ l = subst (λ (n : ℕ). length (text n) ≤ l) here first in
    let one : section_packets (text j) ≤ places_of l = omega (arith, fits) in
    let size : round_places (l ∷ ls) ≡ places_of l + round_places ls = sum_by-cons places_of l ls in
    let start : 0 + places_of l ≡ places_of l = omega arith in
    let next : places_of l ≡ places_of l + 0 = omega arith in
    let others : (i : ℕ) → i < length ls → length (text (suc j + i)) ≤ slice_index_or ls i 0 =
    λ i less. let same : j + suc i ≡ suc j + i =
    omega arith in subst (λ (n : ℕ). length (text n) ≤ slice_index_or ls i 0) same (room (suc i) (omega (arith, less))) in
    ap (places_pieces text j (l ∷ ls) 0) size ∙ places_split text j (l ∷ ls) 0 (places_of l) (round_places ls)
    ∙ ap₂ (λ (xs ys : List Piece). xs ++ ys) (section_places text j l ls 0 (places_of l) start one ∙ from_start (text j))
    (ap (λ (n : ℕ). places_pieces text j (l ∷ ls) n (round_places ls)) start ∙ places_shift text j l ls (places_of l) 0 (round_places ls) next
    ∙ round_is_sections text (suc j) ls others)
    ∙ sym (flat_map-cons section_pieces (text j) (sections_from text (suc j) ls))

-- Slot by slot

slots_more : (own : ℕ → Bool) (s n : ℕ) → own_slots own s (suc n) ≡ own_slots own s n ++ cond (own (s + n)) ((s + n) ∷ []) []
unfolding own_slots
slots_more own s zero = let e : s ≡ s + 0 = omega arith in ap (λ (k : ℕ). cond (own k) (k ∷ []) []) e
slots_more own s (suc n) =
    let e : suc s + n ≡ s + suc n = omega arith in
    let last : ℕ → List ℕ = λ k. cond (own k) (k ∷ []) [] in
    let rest : own_slots own (suc s) (suc n) ≡ own_slots own (suc s) n ++ last (s + suc n) =
    slots_more own (suc s) n ∙ ap (λ (k : ℕ). own_slots own (suc s) n ++ last k) e in
    elim (cases_Bool (own s)) [ inl y ↦ rw y (ap (λ (xs : List ℕ). s ∷ xs) rest) | inr k ↦ rw k rest ]

slot_more : (own : ℕ → Bool) (n : ℕ) → own_slots own 0 (suc n) ≡ own_slots own 0 n ++ cond (own n) (n ∷ []) []
slot_more own n = let e : 0 + n ≡ n = omega arith in slots_more own 0 n ∙ ap (λ (k : ℕ). own_slots own 0 n ++ cond (own k) (k ∷ []) []) e

-- The payloads of the table before slot n, and the payloads of the sections of all rounds that have begun
abbrev sent : Table → ℕ → List Piece
sent table n = map piece_in (table_payloads table n)

abbrev all_of : Table → ℕ → List Piece
all_of table n = flat_map section_pieces (sections_of_rounds table n)

put_listed : (s : ℕ) (o : Option Piece) → map piece_in (put s o) ≡ listed o
put_listed s None = refl
put_listed s (Some piece) = refl

sent_more : (table : Table) (n : ℕ) → table.own n ≡ true → sent table (suc n) ≡ sent table n ++ listed (part_at table n)
sent_more table n y =
    let f : ℕ → List Payload = λ s. put s (part_at table s) in
    let slots : own_slots table.own 0 (suc n) ≡ own_slots table.own 0 n ++ n ∷ [] =
    slot_more table.own n ∙ ap (λ (b : Bool). own_slots table.own 0 n ++ cond b (n ∷ []) []) y in
    ap (λ (xs : List ℕ). map piece_in (flat_map f xs)) slots
    ∙ ap (map piece_in)
    (flat_map-append f (own_slots table.own 0 n) (n ∷ [])
    ∙ ap (λ (ps : List Payload). flat_map f (own_slots table.own 0 n) ++ ps) (flat_map-cons f n [] ∙ append-nil (f n)))
    ∙ map-append piece_in (flat_map f (own_slots table.own 0 n)) (f n)
    ∙ ap (λ (xs : List Piece). sent table n ++ xs) (put_listed n (part_at table n))

sent_same : (table : Table) (n : ℕ) → table.own n ≡ false → sent table (suc n) ≡ sent table n
sent_same table n k =
    let f : ℕ → List Payload = λ s. put s (part_at table s) in
    ap (λ (xs : List ℕ). map piece_in (flat_map f xs))
    (slot_more table.own n ∙ ap (λ (b : Bool). own_slots table.own 0 n ++ cond b (n ∷ []) []) k ∙ append-nil (own_slots table.own 0 n))

abbrev begins : Table → ℕ → Bool
begins table = starts table.own (round_places table.lengths) 0

all_more : (table : Table) (n : ℕ) → begins table n ≡ true → all_of table (suc n) ≡ all_of table n ++ flat_map section_pieces (round_sections table n)
all_more table n y =
    let old : List ℕ = own_slots (begins table) 0 n in
    let slots : own_slots (begins table) 0 (suc n) ≡ old ++ n ∷ [] = slot_more (begins table) n ∙ ap (λ (b : Bool). old ++ cond b (n ∷ []) []) y in
    let texts : sections_of_rounds table (suc n) ≡ sections_of_rounds table n ++ round_sections table n =
    ap (flat_map (round_sections table)) slots ∙ flat_map-append (round_sections table) old (n ∷ [])
    ∙ ap (λ (xs : List (List ℕ)). sections_of_rounds table n ++ xs) (flat_map-cons (round_sections table) n [] ∙ append-nil (round_sections table n)) in
    ap (flat_map section_pieces) texts ∙ flat_map-append section_pieces (sections_of_rounds table n) (round_sections table n)

all_same : (table : Table) (n : ℕ) → begins table n ≡ false → all_of table (suc n) ≡ all_of table n
all_same table n k =
    let old : List ℕ = own_slots (begins table) 0 n in
    ap (λ (xs : List ℕ). flat_map section_pieces (flat_map (round_sections table) xs))
    (slot_more (begins table) n ∙ ap (λ (b : Bool). old ++ cond b (n ∷ []) []) k ∙ append-nil old)

-- The payloads that remain of the round of slot b, from place i on
abbrev to_come : Table → ℕ → ℕ → List Piece
to_come table b i = places_pieces (λ j. table.bytes b j (moment_of table b)) 0 table.lengths i (round_places table.lengths - i)

-- The payloads that remain: none between rounds
unfoldable left : Table → ℕ → ℕ → List Piece
left table b i = cond (i == 0) [] (to_come table b i)

abbrev left_at : Table → ℕ → List Piece
left_at table n = left table (round_before table.own (round_places table.lengths) n) (own_before table.own n % round_places table.lengths)

-- What remains after the place of an own slot
left_next : (table : Table) (b m : ℕ) → 0 < round_places table.lengths →
    left table b ((m + 1) % round_places table.lengths) ≡ to_come table b (suc (m % round_places table.lengths))
unfolding left places_pieces
left_next table b m some =
    let k : ℕ = round_places table.lengths in
    let below : m % k < k = mod_below m k some in
    elim (cases_lt (suc (m % k)) k) [
      | inl less ↦
          let e : m % k + 1 < k = omega (arith, less) in
          let on : (m + 1) % k ≡ suc (m % k) = sym (mod-add-mod m k 1) ∙ mod-eq_of_lt e ∙ omega arith in
          let no : (suc (m % k) == 0) ≡ false = ne_eqb (suc (m % k)) 0 (λ x. omega (arith, x)) in
          rw (on, no) refl
      | inr over ↦
          let e : m % k + 1 ≡ k = omega (arith, over, below) in
          let on : (m + 1) % k ≡ 0 = sym (mod-add-mod m k 1) ∙ ap (λ (n : ℕ). n % k) e ∙ mod_self k in
          let none : k - suc (m % k) ≡ 0 = omega (arith, e) in
          rw (on, none) refl
    ]

-- The place of an own slot is the first place that remains.
next_place : (table : Table) (b m : ℕ) (o : Option Piece) → 0 < round_places table.lengths →
    o ≡ place_part (λ j. table.bytes b j (moment_of table b)) (place_in 0 table.lengths (m % round_places table.lengths)) →
    listed o ++ left table b ((m + 1) % round_places table.lengths) ≡ to_come table b (m % round_places table.lengths)
unfolding places_pieces
next_place table b m o some is =
    let k : ℕ = round_places table.lengths in
    let below : m % k < k = mod_below m k some in
    let more : k - m % k ≡ suc (k - suc (m % k)) = omega (arith, below) in
    rw (is, left_next table b m some, more) refl

-- The part of an own slot belongs to the latest round.
part_is : (table : Table) (n : ℕ) → HasRoom table → part_at table n
    ≡ place_part (λ j. table.bytes (round_before table.own (round_places table.lengths) (suc n)) j
    (moment_of table (round_before table.own (round_places table.lengths) (suc n))))
    (place_in 0 table.lengths (own_before table.own n % round_places table.lengths))
part_is table n room =
    ap (λ (from : Option ℕ). cond (not_yet from (begin_before table (suc n))) None (part_of (bytes_at table n) (place_at table n).part)) room.from
    ∙ ap (λ (l : List ℕ). part_of l (place_at table n).part)
    (room.steady (begin_before table (suc n)) (round_before table.own (round_places table.lengths) (suc n)) (place_at table n).section
    (moment_before table (suc n)))

own_sent : (table : Table) (n : ℕ) → HasRoom table → 0 < round_places table.lengths → ((b : ℕ) → to_come table b 0 ≡ flat_map section_pieces (round_sections table b)) →
    table.own n ≡ true → sent table n ++ left_at table n ≡ all_of table n → sent table (suc n) ++ left_at table (suc n) ≡ all_of table (suc n)
unfolding left round_before
own_sent table n room some whole mine before =
    let k : ℕ = round_places table.lengths in
    let m : ℕ = own_before table.own n in
    let b : ℕ = round_before table.own k (suc n) in
    let count : own_before table.own (suc n) ≡ m + 1 = own_before_own table.own n mine in
    let step : sent table (suc n) ++ left_at table (suc n) ≡ sent table n ++ to_come table b (m % k) =
    ap₂ (λ (xs : List Piece) (i : ℕ). xs ++ left table b (i % k)) (sent_more table n mine) count
    ∙ append_assoc (sent table n) (listed (part_at table n)) (left table b ((m + 1) % k))
    ∙ ap (λ (xs : List Piece). sent table n ++ xs) (next_place table b m (part_at table n) some (part_is table n room)) in
    elim (cases_Bool (m % k == 0)) [
      | inl first ↦
          let zero_place : m % k ≡ 0 = eqb-true (m % k) 0 first in
          let new : b ≡ n = rw (mine, first) refl in
          let starting : begins table n ≡ true = rw (mine, first) refl in
          let none : left_at table n ≡ [] = rw first refl in
          let old : sent table n ≡ all_of table n = sym (append-nil (sent table n)) ∙ ap (λ (xs : List Piece). sent table n ++ xs) (sym none) ∙ before in
          step ∙ ap₂ (λ (xs : List Piece) (i : ℕ). xs ++ to_come table b i) old zero_place ∙ ap (λ (c : ℕ). all_of table n ++ to_come table c 0) new
          ∙ ap (λ (xs : List Piece). all_of table n ++ xs) (whole n) ∙ sym (all_more table n starting)
      | inr later ↦
          let same : b ≡ round_before table.own k n = rw (mine, later) refl in
          let going : begins table n ≡ false = rw (mine, later) refl in
          let was : left_at table n ≡ to_come table (round_before table.own k n) (m % k) = rw later refl in
          step ∙ ap (λ (c : ℕ). sent table n ++ to_come table c (m % k)) same ∙ ap (λ (xs : List Piece). sent table n ++ xs) (sym was)
          ∙ before ∙ sym (all_same table n going)
    ]

-- The payloads sent and the payloads that remain make up the rounds that have begun.
all_sent : (table : Table) (n : ℕ) → HasRoom table → 0 < round_places table.lengths →
    ((b : ℕ) → to_come table b 0 ≡ flat_map section_pieces (round_sections table b)) → sent table n ++ left_at table n ≡ all_of table n
unfolding left round_before own_before own_slots
all_sent table zero room some whole =
    let z : 0 % round_places table.lengths ≡ 0 = mod-eq_of_lt some in rw z refl
all_sent table (suc n) room some whole = elim (cases_Bool (table.own n)) [
  | inr other ↦
      let same : begins table n ≡ false = rw other refl in
      let count : own_before table.own (suc n) ≡ own_before table.own n = own_before_other table.own n other in
      let round : round_before table.own (round_places table.lengths) (suc n) ≡ round_before table.own (round_places table.lengths) n = rw other refl in
      ap₂ (λ (xs ys : List Piece). xs ++ ys) (sent_same table n other) (ap₂ (λ (b m : ℕ). left table b (m % round_places table.lengths)) round count)
      ∙ all_sent table n room some whole ∙ sym (all_same table n same)
  | inl mine ↦ own_sent table n room some whole mine (all_sent table n room some whole)
]

sent_length : (ps : List Payload) → length (map piece_in ps) ≡ length ps
sent_length [] = refl
sent_length (p ∷ ps) = ap suc (sent_length ps)

pub rounds_are_sections : RoundsAreSections
rounds_are_sections table n some room =
    let whole : (b : ℕ) → to_come table b 0 ≡ flat_map section_pieces (round_sections table b) =
    λ b. let all : round_places table.lengths - 0 ≡ round_places table.lengths = omega arith in
    ap (places_pieces (λ j. table.bytes b j (moment_of table b)) 0 table.lengths 0) all
    ∙ round_is_sections (λ j. table.bytes b j (moment_of table b)) 0 table.lengths
    (λ i less. let z : i ≡ 0 + i =
    omega arith in subst (λ (j : ℕ). length (table.bytes b j (moment_of table b)) ≤ slice_index_or table.lengths i 0) z (room.fits b i (moment_of table b) less)) in
    sym (take-append_seam (sent table n) (left_at table n))
    ∙ ap₂ (λ (m : ℕ) (xs : List Piece). take m xs) (sent_length (table_payloads table n)) (all_sent table n room some whole)
