-- The packets of each section that a table sends: where they begin and end, place by place.
use Rattle.std.proofs.Common.{◌≡◌, ◌⊎◌, ℕ, zero, suc, ◌+◌, ◌-◌, ◌*◌, ◌%◌, ◌<◌, ◌≤◌, ◌==◌, nat_lt, Bool, true, false, cond, List, [], ◌∷◌, ◌++◌, length, map, filter, take, drop}
use Rattle.std.proofs.Common.{slice_index_or, Option, Some, None, refl, sym, ap, subst, ◌∙◌, inl, inr, arith, eq-eqb, ne_eqb, lt-ltb}
use Rattle.std.specs.Prelude.{⊤, is_some}
use Rattle.std.proofs.lemmas.List.{map-append}
use Rattle.std.specs.List.{flat_map}
use Rattle.std.specs.Simd.{first_chunks}
use Rattle.std.proofs.Math.Nat.{mod-eq_of_lt, mod_self, mod-add-mod}
use Rattle.std.proofs.lemmas.Bool.{cases_Bool, cases_lt, cases_eq, false≢true}
use Rattle.std.proofs.lemmas.List.Concat.{flat_map-cons}
use Rattle.std.proofs.lemmas.List.Sums.{sum_by-cons}
use Rattle.own_slots.specs.Slots.{own_before, own_slots}
use Rattle.own_slots.specs.Rounds.{starts}
use Rattle.own_slots.proofs.Counts.{Numbered, own_before_own, own_before_lt, before_from, number_of}
use Rattle.ts_packet.specs.declared.start.Start.TheVariants.{Begins, Continues}
use Rattle.ts_packet.specs.Beginnings.{is_start, start_by}
use Rattle.slot_contents.specs.Contents.{Payload, Piece, put}
use Rattle.unit_queue.specs.Payloads.{marked, piece_in}
use Rattle.table_rounds.specs.Parts.{places_of, filled, part_of}
use Rattle.table_rounds.specs.Tables.{Table, SectionPlace, round_places, place_in, place_at, begin_before, not_yet, bytes_at, part_at}
use Rattle.table_rounds.specs.Laws.{first_place, HasPlaces}
use Rattle.table_rounds.specs.Payloads.{table_payloads}
use Rattle.table_rounds.proofs.Places.{NumberedPlace, numbered_place, place_first, place_law}
use Rattle.table_rounds.proofs.CarouselSteps.{section_at}
use Rattle.laws_run.specs.Sent.{Sending, sendings, last_of}
use Rattle.laws_run.specs.Sections.{filled_section, section_packets, section_pieces}
use Rattle.laws_run.specs.Placed.{sent_sections}
use Rattle.laws_run.specs.Rounds.{HasRoom, sections_of_rounds}
use Rattle.laws_run.proofs.TablePieces.{rounds_are_sections}

-- ---- What is said of a section

-- A section of a table begins in the own slot `first`, and has no packet after the own slot `last`, up to which no other section begins
pub record IsPlaced (table : Table) (first last : ℕ) : Type 0 where
  pub begins : table.own first ≡ true
  pub part : (place_at table first).part ≡ 0
  pub ends : table.own last ≡ true
  pub alone : begin_before table (suc last) ≡ first

-- A section in packets from slot `first` to slot `last`, none before slot `least`: the part in the first packet is its begin
pub record IsSent (table : Table) (least : ℕ) (section : List ℕ) (first last : ℕ) : Type 0 where
  pub low : least ≤ first
  pub placed : IsPlaced table first last
  pub piece : part_at table first ≡ Some (record { start = Begins; bytes = take 184 (filled_section section) })

abbrev pub SentFrom : Table → ℕ → List ℕ → List ℕ → Type 0
SentFrom table low section [] = ⊤
SentFrom table low section (i ∷ is) = IsSent table low section i (last_of i is)

abbrev pub after_packets : ℕ → List ℕ → ℕ
after_packets low [] = low
after_packets low (i ∷ is) = suc (last_of i is)

-- Sections are sent one after another, each in its own place
unfoldable pub ArePlaced : Table → ℕ → List (Sending (List ℕ)) → Type 0
ArePlaced table low [] = ⊤
ArePlaced table low (x ∷ xs) = SentFrom table low x.item x.packets × ArePlaced table (after_packets low x.packets) xs

-- The section that begins in slot `first`, whose packets end in slot `last`, has its last place before a slot `to` in which a later section begins
pub record LastPlace (table : Table) (first last to : ℕ) : Type 0 where
  pub section : ℕ
  pub within : section < length table.lengths
  pub place : place_at table first ≡ record { section = section; part = 0 }
  pub from : ℕ
  pub low : last ≤ from
  pub before : from < to
  pub last_place : starts table.own (round_places table.lengths)
      (first_place table.lengths section + places_of (slice_index_or table.lengths section 0) - 1) from ≡ true

-- ---- Begins before a slot

none_begins : (table : Table) (s : ℕ) → table.own s ≡ false → begin_before table (suc s) ≡ begin_before table s
unfolding begin_before
none_begins table s n = rw n refl

goes_on : (table : Table) (s : ℕ) → table.own s ≡ true → ((place_at table s).part ≡ 0 → ⊥) → begin_before table (suc s) ≡ begin_before table s
unfolding begin_before
goes_on table s y some = let e : ((place_at table s).part == 0) ≡ false = ne_eqb (place_at table s).part 0 some in rw (y, e) refl

begin_low : (table : Table) (s : ℕ) → begin_before table s ≤ s
begin_low table zero = unfold begin_before in omega arith
begin_low table (suc s) = elim (cases_Bool (table.own s)) [
  | inl y ↦ elim (cases_eq (place_at table s).part 0) [
    | inl z ↦ omega (arith, section_at table s y z)
    | inr some ↦ omega (arith, goes_on table s y some, begin_low table s)
  ]
  | inr n ↦ omega (arith, none_begins table s n, begin_low table s)
]

begin_more : (table : Table) (s : ℕ) → begin_before table s ≤ begin_before table (suc s)
begin_more table s = elim (cases_Bool (table.own s)) [
  | inl y ↦ elim (cases_eq (place_at table s).part 0) [
    | inl z ↦ omega (arith, section_at table s y z, begin_low table s)
    | inr some ↦ omega (arith, goes_on table s y some)
  ]
  | inr n ↦ omega (arith, none_begins table s n)
]

-- A section that begins before a slot begins no later than the last one that does.
begin_last : (table : Table) (s d : ℕ) → table.own s ≡ true → (place_at table s).part ≡ 0 → s ≤ begin_before table (suc s + d)
begin_last table s zero y z =
    let here : suc s ≡ suc s + zero = omega arith in
    omega (arith, section_at table s y z, ap (begin_before table) here)
begin_last table s (suc d) y z =
    let here : suc (suc s + d) ≡ suc s + suc d = omega arith in
    omega (arith, begin_last table s d y z, begin_more table (suc s + d), ap (begin_before table) here)

-- ---- The payloads of a table from a slot on, after the section that began in slot `begin`

record IsPart (table : Table) (begin : ℕ) (p : Payload) : Type 0 where
  own : table.own p.index ≡ true
  piece : part_at table p.index ≡ Some (piece_in p)
  begins : is_start p.start ≡ true → (place_at table p.index).part ≡ 0
  on : is_start p.start ≡ false → begin_before table (suc p.index) ≡ begin

unfoldable Chain : Table → ℕ → ℕ → List Payload → Type 0
Chain table begin low [] = ⊤
Chain table begin low (p ∷ ps) = (low ≤ p.index) × (IsPart table begin p × Chain table (begin_before table (suc p.index)) (suc p.index) ps)

lower : (table : Table) (begin low : ℕ) (ps : List Payload) → Chain table begin (suc low) ps → Chain table begin low ps
unfolding Chain
lower table begin low [] chain = tt
lower table begin low (p ∷ ps) chain = (omega (arith, chain.0), chain.1)

starts_by : (b : Bool) → is_start (start_by b false) ≡ b
starts_by true = refl
starts_by false = refl

part_starts : (bytes : List ℕ) (q : ℕ) (piece : Piece) → part_of bytes q ≡ Some piece → is_start piece.start ≡ (q == 0)
unfolding part_of
part_starts bytes q piece e = by (nat_lt (184 * q) (1 + length bytes)) e
  where
    by : (b : Bool) → cond b (Some (record { start = start_by (q == 0) false; bytes = take 184 (drop (184 * q) (filled bytes)) })) None ≡ Some piece →
        is_start piece.start ≡ (q == 0)
    by true f = let same : start_by (q == 0) false ≡ piece.start = cc in ap is_start (sym same) ∙ starts_by (q == 0)
    by false f = absurd (cc)

none_some : {X : Type 0} (x : X) → Some x ≡ None → ⊥
none_some x e = absurd (cc)

some_first : (bytes : List ℕ) (q : ℕ) → q ≡ 0 → part_of bytes q ≡ None → ⊥
unfolding part_of
some_first bytes q z e =
    let some : nat_lt (184 * q) (1 + length bytes) ≡ true = lt-ltb (184 * q) (1 + length bytes) (omega (arith, z)) in
    none_some _ (sym (ap (λ (b : Bool). cond b (Some (record { start = start_by (q == 0) false; bytes = take 184 (drop (184 * q) (filled bytes)) })) None) some) ∙ e)

-- A table that is on air from slot 0 on
pub plain_part : (table : Table) (s : ℕ) → table.from ≡ None → part_at table s ≡ part_of (bytes_at table s) (place_at table s).part
plain_part table s from =
    ap (λ (o : Option ℕ). cond (not_yet o (begin_before table (suc s))) None (part_of (bytes_at table s) (place_at table s).part)) from

payload : ℕ → Piece → Payload
payload s p = record { index = s; start = p.start; bytes = p.bytes }

is_part : (table : Table) (s : ℕ) (piece : Piece) → table.from ≡ None → table.own s ≡ true → part_at table s ≡ Some piece →
    IsPart table (begin_before table s) (payload s piece)
unfolding payload
is_part table s piece from y e =
    let starts = part_starts (bytes_at table s) (place_at table s).part piece (sym (plain_part table s from) ∙ e) in
    record {
      own = y;
      piece = e;
      begins = λ b. zero_of (place_at table s).part (sym starts ∙ b);
      on = λ k. goes_on table s y (λ z. false≢true (sym k ∙ starts ∙ eq-eqb (place_at table s).part 0 z));
    }
  where
    zero_of : (q : ℕ) → (q == 0) ≡ true → q ≡ 0
    zero_of zero e = refl
    zero_of (suc q) e = absurd (false≢true (sym (ne_eqb (suc q) 0 (λ z. omega (arith, z))) ∙ e))

passed : (table : Table) (s : ℕ) → table.from ≡ None → table.own s ≡ true → part_at table s ≡ None → begin_before table (suc s) ≡ begin_before table s
passed table s from y e =
    goes_on table s y (λ z. some_first (bytes_at table s) (place_at table s).part z (sym (plain_part table s from) ∙ e))

abbrev payloads_from : Table → ℕ → ℕ → List Payload
payloads_from table s n = flat_map (λ t. put t (part_at table t)) (own_slots table.own s n)

chained : (table : Table) (s n : ℕ) → table.from ≡ None → Chain table (begin_before table s) s (payloads_from table s n)
unfolding own_slots Chain payload
chained table s zero from = tt
chained table s (suc n) from = elim (cases_Bool (table.own s)) [
  | inl y ↦
      let rest = chained table (suc s) n from in
      let here : payloads_from table s (suc n) ≡ put s (part_at table s) ++ payloads_from table (suc s) n =
      (rw y refl) ∙ flat_map-cons (λ t. put t (part_at table t)) s (own_slots table.own (suc s) n) in
      subst (Chain table (begin_before table s) s) (sym here) (by (part_at table s) refl y rest)
  | inr k ↦
      let here : payloads_from table s (suc n) ≡ payloads_from table (suc s) n = rw k refl in
      subst (Chain table (begin_before table s) s) (sym here)
      (lower table (begin_before table s) s (payloads_from table (suc s) n)
      (subst (λ (b : ℕ). Chain table b (suc s) (payloads_from table (suc s) n)) (none_begins table s k) (chained table (suc s) n from)))
]
  where
    by : (o : Option Piece) → part_at table s ≡ o → table.own s ≡ true →
        Chain table (begin_before table (suc s)) (suc s) (payloads_from table (suc s) n) →
        Chain table (begin_before table s) s (put s o ++ payloads_from table (suc s) n)
    by None e y rest =
        lower table (begin_before table s) s (payloads_from table (suc s) n)
        (subst (λ (b : ℕ). Chain table b (suc s) (payloads_from table (suc s) n)) (passed table s from y e) rest)
    by (Some piece) e y rest = (omega arith, (is_part table s piece from y e, rest))

-- ---- The packets of one section

record Walked (table : Table) (first last m : ℕ) (ps : List Payload) (rest : List Piece) : Type 0 where
  placed : IsPlaced table first (last_of last (take m (map (λ p. p.index) ps)))
  chain : Chain table first (suc (last_of last (take m (map (λ p. p.index) ps)))) (drop m ps)
  left : map piece_in (drop m ps) ≡ take (length (drop m ps)) rest

walked : (table : Table) (first last : ℕ) (chunks : List (List ℕ)) (ps : List Payload) (rest : List Piece) → IsPlaced table first last →
    Chain table first (suc last) ps → map piece_in ps ≡ take (length ps) (marked Continues chunks ++ rest) →
    Walked table first last (length chunks) ps rest
unfolding Chain marked
walked table first last [] ps rest placed chain same = record { placed = placed; chain = chain; left = same }
walked table first last (c ∷ chunks) [] rest placed chain same = record { placed = placed; chain = tt; left = refl }
walked table first last (c ∷ chunks) (p ∷ ps) rest placed chain same =
    let piece : piece_in p ≡ record { start = Continues; bytes = c } = cc in
    let others : map piece_in ps ≡ take (length ps) (marked Continues chunks ++ rest) = cc in
    let on : begin_before table (suc p.index) ≡ first = chain.1.0.on (ap (λ (x : Piece). is_start x.start) piece) in
    let next = walked table first p.index chunks ps rest (record { begins = placed.begins; part = placed.part; ends = chain.1.0.own; alone = on })
    (subst (λ (b : ℕ). Chain table b (suc p.index) ps) on chain.1.1) others in
    record { placed = next.placed; chain = next.chain; left = next.left }

-- ---- All sections

abbrev indices : List Payload → List ℕ
indices ps = map (λ p. p.index) ps

drop_indices : (m : ℕ) (ps : List Payload) → drop m (indices ps) ≡ indices (drop m ps)
drop_indices zero ps = refl
drop_indices (suc m) [] = refl
drop_indices (suc m) (p ∷ ps) = drop_indices m ps

chunk_count : (k : ℕ) (bytes : List ℕ) → length (first_chunks 184 k bytes) ≡ k
chunk_count zero bytes = refl
chunk_count (suc k) bytes = ap suc (chunk_count k (drop 184 bytes))

abbrev no_packets : List ℕ
no_packets = []

drop_none : (m : ℕ) → drop m no_packets ≡ no_packets
drop_none zero = refl
drop_none (suc m) = refl

take_none : (m : ℕ) → take m no_packets ≡ no_packets
take_none zero = refl
take_none (suc m) = refl

none_placed : (table : Table) (low : ℕ) (sections : List (List ℕ)) → ArePlaced table low (sendings section_packets sections no_packets)
unfolding sendings ArePlaced
none_placed table low [] = tt
none_placed table low (x ∷ xs) =
    let none : drop (section_packets x) no_packets ≡ no_packets = drop_none (section_packets x) in
    let taken : take (section_packets x) no_packets ≡ no_packets = take_none (section_packets x) in
    subst (λ (l : List ℕ). ArePlaced table low (record { item = x; packets = l } ∷ sendings section_packets xs (drop (section_packets x) no_packets))) (sym taken)
    (tt, subst (λ (l : List ℕ). ArePlaced table low (sendings section_packets xs l)) (sym none) (none_placed table low xs))

placed_all : (table : Table) (begin low : ℕ) (sections : List (List ℕ)) (ps : List Payload) → Chain table begin low ps →
    map piece_in ps ≡ take (length ps) (flat_map section_pieces sections) → ArePlaced table low (sendings section_packets sections (indices ps))
unfolding Chain sendings ArePlaced marked
placed_all table begin low [] ps chain same = tt
placed_all table begin low (x ∷ xs) [] chain same = none_placed table low (x ∷ xs)
placed_all table begin low (x ∷ xs) (p ∷ ps) chain same =
    let m : ℕ = section_packets x - 1 in
    let count : section_packets x ≡ suc m = omega arith in
    let chunks : List (List ℕ) = first_chunks 184 m (drop 184 (filled_section x)) in
    let rest : List Piece = flat_map section_pieces xs in
    let all : flat_map section_pieces (x ∷ xs) ≡ record { start = Begins; bytes = take 184 (filled_section x) } ∷ (marked Continues chunks ++ rest) =
    flat_map-cons section_pieces x xs ∙ ap (λ (k : ℕ). marked Begins (first_chunks 184 k (filled_section x)) ++ rest) count in
    let both : map piece_in (p ∷ ps) ≡ take (length (p ∷ ps)) (record { start = Begins; bytes = take 184 (filled_section x) } ∷ (marked Continues chunks ++ rest)) =
    same ∙ ap (take (length (p ∷ ps))) all in
    let piece : piece_in p ≡ record { start = Begins; bytes = take 184 (filled_section x) } = cc in
    let others : map piece_in ps ≡ take (length ps) (marked Continues chunks ++ rest) = cc in
    let zero_part : (place_at table p.index).part ≡ 0 = chain.1.0.begins (ap (λ (y : Piece). is_start y.start) piece) in
    let here : begin_before table (suc p.index) ≡ p.index = section_at table p.index chain.1.0.own zero_part in
    let size : length chunks ≡ m = chunk_count m (drop 184 (filled_section x)) in
    let walk : Walked table p.index p.index m ps rest =
    subst (λ (k : ℕ). Walked table p.index p.index k ps rest) size
    (walked table p.index p.index chunks ps rest (record { begins = chain.1.0.own; part = zero_part; ends = chain.1.0.own; alone = here })
    (subst (λ (b : ℕ). Chain table b (suc p.index) ps) here chain.1.1) others) in
    let last : ℕ = last_of p.index (take m (map (λ q. q.index) ps)) in
    let rest_placed : ArePlaced table (suc last) (sendings section_packets xs (indices (drop m ps))) =
    placed_all table p.index (suc last) xs (drop m ps) walk.chain walk.left in
    subst (λ (k : ℕ). ArePlaced table low (record { item = x; packets = take k (p.index ∷ indices ps) } ∷ sendings section_packets xs (drop k (p.index ∷ indices ps))))
    (sym count)
    (record { low = chain.0; placed = walk.placed; piece = chain.1.0.piece ∙ ap Some piece }, subst (λ (l : List ℕ). ArePlaced table (suc last) (sendings section_packets xs l)) (sym (drop_indices m ps)) rest_placed)

-- ---- The last place of a section, before the next section begins

mod_more : (a k d : ℕ) → a % k + d < k → (a + d) % k ≡ a % k + d
mod_more a k d lt = sym (mod-add-mod a k d) ∙ mod-eq_of_lt lt

mod_round : (a k d : ℕ) → a % k + d ≡ k → (a + d) % k ≡ 0
mod_round a k d e = sym (mod-add-mod a k d) ∙ ap (λ (n : ℕ). n % k) e ∙ mod_self k

mod_below : (a k : ℕ) → 0 < k → a % k < k
mod_below a k some = omega (arith, some)

abbrev pub number : Table → ℕ → ℕ
number table s = own_before table.own s

-- The places of a section end with the round, or before those of the next section.
top_places : (ls : List ℕ) (j : ℕ) → j < length ls → first_place ls j + places_of (slice_index_or ls j 0) ≤ round_places ls
top_places [] j lt = absurd (omega (arith, lt))
top_places (l ∷ ls) zero lt =
    let all : round_places (l ∷ ls) ≡ places_of l + round_places ls = sum_by-cons places_of l ls in
    let none : first_place (l ∷ ls) 0 ≡ 0 = refl in
    omega (arith, all, none)
top_places (l ∷ ls) (suc j) lt =
    let all : round_places (l ∷ ls) ≡ places_of l + round_places ls = sum_by-cons places_of l ls in
    let before : first_place (l ∷ ls) (suc j) ≡ places_of l + first_place ls j = sum_by-cons places_of l (take j ls) in
    omega (arith, all, before, top_places ls j (omega (arith, lt)))

next_places : (ls : List ℕ) (j : ℕ) → j < length ls →
    ((suc j < length ls) × (first_place ls (suc j) ≡ first_place ls j + places_of (slice_index_or ls j 0)))
    ⊎ (first_place ls j + places_of (slice_index_or ls j 0) ≡ round_places ls)
next_places [] j lt = absurd (omega (arith, lt))
next_places (l ∷ []) zero lt =
    let all : round_places (l ∷ []) ≡ places_of l + round_places [] = sum_by-cons places_of l [] in
    let none : first_place (l ∷ []) 0 ≡ 0 = refl in
    let rest : round_places [] ≡ 0 = refl in
    inr (omega (arith, all, none, rest))
next_places (l ∷ k ∷ ls) zero lt =
    let before : first_place (l ∷ k ∷ ls) 1 ≡ places_of l + first_place (k ∷ ls) 0 = sum_by-cons places_of l (take 0 (k ∷ ls)) in
    let none : first_place (l ∷ k ∷ ls) 0 ≡ 0 = refl in
    let first : first_place (k ∷ ls) 0 ≡ 0 = refl in
    inl (omega arith, omega (arith, before, none, first))
next_places (l ∷ ls) (suc j) lt =
    let all : round_places (l ∷ ls) ≡ places_of l + round_places ls = sum_by-cons places_of l ls in
    let before : first_place (l ∷ ls) (suc j) ≡ places_of l + first_place ls j = sum_by-cons places_of l (take j ls) in
    let after : first_place (l ∷ ls) (suc (suc j)) ≡ places_of l + first_place ls (suc j) = sum_by-cons places_of l (take (suc j) ls) in
    elim (next_places ls j (omega (arith, lt))) [
      | inl more ↦ inl (omega (arith, more.0), omega (arith, before, after, more.1))
      | inr last ↦ inr (omega (arith, all, before, last))
    ]

-- The section that begins in slot `first`
pub record Begun (table : Table) (first : ℕ) : Type 0 where
  pub section : ℕ
  pub within : section < length table.lengths
  pub place : place_at table first ≡ record { section = section; part = 0 }
  pub number : number table first % round_places table.lengths ≡ first_place table.lengths section

pub begun : (table : Table) (first : ℕ) → HasPlaces table → (place_at table first).part ≡ 0 → Begun table first
begun table first some z =
    let m : ℕ = number table first % round_places table.lengths in
    let n : NumberedPlace 0 table.lengths m = numbered_place 0 table.lengths m (mod_below (number table first) (round_places table.lengths) some) in
    let q : n.q ≡ 0 = sym (ap (λ (p : SectionPlace). p.part) n.place) ∙ z in
    let i : 0 + n.i ≡ n.i = omega arith in
    record {
      section = n.i;
      within = n.section;
      place = n.place ∙ ap (λ (x : ℕ). record { section = x; part = n.q }) i ∙ ap (λ (x : ℕ). record { section = n.i; part = x }) q;
      number = omega (arith, n.number, q);
    }

-- The place of the own slot that is q own slots after it
later_place : (table : Table) (first q s : ℕ) (b : Begun table first) → q < places_of (slice_index_or table.lengths b.section 0) →
    number table s ≡ number table first + q → place_at table s ≡ record { section = b.section; part = q }
later_place table first q s b lt e =
    let k : ℕ = round_places table.lengths in
    let top = top_places table.lengths b.section b.within in
    let at : number table s % k ≡ first_place table.lengths b.section + q =
    ap (λ (n : ℕ). n % k) e ∙ mod_more (number table first) k q (omega (arith, b.number, top, lt)) ∙ ap (λ (n : ℕ). n + q) b.number in
    ap (place_in 0 table.lengths) at ∙ place_law table.lengths b.section q b.within lt

-- Behind the places of a section the next one begins.
next_begins : (table : Table) (first s : ℕ) (b : Begun table first) →
    number table s ≡ number table first + places_of (slice_index_or table.lengths b.section 0) → (place_at table s).part ≡ 0
next_begins table first s b e = elim (next_places table.lengths b.section b.within) [
  | inl more ↦
      let k : ℕ = round_places table.lengths in
      let top = top_places table.lengths (suc b.section) more.0 in
      let at : number table s % k ≡ first_place table.lengths (suc b.section) + 0 =
      ap (λ (n : ℕ). n % k) e
      ∙ mod_more (number table first) k (places_of (slice_index_or table.lengths b.section 0)) (omega (arith, b.number, more.1, top))
      ∙ omega (arith, b.number, more.1) in
      ap (λ (p : SectionPlace). p.part) (ap (place_in 0 table.lengths) at ∙ place_law table.lengths (suc b.section) 0 more.0 (omega arith))
  | inr last ↦
      let k : ℕ = round_places table.lengths in
      let at : number table s % k ≡ 0 =
      ap (λ (n : ℕ). n % k) e ∙ mod_round (number table first) k (places_of (slice_index_or table.lengths b.section 0)) (omega (arith, b.number, last)) in
      ap (λ (p : SectionPlace). p.part) (ap (place_in 0 table.lengths) at ∙ place_first 0 table.lengths (omega (arith, b.within)))
]

pub begin_upto : (table : Table) (s : ℕ) → begin_before table (suc s) ≤ s
begin_upto table s = elim (cases_Bool (table.own s)) [
  | inl y ↦ elim (cases_eq (place_at table s).part 0) [
    | inl z ↦ omega (arith, section_at table s y z)
    | inr some ↦ omega (arith, goes_on table s y some, begin_low table s)
  ]
  | inr n ↦ omega (arith, none_begins table s n, begin_low table s)
]

-- The packets of a section are in its places.
in_places : (table : Table) (first last : ℕ) (b : Begun table first) → IsPlaced table first last →
    number table last < number table first + places_of (slice_index_or table.lengths b.section 0)
in_places table first last b placed = elim (cases_lt (number table last) (number table first + places_of (slice_index_or table.lengths b.section 0))) [
  | inl lt ↦ lt
  | inr le ↦
      let n : ℕ = number table first + places_of (slice_index_or table.lengths b.section 0) in
      let s : Numbered table.own n (suc last) = number_of table.own (suc last) n (omega (arith, le, own_before_own table.own last placed.ends)) in
      let part : (place_at table s.slot).part ≡ 0 = next_begins table first s.slot b s.number in
      let count : suc s.slot + (last - s.slot) ≡ suc last = omega (arith, s.before) in
      let begun_by : s.slot ≤ begin_before table (suc last) =
      subst (λ (x : ℕ). s.slot ≤ begin_before table x) count (begin_last table s.slot (last - s.slot) s.is_own part) in
      let later : first < s.slot = before_from table.own first s.slot (omega (arith, s.number)) in
      absurd (omega (arith, begun_by, later, placed.alone))
]

pub starts_there : (own : ℕ → Bool) (k place s : ℕ) → own s ≡ true → own_before own s % k ≡ place → starts own k place s ≡ true
starts_there own k place s y e =
    ap (λ (b : Bool). cond b (own_before own s % k == place) false) y ∙ eq-eqb (own_before own s % k) place e

pub last_place_before : (table : Table) (first last to : ℕ) → HasPlaces table → IsPlaced table first last → last < to → table.own to ≡ true →
    (place_at table to).part ≡ 0 → LastPlace table first last to
last_place_before table first last to some placed later y z =
    let b : Begun table first = begun table first some placed.part in
    let p : ℕ = places_of (slice_index_or table.lengths b.section 0) in
    let upto : first ≤ last = omega (arith, begin_upto table last, placed.alone) in
    let after : number table first + p ≤ number table to = behind b upto in
    let from : Numbered table.own (number table first + p - 1) to = number_of table.own to (number table first + p - 1) (omega (arith, after)) in
    let inside : number table last < number table first + p = in_places table first last b placed in
    let low : last ≤ from.slot = elim (cases_lt from.slot last) [
      | inl lt ↦ absurd (omega (arith, own_before_lt table.own from.slot last from.is_own lt, from.number, inside))
      | inr le ↦ le
    ] in
    let k : ℕ = round_places table.lengths in
    let top = top_places table.lengths b.section b.within in
    let at : number table from.slot % k ≡ first_place table.lengths b.section + p - 1 =
    ap (λ (n : ℕ). n % k) (from.number ∙ omega arith) ∙ mod_more (number table first) k (p - 1) (omega (arith, b.number, top)) ∙ omega (arith, b.number) in
    record {
      section = b.section;
      within = b.within;
      place = b.place;
      from = from.slot;
      low = low;
      before = from.before;
      last_place = starts_there table.own k (first_place table.lengths b.section + p - 1) from.slot from.is_own at;
    }
  where
    behind : (b : Begun table first) → first ≤ last → number table first + places_of (slice_index_or table.lengths b.section 0) ≤ number table to
    behind b upto = elim (cases_lt (number table to) (number table first + places_of (slice_index_or table.lengths b.section 0))) [
      | inl lt ↦
          let less : number table first + 1 ≤ number table to = own_before_lt table.own first to placed.begins (omega (arith, upto, later)) in
          let here : place_at table to ≡ record { section = b.section; part = number table to - number table first } =
          later_place table first (number table to - number table first) to b (omega (arith, lt, less)) (omega (arith, less)) in
          absurd (omega (arith, ap (λ (x : SectionPlace). x.part) here, z, less))
      | inr le ↦ le
    ]

-- ---- The sections of a table in the first n slots

one_put : (s : ℕ) (o : Option Piece) (rest : List ℕ) → indices (put s o) ++ rest ≡ cond (is_some o) (s ∷ rest) rest
one_put s None rest = refl
one_put s (Some piece) rest = refl

put_slots : (part : ℕ → Option Piece) (slots : List ℕ) → indices (flat_map (λ s. put s (part s)) slots) ≡ filter (λ s. is_some (part s)) slots
put_slots part [] = refl
put_slots part (s ∷ slots) =
    let f : ℕ → List Payload = λ t. put t (part t) in
    ap indices (flat_map-cons f s slots) ∙ map-append (λ (p : Payload). p.index) (put s (part s)) (flat_map f slots)
    ∙ ap (λ (xs : List ℕ). indices (put s (part s)) ++ xs) (put_slots part slots) ∙ one_put s (part s) (filter (λ t. is_some (part t)) slots)

pub sections_placed : (table : Table) (n : ℕ) → HasPlaces table → HasRoom table → ArePlaced table 0 (sent_sections table n)
sections_placed table n some room =
    subst (λ (slots : List ℕ). ArePlaced table 0 (sendings section_packets (sections_of_rounds table n) slots)) (put_slots (part_at table) (own_slots table.own 0 n))
    (placed_all table (begin_before table 0) 0 (sections_of_rounds table n) (table_payloads table n) (chained table 0 n room.from)
    (rounds_are_sections table n some room))
