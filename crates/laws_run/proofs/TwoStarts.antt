-- A table whose sections recur within half a second begins twice in a run of more than a second, so its first section is whole.
use Rattle.std.proofs.Common.{◌≡◌, ◌≤◌, ◌<◌, ℕ, zero, suc, ◌+◌, ◌-◌, ◌*◌, Bool, true, false, List, [], ◌∷◌, ◌++◌, length, map, take, Option, Some, slice_get}
use Rattle.std.proofs.Common.{option_map, All, refl, sym, ap, subst, ◌∙◌, inl, inr, arith}
use Rattle.std.specs.List.{concat, flat_map}
use Rattle.std.specs.Simd.{first_chunks}
use Rattle.std.proofs.lemmas.Bool.{cases_Bool}
use Rattle.std.proofs.lemmas.List.Elements.{All-nil, All-cons}
use Rattle.std.proofs.lemmas.List.Concat.{flat_map-cons}
use Rattle.std.proofs.lemmas.List.Folds.{flat_map-map}
use Rattle.std.proofs.lemmas.Option.{slice_get-map, slice_get_within}
use Rattle.clock27.specs.Recurrence.{Recur}
use Rattle.own_slots.specs.Slots.{own_slots}
use Rattle.own_slots.specs.Rounds.{starts}
use Rattle.ts_packet.specs.Beginnings.{is_start, start_by}
use Rattle.ts_packet.specs.PidList.{Entry, pid_list}
use Rattle.slot_contents.specs.Contents.{Piece, payload_at}
use Rattle.description_parts.specs.Ranges.{IsInRange}
use Rattle.description_parts.specs.Tables.{table_count, table_pid, section_count, section_lengths}
use Rattle.description.specs.SectionBytes.{table_bytes}
use Rattle.description.proofs.Pids.{at_place}
use Rattle.slot_plan.specs.TableRounds.{section_starts}
use Rattle.unit_queue.specs.Payloads.{marked, piece_in}
use Rattle.table_rounds.specs.Tables.{Table, round_places}
use Rattle.table_rounds.specs.Payloads.{table_payloads}
use Rattle.table_rounds.proofs.SectionStarts.{start_indicated}
use Rattle.laws_run.specs.Sections.{filled_section, section_packets, section_pieces}
use Rattle.laws_run.specs.Rounds.{sections_of_rounds}
use Rattle.laws_run.proofs.FoundInRun.{piece_lists}
use Rattle.laws_run.proofs.TablePieces.{rounds_are_sections}
use Rattle.mux_core.specs.Scheduled.{Scheduled}
use Rattle.mux_core.specs.Histories.{table_of}
use Rattle.mux_core.specs.Headline.{TableKept}
use Rattle.mux_core.specs.Decoder.{pieces_on, put_together, cut_thing}
use Rattle.mux_core.proofs.PutTogether.{IsSome, all_marked}
use Rattle.laws_run.proofs.DistinguishableSections.{rounds_all}
use Rattle.laws_run.proofs.PutSections.{first_ends, first_whole, chunks_count, fill_after, section_joined}
use Rattle.laws_run.proofs.RunFindings.{has_places, has_room}

-- Two begins of a table

-- The first own slot, and the own slots after it
record First (own : ℕ → Bool) (s n a : ℕ) (rest : List ℕ) : Type 0 where
  left : ℕ
  is_own : own a ≡ true
  low : s ≤ a
  sum : suc a + left ≡ s + n
  others : own_slots own (suc a) left ≡ rest

first_own : (own : ℕ → Bool) (s n a : ℕ) (rest : List ℕ) → own_slots own s n ≡ a ∷ rest → First own s n a rest
unfolding own_slots
first_own own s zero a rest e = absurd (let no : ⊥ = cc in no)
first_own own s (suc n) a rest e = elim (cases_Bool (own s)) [
  | inl y ↦
      let here : own_slots own s (suc n) ≡ s ∷ own_slots own (suc s) n = rw y refl in
      let both : s ∷ own_slots own (suc s) n ≡ a ∷ rest = sym here ∙ e in
      let same : s ≡ a = cc in
      let others : own_slots own (suc s) n ≡ rest = cc in
      record {
        left = n;
        is_own = sym (ap own same) ∙ y;
        low = omega (arith, same);
        sum = omega (arith, same);
        others = ap (λ (x : ℕ). own_slots own (suc x) n) (sym same) ∙ others;
      }
  | inr k ↦
      let here : own_slots own s (suc n) ≡ own_slots own (suc s) n = rw k refl in
      let f = first_own own (suc s) n a rest (sym here ∙ e) in
      record { left = f.left; is_own = f.is_own; low = omega (arith, f.low); sum = omega (arith, f.sum); others = f.others }
]

pub record TwoStarts (own : ℕ → Bool) (n : ℕ) : Type 0 where
  pub one : ℕ
  pub two : ℕ
  pub one_own : own one ≡ true
  pub two_own : own two ≡ true
  pub apart : one < two
  pub within : two < n

two_of : (own : ℕ → Bool) (rate n : ℕ) (slots : List ℕ) → 1000 * rate < n * 1504000 → own_slots own 0 n ≡ slots →
    Recur rate 500 0 (map (λ s. 188 * s) slots) (188 * n) →
    TwoStarts own n
unfolding Recur
two_of own rate n [] long e recur = absurd (omega (arith, long, recur))
two_of own rate n (a ∷ []) long e recur = let f = first_own own 0 n a [] e in absurd (omega (arith, long, recur.0, recur.1, f.sum))
two_of own rate n (a ∷ b ∷ rest) long e recur =
    let f = first_own own 0 n a (b ∷ rest) e in
    let g = first_own own (suc a) f.left b rest f.others in
    record { one = a; two = b; one_own = f.is_own; two_own = g.is_own; apart = omega (arith, g.low); within = omega (arith, f.sum, g.sum) }

pub two_starts : (own : ℕ → Bool) (rate limit n : ℕ) → 1000 * rate < n * 1504000 → limit ≡ 500 →
    Recur rate limit 0 (map (λ s. 188 * s) (own_slots own 0 n)) (188 * n) →
    TwoStarts own n
two_starts own rate limit n long is recur =
    two_of own rate n (own_slots own 0 n) long refl (subst (λ (l : ℕ). Recur rate l 0 (map (λ s. 188 * s) (own_slots own 0 n)) (188 * n)) is recur)

-- A begin after the first packet

record Later (es : List Entry) : Type 0 where
  before : ℕ
  entry : Entry
  listed : slice_get es (suc before) ≡ Some entry
  start : entry.packet.header.payload_unit_start_indicator ≡ true

later_of : (es : List Entry) (m n : ℕ) (e f : Entry) → slice_get es m ≡ Some e → slice_get es n ≡ Some f → e.index < f.index →
    e.packet.header.payload_unit_start_indicator ≡ true → f.packet.header.payload_unit_start_indicator ≡ true → Later es
later_of es m (suc n) e f here there lt one two = record { before = n; entry = f; listed = there; start = two }
later_of es (suc m) zero e f here there lt one two = record { before = m; entry = e; listed = here; start = one }
later_of es zero zero e f here there lt one two =
    let both : Some e ≡ Some f = sym here ∙ there in
    let same : e ≡ f = cc in
    absurd (omega (arith, lt, ap (λ (x : Entry). x.index) same))

-- The first section, which the decoder puts together

chunks_of : List ℕ → List (List ℕ)
chunks_of section = first_chunks 184 (section_packets section) (filled_section section)

-- A section is never a point at which a decoder can start.
abbrev thing_of : List ℕ → Bool × List (List ℕ)
thing_of section = (false, chunks_of section)

some_chunks : (sections : List (List ℕ)) → All IsSome (map thing_of sections)
unfolding chunks_of
some_chunks [] = All-nil IsSome
some_chunks (x ∷ xs) = All-cons IsSome (thing_of x) (map thing_of xs) (omega (arith, chunks_count (section_packets x) (filled_section x))) (some_chunks xs)

joined_section : (section : List ℕ) → concat (chunks_of section) ≡ 0 ∷ (section ++ fill_after section)
unfolding chunks_of filled_section
joined_section section = section_joined section

all_sections : (sections : List (List ℕ)) → flat_map section_pieces sections ≡ all_marked (map thing_of sections)
unfolding chunks_of
all_sections sections = sym (flat_map-map cut_thing thing_of sections)

none_taken : (m j : ℕ) (p : Piece) → slice_get (take m []) j ≡ Some p → ⊥
none_taken zero j p is = let no : ⊥ = cc in no
none_taken (suc m) j p is = let no : ⊥ = cc in no

record FirstWhole (ps : List Piece) (sections : List (List ℕ)) : Type 0 where
  section : List ℕ
  first : slice_get sections 0 ≡ Some section
  whole : slice_get (put_together ps) 0 ≡ Some (0 ∷ (section ++ fill_after section))

whole_of : (ps : List Piece) (m j : ℕ) (p : Piece) (sections : List (List ℕ)) → ps ≡ take m (all_marked (map thing_of sections)) →
    slice_get ps (suc j) ≡ Some p →
    is_start p.start ≡ true → FirstWhole ps sections
whole_of ps m j p [] cut is start = absurd (none_taken m (suc j) p (subst (λ (x : List Piece). slice_get x (suc j) ≡ Some p) cut is))
whole_of ps m j p (x ∷ xs) cut is start = record {
  section = x;
  first = refl;
  whole = ap (λ (q : List Piece). slice_get (put_together q) 0) cut
      ∙ first_whole (thing_of x) (map thing_of xs) m j p (some_chunks (x ∷ xs)) (subst (λ (q : List Piece). slice_get q (suc j) ≡ Some p) cut is) start
      ∙ ap Some (joined_section x);
}

-- All packets of the first section were sent.
pub record FirstSent (sections : List (List ℕ)) (packets : ℕ) : Type 0 where
  pub section : List ℕ
  pub first : slice_get sections 0 ≡ Some section
  pub sent : section_packets section ≤ packets

sent_of : (ps : List Piece) (m j : ℕ) (p : Piece) (sections : List (List ℕ)) → ps ≡ take m (all_marked (map thing_of sections)) →
    slice_get ps (suc j) ≡ Some p →
    is_start p.start ≡ true → FirstSent sections (length ps)
unfolding chunks_of
sent_of ps m j p [] cut is begins = absurd (none_taken m (suc j) p (subst (λ (x : List Piece). slice_get x (suc j) ≡ Some p) cut is))
sent_of ps m j p (x ∷ xs) cut is begins =
    let start = start_by true false in
    let front : all_marked (thing_of x ∷ map thing_of xs) ≡ marked (start_by true false) (chunks_of x) ++ all_marked (map thing_of xs) =
    flat_map-cons cut_thing (thing_of x) (map thing_of xs) in
    let there : slice_get (take m (marked (start_by true false) (chunks_of x) ++ all_marked (map thing_of xs))) (suc j) ≡ Some p =
    subst (λ (q : List Piece). slice_get (take m q) (suc j) ≡ Some p) front (subst (λ (q : List Piece). slice_get q (suc j) ≡ Some p) cut is) in
    let ends = first_ends start (chunks_of x) (all_marked (map thing_of xs)) m j p there begins in
    let count : length (chunks_of x) ≡ section_packets x = chunks_count (section_packets x) (filled_section x) in
    record { section = x; first = refl; sent = omega (arith, ends, count, slice_get_within ps (suc j) p is) }

-- The payloads of a table

table_cut : (d : Scheduled) (t slots : ℕ) (bytes : List ℕ) → IsInRange d.description → t < table_count d.description → TableKept d t slots bytes →
    pieces_on (table_pid d.description t) bytes ≡ take (length (table_payloads (table_of d t) slots))
    (all_marked (map thing_of (sections_of_rounds (table_of d t) slots)))
table_cut d t slots bytes r lt kept =
    let table : Table = table_of d t in
    sym (piece_lists (pid_list (table_pid d.description t) bytes)) ∙ ap (map piece_in) kept.sections.payloads
    ∙ rounds_are_sections table slots (has_places d t r lt) (has_room d t r)
    ∙ ap (take (length (table_payloads table slots))) (all_sections (sections_of_rounds table slots))

-- A section begins after the first payload.
record BeginsAgain (ps : List Piece) : Type 0 where
  before : ℕ
  piece : Piece
  is : slice_get ps (suc before) ≡ Some piece
  start : is_start piece.start ≡ true

table_again : (d : Scheduled) (t slots : ℕ) (bytes : List ℕ) → 0 < section_count d.description t → TableKept d t slots bytes →
    TwoStarts (section_starts d.description d.schedule t 0) slots →
    BeginsAgain (pieces_on (table_pid d.description t) bytes)
table_again d t slots bytes some kept two =
    let es : List Entry = pid_list (table_pid d.description t) bytes in
    let a = kept.begins 0 two.one some refl (omega (arith, two.apart, two.within)) two.one_own in
    let b = kept.begins 0 two.two some refl two.within two.two_own in
    let l = later_of es a.number b.number a.entry b.entry a.listed b.listed (omega (arith, a.slot, b.slot, two.apart)) a.start b.start in
    record {
      before = l.before;
      piece = piece_in (payload_at l.entry);
      is = slice_get-map (λ (e : Entry). piece_in (payload_at e)) es (suc l.before)
          ∙ ap (λ (o : Option Entry). option_map (λ (e : Entry). piece_in (payload_at e)) o) l.listed;
      start = start_indicated l.entry.packet ∙ l.start;
    }

-- The decoder first puts together a section of the table, with pointer_field 0 before it and stuffing after it.
pub record FindsSection (P : List ℕ → Type 0) (pid : ℕ) (bytes : List ℕ) : Type 0 where
  pub section : List ℕ
  pub is : P section
  pub whole : slice_get (put_together (pieces_on pid bytes)) 0 ≡ Some (0 ∷ (section ++ fill_after section))

pub table_reported : (P : List ℕ → Type 0) (d : Scheduled) (t slots : ℕ) (bytes : List ℕ) → IsInRange d.description → t < table_count d.description →
    0 < section_count d.description t →
    TableKept d t slots bytes → TwoStarts (section_starts d.description d.schedule t 0) slots →
    ((j moment : ℕ) → j < length (section_lengths d.description t) → P (table_bytes d.description t j moment)) →
    FindsSection P (table_pid d.description t) bytes
table_reported P d t slots bytes r lt some kept two each =
    let table : Table = table_of d t in
    let l = table_again d t slots bytes some kept two in
    let w = whole_of (pieces_on (table_pid d.description t) bytes) (length (table_payloads table slots)) l.before l.piece (sections_of_rounds table slots)
    (table_cut d t slots bytes r lt kept) l.is l.start in
    let all : All P (sections_of_rounds (table_of d t) slots) = rounds_all P table (own_slots (starts table.own (round_places table.lengths) 0) 0 slots) (λ s. each) in
    record { section = w.section; is = at_place P (sections_of_rounds table slots) 0 w.section all w.first; whole = w.whole }

pub table_sent : (d : Scheduled) (t slots : ℕ) (bytes : List ℕ) → IsInRange d.description → t < table_count d.description → 0 < section_count d.description t →
    TableKept d t slots bytes → TwoStarts (section_starts d.description d.schedule t 0) slots →
    FirstSent (sections_of_rounds (table_of d t) slots) (length (pieces_on (table_pid d.description t) bytes))
table_sent d t slots bytes r lt some kept two =
    let l = table_again d t slots bytes some kept two in
    sent_of (pieces_on (table_pid d.description t) bytes) (length (table_payloads (table_of d t) slots)) l.before l.piece
    (sections_of_rounds (table_of d t) slots)
    (table_cut d t slots bytes r lt kept) l.is l.start
