-- Sections of a table with parts have no errors if the sections of each part begin in time.
use Rattle.std.proofs.Common.{◌≡◌, ◌∙◌, ℕ, zero, suc, ◌+◌, ◌-◌, ◌*◌, ◌/◌, ◌≤◌, ◌<◌, ◌==◌, nat_le, nat_eq, Bool, true, false, cond, List, [], ◌∷◌, ◌++◌, length}
use Rattle.std.proofs.Common.{take, drop}
use Rattle.std.proofs.Common.{map, filter, Option, Some, None, refl, sym, ap, ap₂, subst, arith, All, ne_eqb}
use Rattle.std.specs.Prelude.{slice_index, option_map}
use Rattle.std.specs.List.{cons_option, filter_map}
use Rattle.std.specs.Map.{lookup}
use Rattle.std.specs.Option.{option_to_list}
use Rattle.std.proofs.lemmas.Bool.{leb-false}
use Rattle.std.proofs.lemmas.List.Elements.{All-head, All-tail}
use Rattle.pes_packet.specs.Payloads.{piece_count}
use Rattle.pid_findings.specs.Views.{IsSection, IsTruncated, PidFinding}
use Rattle.demux.specs.Laws.{with_pid_at}
use Rattle.laws_run.specs.Sent.{Ending, each_found, if_sent, next_of, sendings}
use Rattle.laws_run.specs.Sections.{section_found, section_packets}
use Rattle.monitor.proofs.LatePlaces.{after, step}
use Rattle.tr101290.specs.Intervals.{IntervalState, before_in, error_at, error_if, key_of, key_with, part_before, part_key, part_places_at, parts_after}
use Rattle.tr101290.specs.Intervals.{places_after}
use Rattle.tr101290.specs.Intervals.{places_at, section_key, taken}
use Rattle.tr101290.specs.Limits.{limit_of, milliseconds}
use Rattle.tr101290.specs.Parts.{has_parts, part_in, part_of}
use Rattle.tr101290.specs.Sections.{begin_of, section_begin, section_by}
use Rattle.tr101290.specs.declared.intervals.SectionBegin.{SectionBegin}
use Rattle.tr101290.specs.declared.intervals.SectionPlaces.{SectionPlaces}
use Rattle.tr101290.specs.declared.intervals.TableError.{TableError}
use Rattle.tr101290.specs.declared.intervals.TableTiming.TheVariants.{ConstantRate}
use Rattle.laws_view.specs.Tables.{errors_from, sections_of}
use Rattle.laws_view.proofs.InsertedEntries.{kept, same_number}
use Rattle.laws_view.proofs.Tables.{last_after, last_place, one_error}
use Rattle.laws_view.proofs.LateEvents.{itself}

-- 1. The sections that begin in packets

-- The first packets of the sections of a part
unfoldable pub starts_with : ℕ → ℕ → List (List ℕ) → List ℕ → List ℕ
starts_with table_id part [] packets = []
starts_with table_id part (text ∷ texts) [] = []
starts_with table_id part (text ∷ texts) (i ∷ is) = cond (part_in table_id text == part)
    (i ∷ starts_with table_id part texts (drop (section_packets text) (i ∷ is)))
    (starts_with table_id part texts (drop (section_packets text) (i ∷ is)))

pub take_none : (c : ℕ) → take {A = ℕ} c [] ≡ []
take_none zero = refl
take_none (suc c) = refl

pub drop_none : (c : ℕ) → drop {A = ℕ} c [] ≡ []
drop_none zero = refl
drop_none (suc c) = refl

pub none_left : (c : ℕ) (is : List ℕ) → length (take c is) < c → drop c is ≡ []
none_left zero is h = absurd (omega (arith, h))
none_left (suc c) [] h = refl
none_left (suc c) (i ∷ is) h = none_left c is (omega (arith, h))

-- Without packets there are no findings.
none_sent : (n : ℕ) (texts : List (List ℕ)) (packets : List ℕ) → packets ≡ [] → each_found section_found n (sendings section_packets texts packets) ≡ []
unfolding each_found sendings if_sent
none_sent n [] packets e = refl
none_sent n (text ∷ texts) packets e =
    let c : ℕ = section_packets text in
    let nothing : take c packets ≡ [] = ap (take c) e ∙ take_none c in
    let rest : drop c packets ≡ [] = ap (drop c) e ∙ drop_none c in
    ap (λ (js : List ℕ). if_sent (section_found (next_of n (sendings section_packets texts (drop c packets))) text) js
    ++ each_found section_found n (sendings section_packets texts (drop c packets))) nothing
    ∙ none_sent n texts (drop c packets) rest

-- 2. The error of a section

none_there : (o : Option TableError) → map (λ (e : TableError). e.section.packet) (option_to_list o) ≡ [] → o ≡ None
none_there None e = refl
none_there (Some x) e = absurd (let no : ⊥ = cc in no)

none_first : (xs ys : List ℕ) → xs ++ ys ≡ [] → xs ≡ []
none_first [] ys e = refl
none_first (x ∷ xs) ys e = absurd (let no : ⊥ = cc in no)

none_last : (xs ys : List ℕ) → xs ++ ys ≡ [] → ys ≡ []
none_last [] ys e = e
none_last (x ∷ xs) ys e = absurd (let no : ⊥ = cc in no)

-- If no place is late after a first place, none is late without it.
pub without_first : (limit first : ℕ) (xs : List ℕ) → after limit (Some first) xs ≡ [] → after limit None xs ≡ []
without_first limit first [] e = refl
without_first limit first (x ∷ xs) e = none_last (step limit (Some first) x) (after limit (Some x) xs) e

pub at_pid : (pid : ℕ) (xs : List PidFinding) → filter_map section_begin (map (with_pid_at pid) xs) ≡ filter_map (λ at. section_begin (with_pid_at pid at)) xs
at_pid pid [] = refl
at_pid pid (x ∷ xs) = ap (cons_option (section_begin (with_pid_at pid x))) (at_pid pid xs)

-- If findings on a PID are equal, their sections are equal.
pub same_sections : (pid table_id : ℕ) (xs ys : List PidFinding) → map (with_pid_at pid) xs ≡ map (with_pid_at pid) ys →
    sections_of pid table_id xs ≡ sections_of pid table_id ys
same_sections pid table_id xs ys e =
    ap (filter (λ (s : SectionBegin). s.table_id == table_id)) (sym (at_pid pid xs) ∙ ap (filter_map section_begin) e ∙ at_pid pid ys)

module _ (rate limit pid table_id : ℕ) (some : 0 < rate) (m : milliseconds pid table_id ≡ Some limit) (parts : has_parts pid table_id ≡ true) where
  record IsPart (s : SectionBegin) (part : Option ℕ) (place : ℕ) : Type 0 where
    pid_is : s.pid ≡ pid
    table_is : s.table_id ≡ table_id
    part_is : s.part ≡ part
    packet_is : s.packet ≡ place
    place_is : s.place ≡ place

  abbrev key : ℕ
  key = key_of pid table_id

  abbrev last_of : IntervalState → ℕ → Option ℕ
  last_of j part = last_place (part_places_at j (key_with key part))

  key_is : (s : SectionBegin) (part : Option ℕ) (place : ℕ) → IsPart s part place → section_key s ≡ key
  key_is s part place h = ap₂ key_of h.pid_is h.table_is

  before_is : (j : IntervalState) (s : SectionBegin) (part : Option ℕ) (place : ℕ) → IsPart s part place → before_in j s ≡ part_before j s part
  before_is j s part place h =
      ap₂ (λ (a b : ℕ). cond (has_parts a b) (part_before j s s.part) (places_at j (section_key s))) h.pid_is h.table_is
      ∙ ap (λ (b : Bool). cond b (part_before j s s.part) (places_at j (section_key s))) parts
      ∙ ap (part_before j s) h.part_is

  part_error : (j : IntervalState) (s : SectionBegin) (part place : ℕ) → j.timing ≡ ConstantRate rate → IsPart s (Some part) place →
      step (limit * rate) (last_of j part) place ≡ [] → error_at j s ≡ None
  unfolding part_before
  part_error j s part place t h e =
      let before : before_in j s ≡ part_places_at j (key_with key part) =
      before_is j s (Some part) place h ∙ ap (λ (n : ℕ). part_places_at j (key_with n part)) (key_is s (Some part) place h) in
      let limit_is : limit_of s.pid s.table_id ≡ Some (limit * 27000) = ap₂ limit_of h.pid_is h.table_is ∙ ap (option_map (λ ms. ms * 27000)) m in
      none_there (error_at j s)
      (ap (λ (o : Option SectionPlaces). map (λ (e : TableError). e.section.packet) (option_to_list (error_if j.timing s o (limit_of s.pid s.table_id)))) before
      ∙ one_error rate limit j.timing s (part_places_at j (key_with key part)) (limit_of s.pid s.table_id) some t limit_is (h.place_is ∙ sym h.packet_is)
      ∙ ap (step (limit * rate) (last_of j part)) h.packet_is ∙ e)

  cut_error : (j : IntervalState) (s : SectionBegin) (place : ℕ) → IsPart s None place → error_at j s ≡ None
  unfolding part_before error_if
  cut_error j s place h = ap (λ (o : Option SectionPlaces). error_if j.timing s o (limit_of s.pid s.table_id)) (before_is j s None place h)

  -- The last place of each part after a section
  next_part : (j : IntervalState) (s : SectionBegin) (part other place : ℕ) (b : Bool) → IsPart s (Some part) place → (part == other) ≡ b →
      last_of (taken j s) other ≡ cond b (Some place) (last_of j other)
  unfolding parts_after
  next_part j s part other place b h e =
      ap (λ (o : Option ℕ). last_place (lookup (nat_eq (key_with key other)) (parts_after j s o))) h.part_is
      ∙ ap last_place (kept (key_with key other) (part_key s part) next j.parts b (test b e))
      ∙ of b
    where
      next : SectionPlaces
      next = places_after (part_places_at j (part_key s part)) s

      test : (b : Bool) → (part == other) ≡ b → (part_key s part == key_with key other) ≡ b
      test true f =
          ap₂ (λ (k n : ℕ). key_with k n == key_with key other) (key_is s (Some part) place h) (same_number part other f) ∙ itself (key_with key other)
      test false f = ne_eqb (part_key s part) (key_with key other) (λ k.
          let same : key_with key part ≡ key_with key other = ap (λ (n : ℕ). key_with n part) (sym (key_is s (Some part) place h)) ∙ k in
          let equal : part ≡ other = omega (arith, same) in
          let yes : (part == other) ≡ true = ap (λ (n : ℕ). n == other) equal ∙ itself other in
          let no : ⊥ = cc in no)

      of : (b : Bool) → last_place (cond b (Some next) (lookup (nat_eq (key_with key other)) j.parts)) ≡ cond b (Some place) (last_of j other)
      of true = ap (λ (n : ℕ). Some n) (last_after (part_places_at j (part_key s part)) s ∙ h.place_is)
      of false = refl

  -- 3. One section after another

  of_one : (j : IntervalState) (x : PidFinding) (found : List PidFinding) (s : SectionBegin) → section_begin (with_pid_at pid x) ≡ Some s →
      s.table_id ≡ table_id → error_at j s ≡ None → errors_from (taken j s) (sections_of pid table_id found) ≡ [] →
      errors_from j (sections_of pid table_id (x ∷ found)) ≡ []
  unfolding errors_from
  of_one j x found s begins table none rest =
      ap (λ (o : Option SectionBegin). errors_from j
      (filter (λ (z : SectionBegin). z.table_id == table_id) (cons_option o (filter_map (λ at. section_begin (with_pid_at pid at)) found)))) begins
      ∙ ap (λ (b : Bool). errors_from j (cond b (s ∷ sections_of pid table_id found) (sections_of pid table_id found)))
      (ap (λ (n : ℕ). n == table_id) table ∙ itself table_id)
      ∙ ap₂ (λ (o : Option TableError) (es : List TableError). option_to_list o ++ es) none rest

  abbrev section_at : ℕ → List ℕ → Option ℕ → SectionBegin
  section_at i text part = record { pid = pid; table_id = slice_index text 0; part = part; packet = i; place = i }

  whole_begin : (text : List ℕ) (i : ℕ) (js : List ℕ) (e : Ending) → nat_le (1 + length text) (184 * length (i ∷ js)) ≡ true →
      section_begin (with_pid_at pid (section_found e text i js)) ≡ Some (section_at i text (part_of pid (slice_index text 0) (IsSection text)))
  unfolding section_found section_by begin_of
  whole_begin text i js e y = rw y refl

  cut_begin : (text : List ℕ) (i : ℕ) (js : List ℕ) (e : Ending) → nat_le (1 + length text) (184 * length (i ∷ js)) ≡ false →
      section_begin (with_pid_at pid (section_found e text i js)) ≡ Some (section_at i text None)
  unfolding section_found section_by begin_of part_of
  cut_begin text i js e y = rw y refl

  part_is : (text : List ℕ) → slice_index text 0 ≡ table_id → part_of pid (slice_index text 0) (IsSection text) ≡ Some (part_in table_id text)
  unfolding part_of
  part_is text e =
      ap (λ (n : ℕ). cond (has_parts pid n) (Some (part_in n text)) None) e ∙ ap (λ (b : Bool). cond b (Some (part_in table_id text)) None) parts

  module _ (Good : ℕ → Type 0) where
    pub record IsText (text : List ℕ) : Type 0 where
      pub table_is : slice_index text 0 ≡ table_id
      pub good : Good (part_in table_id text)

    abbrev pub InTime : IntervalState → List (List ℕ) → List ℕ → Type 0
    InTime j texts packets = (part : ℕ) → Good part → after (limit * rate) (last_of j part) (starts_with table_id part texts packets) ≡ []

    -- After a whole section the later sections are in time.
    goes_on : (j : IntervalState) (s : SectionBegin) (i part : ℕ) (text : List ℕ) (texts : List (List ℕ)) (is left : List ℕ) → IsPart s (Some part) i →
        part_in table_id text ≡ part → drop (section_packets text) (i ∷ is) ≡ left → InTime j (text ∷ texts) (i ∷ is) → InTime (taken j s) texts left
    unfolding starts_with
    goes_on j s i part text texts is left h here rest all other good = by (part == other) refl
      where
        others : List ℕ
        others = starts_with table_id other texts left

        in_all : after (limit * rate) (last_of j other) (cond (part == other) (i ∷ others) others) ≡ []
        in_all =
            ap₂ (λ (p : ℕ) (xs : List ℕ). after (limit * rate) (last_of j other)
            (cond (p == other) (i ∷ starts_with table_id other texts xs) (starts_with table_id other texts xs))) (sym here) (sym rest)
            ∙ all other good

        by : (b : Bool) → (part == other) ≡ b → after (limit * rate) (last_of (taken j s) other) others ≡ []
        by true e =
            ap (λ (o : Option ℕ). after (limit * rate) o others) (next_part j s part other i true h e)
            ∙ none_last (step (limit * rate) (last_of j other) i) (after (limit * rate) (Some i) others)
            (ap (λ (b : Bool). after (limit * rate) (last_of j other) (cond b (i ∷ others) others)) (sym e) ∙ in_all)
        by false e =
            ap (λ (o : Option ℕ). after (limit * rate) o others) (next_part j s part other i false h e)
            ∙ ap (λ (b : Bool). after (limit * rate) (last_of j other) (cond b (i ∷ others) others)) (sym e) ∙ in_all

    -- A section in time is not late.
    in_time : (j : IntervalState) (i part : ℕ) (text : List ℕ) (texts : List (List ℕ)) (is : List ℕ) → part_in table_id text ≡ part → Good part →
        InTime j (text ∷ texts) (i ∷ is) → step (limit * rate) (last_of j part) i ≡ []
    unfolding starts_with
    in_time j i part text texts is here good all =
        none_first (step (limit * rate) (last_of j part) i) (after (limit * rate) (Some i) rest)
        (ap (λ (b : Bool). after (limit * rate) (last_of j part) (cond b (i ∷ rest) rest)) (sym (ap (λ (n : ℕ). n == part) here ∙ itself part)) ∙ all part good)
      where
        rest : List ℕ
        rest = starts_with table_id part texts (drop (section_packets text) (i ∷ is))

    pub no_errors : (n : ℕ) (j : IntervalState) (texts : List (List ℕ)) (packets : List ℕ) → j.timing ≡ ConstantRate rate → All IsText texts →
        InTime j texts packets → errors_from j (sections_of pid table_id (each_found section_found n (sendings section_packets texts packets))) ≡ []
    unfolding each_found sendings if_sent errors_from
    no_errors n j [] packets t texts_are all = refl
    no_errors n j (text ∷ texts) [] t texts_are all =
        ap (λ (found : List PidFinding). errors_from j (sections_of pid table_id found)) (none_sent n (text ∷ texts) [] refl)
    no_errors n j (text ∷ texts) (i ∷ is) t texts_are all =
        by (λ s left fine. no_errors n (taken j s) texts left t (All-tail IsText text texts texts_are) fine) (section_packets text - 1) (omega arith)
      where
        c : ℕ
        c = section_packets text

        is_text : IsText text
        is_text = All-head IsText text texts texts_are

        part : ℕ
        part = part_in table_id text

        goal_of : ℕ → Type 0
        goal_of k = errors_from j (sections_of pid table_id (if_sent
            (section_found (next_of n (sendings section_packets texts (drop k (i ∷ is)))) text) (take k (i ∷ is))
            ++ each_found section_found n (sendings section_packets texts (drop k (i ∷ is))))) ≡ []

        Rest : Type 0
        Rest = (s : SectionBegin) (left : List ℕ) → InTime (taken j s) texts left →
            errors_from (taken j s) (sections_of pid table_id (each_found section_found n (sendings section_packets texts left))) ≡ []

        by : Rest → (k : ℕ) → c ≡ suc k → goal_of c
        by rest k e = subst goal_of (sym e) (either (nat_le (1 + length text) (184 * length (i ∷ take k is))) refl)
          where
            left : List ℕ
            left = drop k is

            end : Ending
            end = next_of n (sendings section_packets texts left)

            either : (b : Bool) → nat_le (1 + length text) (184 * length (i ∷ take k is)) ≡ b → goal_of (suc k)
            either true y =
                let s : SectionBegin = section_at i text (part_of pid (slice_index text 0) (IsSection text)) in
                let h : IsPart s (Some part) i = record {
                  pid_is = refl;
                  table_is = is_text.table_is;
                  part_is = part_is text is_text.table_is;
                  packet_is = refl;
                  place_is = refl;
                } in
                of_one j (section_found end text i (take k is)) (each_found section_found n (sendings section_packets texts left)) s
                (whole_begin text i (take k is) end y) is_text.table_is
                (part_error j s part i t h (in_time j i part text texts is refl is_text.good all))
                (rest s left
                (goes_on j s i part text texts is left h refl (ap (λ (x : ℕ). drop x (i ∷ is)) e) all))
            either false y =
                let s : SectionBegin = section_at i text None in
                let h : IsPart s None i = record { pid_is = refl; table_is = is_text.table_is; part_is = refl; packet_is = refl; place_is = refl } in
                let short = leb-false (1 + length text) (184 * length (i ∷ take k is)) y in
                let few : length (take k is) < k = omega (arith, short, e) in
                of_one j (section_found end text i (take k is)) (each_found section_found n (sendings section_packets texts left)) s
                (cut_begin text i (take k is) end y) is_text.table_is (cut_error j s i h)
                (ap (λ (found : List PidFinding). errors_from (taken j s) (sections_of pid table_id found)) (none_sent n texts left (none_left k is few)))
