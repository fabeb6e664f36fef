-- The state of a table that comes on air.
use Rattle.std.proofs.Common.{◌≡◌, ℕ, zero, suc, ◌+◌, ◌%◌, ◌<◌, ◌≤◌, ◌==◌, ◌&&◌, Bool, true, false, cond, nat_lt, List, [], length, map}
use Rattle.std.proofs.Common.{slice_index_or, Option, Some, None, refl, ap, sym, ◌∙◌, arith, inl, inr, lt-ltb, le-ltb}
use Rattle.std.proofs.lemmas.Bool.{cases_lt}
use Rattle.std.proofs.lemmas.List.{length-map}
use Rattle.slot_contents.specs.Contents.{Piece}
use Rattle.table_rounds.specs.Parts.{places_of, part_of}
use Rattle.table_rounds.specs.Tables.{Table, SectionPlace, round_places, place_in, place_at, begin_before, moment_before, not_yet, bytes_at, part_at, held_of}
use Rattle.table_rounds.specs.Tables.{one_if_some, payloads_before}
use Rattle.table_rounds.specs.Carousels.{Carousel, silent_carousel, section_advanced, advanced}
use Rattle.table_rounds.specs.Laws.{HasPlaces, SilentCarouselLaw}
use Rattle.table_rounds.proofs.Places.{NumberedPlace, numbered_place, place_first}
use Rattle.table_rounds.proofs.CarouselSteps.{has_section, first_carousel_holds}

-- The next place of a silent table
pub silent_next : (pid rate : ℕ) (ls : List ℕ) (n moment : ℕ) → n + 1 < round_places ls →
    advanced (silent_carousel pid rate ls (place_in 0 ls n) moment) ≡ silent_carousel pid rate ls (place_in 0 ls (n + 1)) moment
unfolding advanced section_advanced
silent_next pid rate ls n moment lt =
    ap (λ (p : SectionPlace). advanced (silent_carousel pid rate ls p moment)) (st.place ∙ ap (λ (j : ℕ). record { section = j; part = st.q }) zero_more)
    ∙ elim (cases_lt (st.q + 1) (slice_index_or (map places_of ls) st.i 0)) [
      | inl m ↦
          let e : nat_lt (st.q + 1) (slice_index_or (map places_of ls) st.i 0) ≡ true = lt-ltb (st.q + 1) (slice_index_or (map places_of ls) st.i 0) m in
          let f : advanced (at st.i st.q) ≡ at st.i (st.q + 1) = rw e refl in
          f ∙ to st.i (st.q + 1) ((st.more m).1 ∙ ap (λ (j : ℕ). record { section = j; part = st.q + 1 }) zero_more)
      | inr done ↦
          let e : nat_lt (st.q + 1) (slice_index_or (map places_of ls) st.i 0) ≡ false = le-ltb (st.q + 1) (slice_index_or (map places_of ls) st.i 0) done in
          elim (cases_lt (st.i + 1) (length (map places_of ls))) [
            | inl m ↦
                let g : nat_lt (st.i + 1) (length (map places_of ls)) ≡ true = lt-ltb (st.i + 1) (length (map places_of ls)) m in
                let f : advanced (at st.i st.q) ≡ at (st.i + 1) 0 = rw (e, g) refl in
                f ∙ to (st.i + 1) 0 ((st.next done (omega (arith, m, sections))).1 ∙ ap (λ (j : ℕ). record { section = j + 1; part = 0 }) zero_more)
            | inr end ↦
                let whole : n + 1 ≡ round_places ls = st.last done (omega (arith, end, sections)) in absurd (omega (arith, whole, lt))
          ]
    ]
  where
    st : NumberedPlace 0 ls n
    st = numbered_place 0 ls n (omega (arith, lt))

    zero_more : 0 + st.i ≡ st.i
    zero_more = omega arith

    sections : length (map places_of ls) ≡ length ls
    sections = length-map ls places_of

    at : ℕ → ℕ → Carousel
    at section part = silent_carousel pid rate ls (record { section = section; part = part }) moment

    to : (section part : ℕ) → place_in 0 ls (n + 1) ≡ record { section = section; part = part } →
        at section part ≡ silent_carousel pid rate ls (place_in 0 ls (n + 1)) moment
    to section part e = sym (ap (λ (p : SectionPlace). silent_carousel pid rate ls p moment) e)

-- The first place of a silent table
pub silent_first : (pid rate : ℕ) (ls : List ℕ) (moment : ℕ) → 0 < round_places ls →
    silent_carousel pid rate ls (record { section = 0; part = 0 }) moment ≡ silent_carousel pid rate ls (place_in 0 ls 0) moment
silent_first pid rate ls moment some =
    sym (ap (λ (p : SectionPlace). silent_carousel pid rate ls p moment) (place_first 0 ls (has_section ls some)))

pub begin_within : (table : Table) (s : ℕ) → begin_before table (suc s) ≤ s
unfolding begin_before
begin_within table zero = by (table.own 0 && ((place_at table 0).part == 0))
  where
    by : (b : Bool) → cond b 0 0 ≤ 0
    by true = omega arith
    by false = omega arith
begin_within table (suc s) = by (table.own (suc s) && ((place_at table (suc s)).part == 0)) (begin_within table s)
  where
    by : (b : Bool) → begin_before table (suc s) ≤ s → cond b (suc s) (begin_before table (suc s)) ≤ suc s
    by true le = omega arith
    by false le = omega (arith, le)

begun_before : (table : Table) (slots s : ℕ) → table.from ≡ Some slots → suc s ≤ slots → not_yet table.from (begin_before table (suc s)) ≡ true
begun_before table slots s from le =
    let within : begin_before table (suc s) ≤ s = begin_within table s in
    ap (λ (f : Option ℕ). not_yet f (begin_before table (suc s))) from ∙ lt-ltb (begin_before table (suc s)) slots (omega (arith, within, le))

none_counted : (b : Bool) → 0 + cond b 0 0 ≡ 0
none_counted true = refl
none_counted false = refl

none_before : (table : Table) (slots s : ℕ) → table.from ≡ Some slots → s ≤ slots → payloads_before table s ≡ 0
unfolding payloads_before
none_before table slots zero from le = refl
none_before table slots (suc s) from le =
    let none : part_at table s ≡ None =
    ap (λ (b : Bool). cond b None (part_of (bytes_at table s) (place_at table s).part)) (begun_before table slots s from le) in
    ap (λ (n : ℕ). n + cond (table.own s) (one_if_some (part_at table s)) 0) (none_before table slots s from (omega (arith, le)))
    ∙ ap (λ (o : Option Piece). 0 + cond (table.own s) (one_if_some o) 0) none ∙ none_counted (table.own s)

-- Nothing is held of a section under way.
none_held : (table : Table) (slots s section : ℕ) → HasPlaces table → table.from ≡ Some slots → s ≤ slots → 0 < (place_at table s).part →
    [] ≡ held_of table (begin_before table s) section (moment_before table s)
none_held table slots zero section some from le later =
    let first : place_at table 0 ≡ record { section = 0; part = 0 } = (first_carousel_holds table some).place in
    let z : (place_at table 0).part ≡ 0 = ap (λ (p : SectionPlace). p.part) first in absurd (omega (arith, later, z))
none_held table slots (suc s) section some from le later =
    sym (ap (λ (b : Bool). cond b [] (table.bytes (begin_before table (suc s)) section (moment_before table (suc s)))) (begun_before table slots s from le))

pub silent_carousel_holds : SilentCarouselLaw
silent_carousel_holds table slots some from = record {
  pid = refl;
  rate = refl;
  packets_per_section = refl;
  place = refl;
  moment = refl;
  bytes = λ later. none_held table slots slots (place_at table slots).section some from (omega arith) later;
  counter = sym (ap (λ (n : ℕ). n % 256) (none_before table slots slots from (omega arith)));
}
