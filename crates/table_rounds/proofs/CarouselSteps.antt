-- From own slot to own slot, the state contains the values of the table, by the numbers of its slots.
use Rattle.std.proofs.Common.{◌≡◌, ℕ, suc, ◌+◌, ◌*◌, ◌/◌, ◌%◌, ◌<◌, ◌==◌, Bool, true, false, cond, nat_lt, List, [], ◌∷◌, length, take, map, sum_by}
use Rattle.std.proofs.Common.{slice_index_or, Option, Some, None, is_some, refl, ap, sym, subst, ◌∙◌, arith, inl, inr, eq-eqb, lt-ltb, le-ltb}
use Rattle.std.proofs.lemmas.Bool.{cases_Bool, cases_lt, ne_eqb, false≢true}
use Rattle.std.proofs.lemmas.List.{length-map}
use Rattle.std.proofs.lemmas.Nat.{mod_below}
use Rattle.std.proofs.Math.Nat.{mod-eq_of_lt, mod_self, mod-add-mod}
use Rattle.clock27.specs.Units.{slot_seconds_at_1bps}
use Rattle.own_slots.specs.Slots.{own_before}
use Rattle.own_slots.proofs.Counts.{own_before_own, own_before_other}
use Rattle.slot_contents.specs.Contents.{packet_of, Piece}
use Rattle.table_rounds.specs.Parts.{places_of, part_of, part_content}
use Rattle.table_rounds.specs.Tables.{Table, SectionPlace, round_places, place_in, place_at, round_before, begin_before, moment_of, moment_before, last_moment}
use Rattle.table_rounds.specs.Tables.{not_yet, part_at, held_of, one_if_some, payloads_before}
use Rattle.table_rounds.specs.Carousels.{Carousel, CarouselHolds, moment_now, begun, section_advanced, advanced, counted}
use Rattle.table_rounds.specs.Laws.{HasPlaces, IsSourceOf, FirstCarouselLaw, TableSlotLaw, OtherTableSlotLaw}
use Rattle.table_rounds.proofs.Places.{NumberedPlace, numbered_place, place_first}

round_at : (own : ℕ → Bool) (k s : ℕ) → own s ≡ true → own_before own s % k ≡ 0 → round_before own k (suc s) ≡ s
unfolding round_before
round_at own k s y z = let e : (own_before own s % k == 0) ≡ true = eq-eqb (own_before own s % k) 0 z in rw (y, e) refl

not_zero : (n : ℕ) → 0 < n → (n == 0) ≡ false
not_zero n some = ne_eqb n 0 (λ e. omega (arith, some, e))

round_stays : (own : ℕ → Bool) (k s : ℕ) → own s ≡ true → 0 < own_before own s % k → round_before own k (suc s) ≡ round_before own k s
unfolding round_before
round_stays own k s y some = let e : (own_before own s % k == 0) ≡ false = not_zero (own_before own s % k) some in rw (y, e) refl

round_other : (own : ℕ → Bool) (k s : ℕ) → own s ≡ false → round_before own k (suc s) ≡ round_before own k s
unfolding round_before
round_other own k s n = rw n refl

pub section_at : (table : Table) (s : ℕ) → table.own s ≡ true → (place_at table s).part ≡ 0 → begin_before table (suc s) ≡ s
unfolding begin_before
section_at table s y z = let e : ((place_at table s).part == 0) ≡ true = eq-eqb (place_at table s).part 0 z in rw (y, e) refl

section_stays : (table : Table) (s : ℕ) → table.own s ≡ true → 0 < (place_at table s).part → begin_before table (suc s) ≡ begin_before table s
unfolding begin_before
section_stays table s y some = let e : ((place_at table s).part == 0) ≡ false = not_zero (place_at table s).part some in rw (y, e) refl

section_other : (table : Table) (s : ℕ) → table.own s ≡ false → begin_before table (suc s) ≡ begin_before table s
unfolding begin_before
section_other table s n = rw n refl

-- The moment of a table that had a slot
pub last_is : (table : Table) (s : ℕ) → 0 < own_before table.own s → last_moment table s ≡ moment_before table s
last_is table s some = ap (λ (b : Bool). cond b table.first (moment_before table s)) (not_zero (own_before table.own s) some)

-- A round with a place has a section.
pub has_section : (ls : List ℕ) → 0 < round_places ls → 0 < length ls
has_section [] some = absurd (omega (arith, some))
has_section (l ∷ ls) some = omega arith

-- The state before slot 0
pub first_carousel_holds : FirstCarouselLaw
unfolding own_before payloads_before round_before
first_carousel_holds table some = record {
  pid = refl;
  rate = refl;
  packets_per_section = refl;
  place = ap (place_in 0 table.lengths) zero_place ∙ place_first 0 table.lengths (has_section table.lengths some);
  moment = refl;
  bytes = λ lt. absurd (omega (arith, lt));
  counter = refl;
}
  where
    zero_place : 0 % round_places table.lengths ≡ 0
    zero_place = mod-eq_of_lt some

-- The state after a slot that is not the table's own
pub other_slot : OtherTableSlotLaw
unfolding payloads_before
other_slot table s carousel n h =
    let before : own_before table.own (suc s) ≡ own_before table.own s = own_before_other table.own s n in
    let round : round_before table.own (round_places table.lengths) (suc s) ≡ round_before table.own (round_places table.lengths) s =
    round_other table.own (round_places table.lengths) s n in
    let count : payloads_before table (suc s) ≡ payloads_before table s =
    ap (λ (b : Bool). payloads_before table s + cond b (one_if_some (part_at table s)) 0) n ∙ (omega arith) in
    record {
      pid = h.pid;
      rate = h.rate;
      packets_per_section = h.packets_per_section;
      place = ap (λ (i : ℕ). place_in 0 table.lengths (i % round_places table.lengths)) before ∙ h.place;
      moment = h.moment ∙ ap (λ (i : ℕ). cond (i == 0) table.first (moment_before table s)) (sym before)
          ∙ ap (λ (r : ℕ). cond (own_before table.own (suc s) == 0) table.first (moment_of table r)) (sym round);
      bytes = λ lt. h.bytes lt ∙ ap (λ (r : ℕ). held_of table (begin_before table s) carousel.section (moment_of table r)) (sym round)
          ∙ ap (λ (b : ℕ). held_of table b carousel.section (moment_before table (suc s))) (sym (section_other table s n));
      counter = h.counter ∙ ap (λ (i : ℕ). i % 256) (sym count);
    }

-- The state at an own slot before its place is counted: the place, the moment of the round, the bytes of the section, and the number of payloads,
-- this slot's payload included
record Ready (table : Table) (s : ℕ) (b : Carousel) : Type 0 where
  pid : b.pid ≡ table.pid
  rate : b.rate ≡ table.rate
  packets_per_section : b.packets_per_section ≡ map places_of table.lengths
  place : place_at table s ≡ record { section = b.section; part = b.part }
  moment : b.moment ≡ moment_before table (suc s)
  bytes : b.bytes ≡ held_of table (begin_before table (suc s)) b.section (moment_before table (suc s))
  counter : b.counter ≡ payloads_before table (suc s) % 256

-- The state at the next place
placed : (table : Table) (s section part : ℕ) (b : Carousel) → 0 < own_before table.own (suc s) → Ready table s b → place_at table (suc s) ≡ record { section = section; part = part } →
    (0 < part → section ≡ b.section)
    → CarouselHolds table (suc s) (record b { section = section; part = part })
placed table s section part b some r place same = record {
  pid = r.pid;
  rate = r.rate;
  packets_per_section = r.packets_per_section;
  place = place;
  moment = r.moment ∙ sym (last_is table (suc s) some);
  bytes = λ lt. r.bytes ∙ ap (λ (j : ℕ). held_of table (begin_before table (suc s)) j (moment_before table (suc s))) (sym (same lt));
  counter = r.counter;
}

next_holds : (table : Table) (s : ℕ) (b : Carousel) → HasPlaces table → table.own s ≡ true → Ready table s b → CarouselHolds table (suc s) (advanced b)
unfolding advanced section_advanced
next_holds table s b some y r = elim (cases_lt (b.part + 1) (slice_index_or b.packets_per_section b.section 0)) [
  | inl m ↦
      let e : nat_lt (b.part + 1) (slice_index_or b.packets_per_section b.section 0) ≡ true =
      lt-ltb (b.part + 1) (slice_index_or b.packets_per_section b.section 0) m in
      let n = st.more (omega (arith, m, size, part)) in
      let f : advanced b ≡ record b { section = b.section; part = b.part + 1 } = rw e refl in
      subst (CarouselHolds table (suc s)) (sym f) (placed table s b.section (b.part + 1) b counted_one r
      (onward (st.q + 1) (0 + st.i) n.0 n.1 ∙ ap (λ (j : ℕ). record { section = j; part = st.q + 1 }) section
      ∙ ap (λ (q : ℕ). record { section = b.section; part = q + 1 }) part) (λ lt. refl))
  | inr done ↦
      let e : nat_lt (b.part + 1) (slice_index_or b.packets_per_section b.section 0) ≡ false =
      le-ltb (b.part + 1) (slice_index_or b.packets_per_section b.section 0) done in
      elim (cases_lt (b.section + 1) (length b.packets_per_section)) [
        | inl m ↦
            let g : nat_lt (b.section + 1) (length b.packets_per_section) ≡ true = lt-ltb (b.section + 1) (length b.packets_per_section) m in
            let n = st.next (omega (arith, done, size, part)) (omega (arith, m, sections, section)) in
            let f : advanced b ≡ record b { section = b.section + 1; part = 0 } = rw (e, g) refl in
            subst (CarouselHolds table (suc s)) (sym f) (placed table s (b.section + 1) 0 b counted_one r
            (onward 0 (0 + st.i + 1) n.0 n.1 ∙ ap (λ (j : ℕ). record { section = j + 1; part = 0 }) section) (λ lt. absurd (omega (arith, lt))))
        | inr end ↦
            let g : nat_lt (b.section + 1) (length b.packets_per_section) ≡ false = le-ltb (b.section + 1) (length b.packets_per_section) end in
            let n = st.last (omega (arith, done, size, part)) (omega (arith, end, sections, section)) in
            let f : advanced b ≡ record b { section = 0; part = 0 } = rw (e, g) refl in
            subst (CarouselHolds table (suc s)) (sym f) (placed table s 0 0 b counted_one r (around n) (λ lt. absurd (omega (arith, lt))))
      ]
]
  where
    k : ℕ
    k = round_places table.lengths

    i : ℕ
    i = own_before table.own s

    st : NumberedPlace 0 table.lengths (i % k)
    st = numbered_place 0 table.lengths (i % k) (mod_below i k some)

    section : 0 + st.i ≡ b.section
    section = ap (λ (p : SectionPlace). p.section) (sym st.place ∙ r.place)

    part : st.q ≡ b.part
    part = ap (λ (p : SectionPlace). p.part) (sym st.place ∙ r.place)

    index : st.i ≡ b.section
    index = omega (arith, section)

    size : slice_index_or (map places_of table.lengths) st.i 0 ≡ slice_index_or b.packets_per_section b.section 0
    size = ap (λ (j : ℕ). slice_index_or (map places_of table.lengths) j 0) index
        ∙ ap (λ (ps : List ℕ). slice_index_or ps b.section 0) (sym r.packets_per_section)

    sections : length b.packets_per_section ≡ length table.lengths
    sections = ap (length {A = ℕ}) r.packets_per_section ∙ length-map table.lengths places_of

    count : own_before table.own (suc s) ≡ i + 1
    count = own_before_own table.own s y

    counted_one : 0 < own_before table.own (suc s)
    counted_one = omega (arith, count)

    onward : (q j : ℕ) → i % k + 1 < k → place_in 0 table.lengths (i % k + 1) ≡ record { section = j; part = q } →
        place_at table (suc s) ≡ record { section = j; part = q }
    onward q j lt e = ap (λ (n : ℕ). place_in 0 table.lengths (n % k)) count ∙ ap (place_in 0 table.lengths) (sym (mod-add-mod i k 1) ∙ mod-eq_of_lt lt) ∙ e

    around : i % k + 1 ≡ k → place_at table (suc s) ≡ record { section = 0; part = 0 }
    around e = ap (λ (n : ℕ). place_in 0 table.lengths (n % k)) count
        ∙ ap (place_in 0 table.lengths) (sym (mod-add-mod i k 1) ∙ ap (λ (n : ℕ). n % k) e ∙ mod_self k)
        ∙ place_first 0 table.lengths (has_section table.lengths some)

-- The state with this moment and these bytes
abbrev made : Carousel → ℕ → List ℕ → Carousel
made carousel moment bytes = record carousel { moment = moment; bytes = bytes }

-- At an own slot the state has the moment of the round and the bytes of the section.
begun_is : (table : Table) (s : ℕ) (source : ℕ → ℕ → List ℕ) (carousel : Carousel) → HasPlaces table → IsSourceOf table s source →
    not_yet table.from s ≡ false → table.own s ≡ true → CarouselHolds table s carousel
    → begun source (table.start s) s carousel ≡ made carousel (moment_before table (suc s)) (held_of table (begin_before table (suc s)) carousel.section (moment_before table (suc s)))
unfolding begun
begun_is table s source carousel some is from y h = elim (cases_lt 0 carousel.part) [
  | inl later ↦
      let e : (carousel.part == 0) ≡ false = not_zero carousel.part later in
      let f : begun source (table.start s) s carousel ≡ carousel = rw e refl in
      let n : 0 < i % k = inside later in
      f ∙ remade (h.moment ∙ last_is table s (had n) ∙ ap (moment_of table) (sym (round_stays table.own k s y n)))
      (h.bytes later ∙ ap (λ (r : ℕ). held_of table (begin_before table s) carousel.section (moment_of table r)) (sym (round_stays table.own k s y n))
      ∙ ap (λ (b : ℕ). held_of table b carousel.section (moment_before table (suc s))) (sym (section_stays table s y (under_way later))))
  | inr first ↦
      let z : carousel.part ≡ 0 = omega (arith, first) in
      let e : (carousel.part == 0) ≡ true = eq-eqb carousel.part 0 z in
      let f : begun source (table.start s) s carousel
      ≡ made carousel (moment_now (table.start s) s carousel) (source carousel.section (moment_now (table.start s) s carousel)) = rw e refl in
      f ∙ ap (λ (m : ℕ). made carousel m (source carousel.section m)) (moment z)
      ∙ ap (made carousel (moment_before table (suc s))) (is carousel.section (moment_before table (suc s)) within
      ∙ sym (ap (λ (b : Bool). cond b [] (table.bytes s carousel.section (moment_before table (suc s)))) from)
      ∙ ap (λ (b : ℕ). held_of table b carousel.section (moment_before table (suc s))) (sym (section_at table s y (here ∙ z))))
]
  where
    k : ℕ
    k = round_places table.lengths

    i : ℕ
    i = own_before table.own s

    st : NumberedPlace 0 table.lengths (i % k)
    st = numbered_place 0 table.lengths (i % k) (mod_below i k some)

    section : 0 + st.i ≡ carousel.section
    section = ap (λ (p : SectionPlace). p.section) (sym st.place ∙ h.place)

    part : st.q ≡ carousel.part
    part = ap (λ (p : SectionPlace). p.part) (sym st.place ∙ h.place)

    here : (place_at table s).part ≡ carousel.part
    here = ap (λ (p : SectionPlace). p.part) h.place

    under_way : 0 < carousel.part → 0 < (place_at table s).part
    under_way later = omega (arith, here, later)

    within : carousel.section < length table.lengths
    within = omega (arith, section, st.section)

    at_zero : i ≡ 0 → i % k ≡ 0
    at_zero z = ap (λ (n : ℕ). n % k) z ∙ mod-eq_of_lt some

    remade : {m : ℕ} {t : List ℕ} → carousel.moment ≡ m → carousel.bytes ≡ t → carousel ≡ made carousel m t
    remade {m} {t} a b = ap (λ (x : ℕ). made carousel x carousel.bytes) a ∙ ap (made carousel m) b

    first_place_zero : i % k ≡ 0 → (carousel.section ≡ 0) × (carousel.part ≡ 0)
    first_place_zero z =
        let e : record { section = carousel.section; part = carousel.part } ≡ record { section = 0; part = 0 } =
        sym h.place ∙ ap (place_in 0 table.lengths) z ∙ place_first 0 table.lengths (has_section table.lengths some) in
        (ap (λ (p : SectionPlace). p.section) e, ap (λ (p : SectionPlace). p.part) e)

    inside : 0 < carousel.part → 0 < i % k
    inside later = elim (cases_lt 0 (i % k)) [ inl n ↦ n | inr z ↦ absurd (omega (arith, later, (first_place_zero (omega (arith, z))).1)) ]

    at_first : carousel.section ≡ 0 → carousel.part ≡ 0 → i % k ≡ 0
    at_first a b =
        let c : st.i ≡ 0 = omega (arith, section, a) in
        let d : sum_by places_of (take st.i table.lengths) ≡ 0 = ap (λ (j : ℕ). sum_by places_of (take j table.lengths)) c in
        omega (arith, st.number, d, part, b)

    -- past the first place of a round the table had a slot
    had : 0 < i % k → 0 < i
    had n = elim (cases_lt 0 i) [ inl x ↦ x | inr x ↦ absurd (omega (arith, n, at_zero (omega (arith, x)))) ]

    moment : carousel.part ≡ 0 → moment_now (table.start s) s carousel ≡ moment_before table (suc s)
    moment z = elim (cases_lt 0 (i % k)) [
      | inl n ↦
          let e : (carousel.section == 0) ≡ false =
          not_zero carousel.section (elim (cases_lt 0 carousel.section) [ inl x ↦ x | inr x ↦ absurd (omega (arith, n, at_first (omega (arith, x)) z)) ]) in
          ap (λ (b : Bool). cond b (table.start s + s * slot_seconds_at_1bps / carousel.rate) carousel.moment) e ∙ h.moment
          ∙ last_is table s (had n)
          ∙ ap (moment_of table) (sym (round_stays table.own k s y n))
      | inr n ↦
          let zero_place : i % k ≡ 0 = omega (arith, n) in
          let e : (carousel.section == 0) ≡ true = eq-eqb carousel.section 0 (first_place_zero zero_place).0 in
          ap (λ (b : Bool). cond b (table.start s + s * slot_seconds_at_1bps / carousel.rate) carousel.moment) e
          ∙ ap (λ (a : ℕ). table.start s + s * slot_seconds_at_1bps / a) h.rate
          ∙ ap (moment_of table) (sym (round_at table.own k s y zero_place))
    ]

-- The payload of the slot is counted.
ready : (table : Table) (s : ℕ) (carousel : Carousel) (o : Option Piece) → table.own s ≡ true → CarouselHolds table s carousel → part_at table s ≡ o
    → Ready table s (counted (is_some o) (made carousel (moment_before table (suc s)) (held_of table (begin_before table (suc s)) carousel.section (moment_before table (suc s)))))
unfolding payloads_before
ready table s carousel None y h e =
    let more : payloads_before table (suc s) ≡ payloads_before table s + 0 =
    ap (λ (b : Bool). payloads_before table s + cond b (one_if_some (part_at table s)) 0) y
    ∙ ap (λ (p : Option Piece). payloads_before table s + one_if_some p) e in
    record {
      pid = h.pid;
      rate = h.rate;
      packets_per_section = h.packets_per_section;
      place = h.place;
      moment = refl;
      bytes = refl;
      counter =
          omega (arith, h.counter, more);
    }
ready table s carousel (Some p) y h e =
    let more : payloads_before table (suc s) ≡ payloads_before table s + 1 =
    ap (λ (b : Bool). payloads_before table s + cond b (one_if_some (part_at table s)) 0) y
    ∙ ap (λ (p : Option Piece). payloads_before table s + one_if_some p) e in
    record {
      pid = h.pid;
      rate = h.rate;
      packets_per_section = h.packets_per_section;
      place = h.place;
      moment = refl;
      bytes = refl;
      counter =
          omega (arith, h.counter, more);
    }

-- A number, and its counter modulo 256, give the same packet.
same_packet : (pid number counter : ℕ) (o : Option Piece) → counter ≡ number % 256 →
    packet_of (part_content pid counter o) ≡ packet_of (part_content pid number o)
unfolding part_content packet_of
same_packet pid number counter None e = refl
same_packet pid number counter (Some p) e = let f : counter % 16 ≡ number % 16 = omega arith in rw f refl

-- No bytes have no part after the first.
none_of : (q : ℕ) → 0 < q → part_of [] q ≡ None
unfolding part_of
none_of q later = let e : nat_lt (184 * q) 1 ≡ false = le-ltb (184 * q) 1 (omega (arith, later)) in rw e refl

-- The bytes that are held of a section have its parts, if no first part of a section from before the table came on air is asked for.
part_held : (table : Table) (begin section moment q : ℕ) → (q ≡ 0 → not_yet table.from begin ≡ false) →
    cond (not_yet table.from begin) None (part_of (table.bytes begin section moment) q) ≡ part_of (held_of table begin section moment) q
part_held table begin section moment q starts = elim (cases_Bool (not_yet table.from begin)) [
  | inl e ↦
      let later : 0 < q = elim (cases_lt 0 q) [ inl lt ↦ lt | inr z ↦ absurd (false≢true (sym (starts (omega (arith, z))) ∙ e)) ] in
      ap (λ (b : Bool). cond b None (part_of (table.bytes begin section moment) q)) e
      ∙ sym (ap (λ (b : Bool). part_of (cond b [] (table.bytes begin section moment)) q) e ∙ none_of q later)
  | inr e ↦
      ap (λ (b : Bool). cond b None (part_of (table.bytes begin section moment) q)) e
      ∙ sym (ap (λ (b : Bool). part_of (cond b [] (table.bytes begin section moment)) q) e)
]

pub own_slot : TableSlotLaw
own_slot table s source carousel some is from y h =
    let b : begun source (table.start s) s carousel ≡ made carousel (moment_before table (suc s)) (held_of table (begin_before table (suc s)) carousel.section (moment_before table (suc s))) =
    begun_is table s source carousel some is from y h in
    let starts : carousel.part ≡ 0 → not_yet table.from (begin_before table (suc s)) ≡ false =
    λ z. ap (not_yet table.from) (section_at table s y (ap (λ (p : SectionPlace). p.part) h.place ∙ z)) ∙ from in
    let part : part_at table s ≡ part_of (held_of table (begin_before table (suc s)) carousel.section (moment_before table (suc s))) carousel.part =
    ap (λ (p : SectionPlace). cond (not_yet table.from (begin_before table (suc s))) None
    (part_of (table.bytes (begin_before table (suc s)) p.section (moment_before table (suc s))) p.part)) h.place
    ∙ part_held table (begin_before table (suc s)) carousel.section (moment_before table (suc s)) carousel.part starts in
    record {
      packet = ap (λ (t : Carousel). packet_of (part_content t.pid t.counter (part_of t.bytes t.part))) b
          ∙ ap (λ (o : Option Piece). packet_of (part_content carousel.pid carousel.counter o)) (sym part)
          ∙ ap (λ (p : ℕ). packet_of (part_content p carousel.counter (part_at table s))) h.pid
          ∙ same_packet table.pid (payloads_before table s) carousel.counter (part_at table s) h.counter;
      holds = subst (λ (t : Carousel). CarouselHolds table (suc s) (advanced (counted (is_some (part_of t.bytes t.part)) t))) (sym b)
          (next_holds table s _ some y (ready table s carousel _ y h part));
    }
