-- The events `table_repetition` of a table on a PID are the errors of its sections, finding by finding.
use Rattle.std.proofs.Common.{◌≡◌, ◌∙◌, ℕ, ◌+◌, ◌-◌, ◌*◌, ◌<◌, ◌==◌, ◌&&◌, Bool, true, false, cond, nat_eq, List, [], ◌∷◌, ◌++◌, map, filter, Option, Some}
use Rattle.std.proofs.Common.{None}
use Rattle.std.proofs.Common.{refl, sym, ap, ap₂, subst, arith, eq-eqb, ne_eqb}
use Rattle.std.specs.Prelude.{nat_lt, option_and_then}
use Rattle.std.specs.List.{cons_option, filter_map}
use Rattle.std.specs.Map.{lookup}
use Rattle.std.specs.Option.{option_to_list}
use Rattle.std.proofs.lemmas.List.{append_assoc, map-append}
use Rattle.std.proofs.lemmas.List.Elements.{filter-append}
use Rattle.arrival.specs.declared.arrival.Arrival.{Arrival}
use Rattle.arrival.specs.declared.arrival.Arrival.TheVariants.{AtRate, OnLines, Unknown}
use Rattle.pid_findings.specs.Views.{FindingView, WhatView}
use Rattle.demux.specs.Laws.{has_pid}
use Rattle.pid_findings.specs.declared.finding.Kind.{Kind}
use Rattle.pid_findings.specs.declared.finding.Kind.TheVariants.{Table, Pes}
use Rattle.tr101290.specs.Distances as distances
use Rattle.tr101290.specs.Distances.{DistanceState}
use Rattle.tr101290.specs.Homes.{belongs}
use Rattle.tr101290.specs.Intervals.{IntervalState, before_in, error_at, error_if, key_of, key_with, part_before, part_key, part_places_at, parts_after}
use Rattle.tr101290.specs.Intervals.{places_after}
use Rattle.tr101290.specs.Intervals.{places_at, section_key, taken, time_between}
use Rattle.tr101290.specs.Limits.{limit_of}
use Rattle.tr101290.specs.Parts.{has_parts}
use Rattle.tr101290.specs.Sections.{begin_of, section_begin, section_by, whole_section}
use Rattle.tr101290.specs.declared.distances.WholeSection.{WholeSection}
use Rattle.tr101290.specs.declared.intervals.SectionBegin.{SectionBegin}
use Rattle.tr101290.specs.declared.intervals.SectionPlaces.{SectionPlaces}
use Rattle.tr101290.specs.declared.intervals.TableError.{TableError}
use Rattle.tr101290.specs.declared.intervals.TableTiming.{TableTiming}
use Rattle.laws_view.specs.Tables.{errors_from}
use Rattle.laws_view.proofs.InsertedEntries.{kept, same_number}
use Rattle.events.specs.declared.event.Event.{Event}
use Rattle.events.specs.declared.event.Event.TheVariants as found
use Rattle.events.specs.declared.rule_event.RuleEvent.TheVariants as rules
use Rattle.es_events.specs.declared.view_options.ViewOptions.{ViewOptions}
use Rattle.ts_watch.specs.TableEvents.{TimesState, begin_events, check_word_event, check_word_events, distance_events, error_event, error_events}
use Rattle.ts_watch.specs.TableEvents.{finding_events}
use Rattle.ts_watch.specs.TableEvents.{findings_events, is_bad, other_events, placed, section_in, soon_events, whole_in, with_begin, with_check_word}
use Rattle.ts_watch.specs.TableEvents.{with_finding}
use Rattle.ts_watch.specs.TableEvents.{with_findings, with_whole}
use Rattle.laws_view.specs.ViewedTables.{is_late, late_of}

-- 1. Numbers of keys

-- The part of a section, if it has one, is below 65536.
unfoldable pub IsSmallPart : Option ℕ → Type 0
IsSmallPart None = Unit {0}
IsSmallPart (Some part) = part < 65536

unfoldable pub IsSmall : Option SectionBegin → Type 0
IsSmall None = Unit {0}
IsSmall (Some s) = (s.table_id < 256) × IsSmallPart s.part

unfoldable pub AllSmall : List FindingView → Type 0
AllSmall [] = Unit {0}
AllSmall (f ∷ fs) = IsSmall (section_begin f) × AllSmall fs

same_pid : (a b s t : ℕ) → s < 256 → t < 256 → key_of a s ≡ key_of b t → a ≡ b
same_pid a b s t p q e = omega (arith, p, q, e)

same_table : (a b s t : ℕ) → s < 256 → t < 256 → key_of a s ≡ key_of b t → s ≡ t
same_table a b s t p q e = omega (arith, p, q, e)

same_key : (a b s t : ℕ) → s < 65536 → t < 65536 → key_with a s ≡ key_with b t → a ≡ b
same_key a b s t p q e = omega (arith, p, q, e)

pub itself : (a : ℕ) → (a == a) ≡ true
itself a = eq-eqb a a refl

-- The error is about this section.
unfoldable IsAbout : SectionBegin → Option TableError → Type 0
IsAbout s None = Unit {0}
IsAbout s (Some e) = e.section ≡ s

about : (timing : TableTiming) (s : SectionBegin) (before : Option SectionPlaces) (limit : Option ℕ) → IsAbout s (error_if timing s before limit)
unfolding error_if IsAbout
about timing s None limit = tt
about timing s (Some before) None = tt
about timing s (Some before) (Some limit) = by (nat_lt limit (time_between timing (s.place - before.last)))
  where
    by : (t : Bool) → IsAbout s (cond t (Some (record { section = s; value = time_between timing (s.place - before.last); limit = limit })) None)
    by true = refl
    by false = tt

-- At a constant rate each section has a place.
at_rate : (rate : ℕ) (o : Option SectionBegin) → option_and_then (placed (AtRate rate)) o ≡ o
unfolding placed
at_rate rate None = refl
at_rate rate (Some s) = refl

cons_first : (o : Option SectionBegin) (xs ys : List SectionBegin) → cons_option o xs ++ ys ≡ cons_option o (xs ++ ys)
cons_first None xs ys = refl
cons_first (Some s) xs ys = refl

-- The sections that begin with these findings
abbrev pub sections_at : List FindingView → List SectionBegin
sections_at fs = filter_map section_begin fs

-- No finding is on the PID.
unfoldable pub AllOff : ℕ → List FindingView → Type 0
AllOff pid [] = Unit {0}
AllOff pid (f ∷ fs) = (has_pid pid f.pid ≡ false) × AllOff pid fs

module _ (pid table_id : ℕ) where
  -- The section is a section of the table on the PID.
  abbrev pub is_of : SectionBegin → Bool
  is_of s = (s.pid == pid) && (s.table_id == table_id)

  abbrev pub late : List Event → List Event
  late events = filter (is_late pid table_id) events

  pub record IsOf (s : SectionBegin) : Type 0 where
    pub pid_is : s.pid ≡ pid
    pub table_is : s.table_id ≡ table_id

  it_is : (s : SectionBegin) → is_of s ≡ true → IsOf s
  it_is s e = by (s.pid == pid) (s.table_id == table_id) refl refl e
    where
      by : (a b : Bool) → (s.pid == pid) ≡ a → (s.table_id == table_id) ≡ b → (a && b) ≡ true → IsOf s
      by true true p q e = record { pid_is = same_number s.pid pid p; table_is = same_number s.table_id table_id q }
      by true false p q e = absurd (let no : ⊥ = cc in no)
      by false b p q e = absurd (let no : ⊥ = cc in no)

  of_it : (s : SectionBegin) → s.pid ≡ pid → s.table_id ≡ table_id → is_of s ≡ true
  of_it s p q = ap₂ (λ (a b : ℕ). (a == pid) && (b == table_id)) p q ∙ ap₂ (λ (a b : Bool). a && b) (itself pid) (itself table_id)

  abbrev key : ℕ
  key = key_of pid table_id

  key_is : (s : SectionBegin) → IsOf s → section_key s ≡ key
  key_is s h = ap₂ key_of h.pid_is h.table_is

  -- A section of another table has another key.
  other_key : (s : SectionBegin) → is_of s ≡ false → s.table_id < 256 → table_id < 256 → (section_key s == key) ≡ false
  other_key s e small lt = ne_eqb (section_key s) key (λ k.
      let yes : is_of s ≡ true = of_it s (same_pid s.pid pid s.table_id table_id small lt k) (same_table s.pid pid s.table_id table_id small lt k) in
      let no : ⊥ = cc in no)

  other_part : (s : SectionBegin) (p q : ℕ) → is_of s ≡ false → s.table_id < 256 → table_id < 256 → p < 65536 → q < 65536 →
      (part_key s p == key_with key q) ≡ false
  other_part s p q e small lt a b = ne_eqb (part_key s p) (key_with key q) (λ k.
      let same : section_key s ≡ key = same_key (section_key s) key p q a b k in
      let yes : is_of s ≡ true = of_it s (same_pid s.pid pid s.table_id table_id small lt same) (same_table s.pid pid s.table_id table_id small lt same) in
      let no : ⊥ = cc in no)

  -- 2. The kept sections of the table

  pub record Agree (i j : IntervalState) : Type 0 where
    pub timing : i.timing ≡ j.timing
    pub places : table_id < 256 → places_at i key ≡ places_at j key
    pub parts : (part : ℕ) → table_id < 256 → part < 65536 → part_places_at i (key_with key part) ≡ part_places_at j (key_with key part)

  -- After a section of the table both states agree on its places.
  own_places : (i j : IntervalState) (s : SectionBegin) → Agree i j → IsOf s → table_id < 256 → places_at (taken i s) key ≡ places_at (taken j s) key
  own_places i j s h is lt =
      let same : (section_key s == key) ≡ true = ap (λ (n : ℕ). n == key) (key_is s is) ∙ itself key in
      kept key (section_key s) (places_after (places_at i (section_key s)) s) i.entries true same
      ∙ ap (λ (o : Option SectionPlaces). Some (places_after o s))
      (ap (places_at i) (key_is s is) ∙ h.places lt ∙ ap (places_at j) (sym (key_is s is)))
      ∙ sym (kept key (section_key s) (places_after (places_at j (section_key s)) s) j.entries true same)

  own_parts : (i j : IntervalState) (s : SectionBegin) (o : Option ℕ) (part : ℕ) → Agree i j → IsOf s → IsSmallPart o → table_id < 256 → part < 65536 →
      lookup (nat_eq (key_with key part)) (parts_after i s o) ≡ lookup (nat_eq (key_with key part)) (parts_after j s o)
  unfolding parts_after IsSmallPart
  own_parts i j s None part h is small lt few = h.parts part lt few
  own_parts i j s (Some p) part h is small lt few = by (part_key s p == key_with key part) refl
    where
      here : part_places_at i (part_key s p) ≡ part_places_at j (part_key s p)
      here =
          let k = ap (λ (n : ℕ). key_with n p) (key_is s is) in
          ap (part_places_at i) k ∙ h.parts p lt small ∙ ap (part_places_at j) (sym k)

      to : IntervalState → SectionPlaces
      to x = places_after (part_places_at x (part_key s p)) s

      by : (t : Bool) → (part_key s p == key_with key part) ≡ t →
          lookup (nat_eq (key_with key part)) (parts_after i s (Some p)) ≡ lookup (nat_eq (key_with key part)) (parts_after j s (Some p))
      by t e =
          kept (key_with key part) (part_key s p) (to i) i.parts t e
          ∙ ap₂ (λ (a b : Option SectionPlaces). cond t a b) (ap (λ (o : Option SectionPlaces). Some (places_after o s)) here) (h.parts part lt few)
          ∙ sym (kept (key_with key part) (part_key s p) (to j) j.parts t e)

  own_agree : (i j : IntervalState) (s : SectionBegin) → Agree i j → IsOf s → IsSmallPart s.part → Agree (taken i s) (taken j s)
  own_agree i j s h is small = record {
    timing = h.timing;
    places = own_places i j s h is;
    parts = λ part lt few. own_parts i j s s.part part h is small lt few;
  }

  -- A section of another table leaves the parts of this table as they are.
  other_parts : (i : IntervalState) (s : SectionBegin) (o : Option ℕ) (part : ℕ) → is_of s ≡ false → s.table_id < 256 → IsSmallPart o → table_id < 256 →
      part < 65536 → lookup (nat_eq (key_with key part)) (parts_after i s o) ≡ part_places_at i (key_with key part)
  unfolding parts_after IsSmallPart
  other_parts i s None part e byte small lt few = refl
  other_parts i s (Some p) part e byte small lt few =
      kept (key_with key part) (part_key s p) (places_after (part_places_at i (part_key s p)) s) i.parts false (other_part s p part e byte lt small few)

  other_agree : (i j : IntervalState) (s : SectionBegin) → Agree i j → is_of s ≡ false → s.table_id < 256 → IsSmallPart s.part → Agree (taken i s) j
  other_agree i j s h e byte small = record {
    timing = h.timing;
    places = λ lt. kept key (section_key s) (places_after (places_at i (section_key s)) s) i.entries false (other_key s e byte lt) ∙ h.places lt;
    parts = λ part lt few. other_parts i s s.part part e byte small lt few ∙ h.parts part lt few;
  }

  -- 3. The error of a section

  by_part : (i j : IntervalState) (s : SectionBegin) (o : Option ℕ) → Agree i j → IsOf s → table_id < 256 → IsSmallPart o →
      part_before i s o ≡ part_before j s o
  unfolding part_before IsSmallPart
  by_part i j s None h is lt small = refl
  by_part i j s (Some p) h is lt small =
      let k = ap (λ (n : ℕ). key_with n p) (key_is s is) in
      ap (part_places_at i) k ∙ h.parts p lt small ∙ ap (part_places_at j) (sym k)

  same_before : (i j : IntervalState) (s : SectionBegin) → Agree i j → IsOf s → table_id < 256 → IsSmallPart s.part → before_in i s ≡ before_in j s
  same_before i j s h is lt small =
      ap₂ (λ (a b : Option SectionPlaces). cond (has_parts s.pid s.table_id) a b) (by_part i j s s.part h is lt small)
      (ap (places_at i) (key_is s is) ∙ h.places lt ∙ ap (places_at j) (sym (key_is s is)))

  same_error : (i j : IntervalState) (s : SectionBegin) → Agree i j → IsOf s → table_id < 256 → IsSmallPart s.part → error_at i s ≡ error_at j s
  same_error i j s h is lt small =
      ap₂ (λ (t : TableTiming) (o : Option SectionPlaces). error_if t s o (limit_of s.pid s.table_id)) h.timing (same_before i j s h is lt small)

  -- The event of an error is an event of the section's table.
  reported : (s : SectionBegin) (o : Option TableError) (b : Bool) → IsAbout s o → is_of s ≡ b → late (error_events o) ≡ cond b (error_events o) []
  unfolding error_events late_of IsAbout
  reported s None true h e = refl
  reported s None false h e = refl
  reported s (Some x) b h e = ap (λ (t : Bool). cond t (error_event x ∷ []) []) (ap is_of h ∙ e)

  reported_at : (i : IntervalState) (s : SectionBegin) (b : Bool) → is_of s ≡ b → late (error_events (error_at i s)) ≡ cond b (error_events (error_at i s)) []
  reported_at i s b e = reported s (error_at i s) b (about i.timing s (before_in i s) (limit_of s.pid s.table_id)) e

  -- 4. Other events

  no_soon : (o : Option TableError) → late (soon_events o) ≡ []
  unfolding soon_events late_of
  no_soon None = refl
  no_soon (Some e) = refl

  no_distance : (d : DistanceState) (o : Option WholeSection) → late (distance_events d o) ≡ []
  unfolding distance_events
  no_distance d None = refl
  no_distance d (Some w) = no_soon (distances.error_at d w)

  no_other : (o : Option WholeSection) → late (other_events o) ≡ []
  unfolding other_events late_of
  no_other None = refl
  no_other (Some w) = by (belongs w.begin.pid w.begin.table_id)
    where
      at_home : Event
      at_home = found.Rule (rules.OtherTable (record { pid = w.begin.pid; table = w.begin.table_id; packet = w.begin.packet }))

      by : (b : Bool) → late (cond b [] (at_home ∷ [])) ≡ []
      by true = refl
      by false = refl

  no_wrong : (f : FindingView) (b : Bool) → late (cond b (check_word_event f ∷ []) []) ≡ []
  unfolding late_of
  no_wrong f true = refl
  no_wrong f false = refl

  in_both : (xs ys : List Event) → late xs ≡ [] → late (xs ++ ys) ≡ late ys
  in_both xs ys e = filter-append (is_late pid table_id) xs ys ∙ ap (λ (l : List Event). l ++ late ys) e

  -- The late events of a finding are the late events of the begin of its section.
  begins_alone : (options : ViewOptions) (x : TimesState) (f : FindingView) →
      late (finding_events options x f) ≡ late (begin_events x (section_in options f))
  begins_alone options x f =
      in_both (check_word_events f) _ (no_wrong f (is_bad f))
      ∙ in_both (other_events (whole_section f)) _ (no_other (whole_section f))
      ∙ in_both (distance_events x.distances (whole_in options f)) (begin_events x (section_in options f)) (no_distance x.distances (whole_in options f))

  -- 5. One section, and the sections after it

  abbrev pub own : List SectionBegin → List SectionBegin
  own sections = filter is_of sections

  pub record ReportsErrors (i j : IntervalState) (events : List Event) (sections rest : List SectionBegin) : Type 0 where
    pub next : IntervalState
    pub agree : Agree i next
    pub events_are : map error_event (errors_from j (own sections)) ≡ late events ++ map error_event (errors_from next (own rest))

  errors_first : (o : Option TableError) → map error_event (option_to_list o) ≡ error_events o
  unfolding error_events
  errors_first None = refl
  errors_first (Some e) = refl

  one : (x y : TimesState) (j : IntervalState) (o : Option SectionBegin) (rest : List SectionBegin) → Agree x.intervals j → Agree y.intervals j → IsSmall o →
      ReportsErrors (with_begin y o).intervals j (begin_events x o) (cons_option o rest) rest
  unfolding with_begin begin_events IsSmall errors_from
  one x y j None rest h g small = record { next = j; agree = g; events_are = refl }
  one x y j (Some s) rest h g small = by (is_of s) refl
    where
      now : List Event
      now = error_events (error_at x.intervals s)

      by : (b : Bool) → is_of s ≡ b → ReportsErrors (taken y.intervals s) j now (s ∷ rest) rest
      by true e =
          let is : IsOf s = it_is s e in
          let lt : table_id < 256 = subst (λ (n : ℕ). n < 256) is.table_is small.0 in
          record {
            next = taken j s;
            agree = own_agree y.intervals j s g is small.1;
            events_are = ap (λ (t : Bool). map error_event (errors_from j (cond t (s ∷ own rest) (own rest)))) e
                ∙ map-append error_event (option_to_list (error_at j s)) (errors_from (taken j s) (own rest))
                ∙ ap (λ (l : List Event). l ++ map error_event (errors_from (taken j s) (own rest)))
                (errors_first (error_at j s) ∙ ap error_events (sym (same_error x.intervals j s h is lt small.1)) ∙ sym (reported_at x.intervals s true e));
          }
      by false e = record {
        next = j;
        agree = other_agree y.intervals j s g e small.0 small.1;
        events_are = ap (λ (t : Bool). map error_event (errors_from j (cond t (s ∷ own rest) (own rest)))) e
            ∙ ap (λ (l : List Event). l ++ map error_event (errors_from j (own rest))) (sym (reported_at x.intervals s false e));
      }

  -- 6. All findings

  pub all : (rate : ℕ) (options : ViewOptions) (x : TimesState) (j : IntervalState) (fs : List FindingView) (rest : List SectionBegin) →
      options.arrival ≡ AtRate rate → Agree x.intervals j → AllSmall fs →
      ReportsErrors (with_findings options x fs).intervals j (findings_events options x fs) (sections_at fs ++ rest) rest
  unfolding with_findings findings_events AllSmall
  all rate options x j [] rest at h small = record { next = j; agree = h; events_are = refl }
  all rate options x j (f ∷ fs) rest at h small =
      let places : section_in options f ≡ section_begin f = ap (λ (a : Arrival). option_and_then (placed a) (section_begin f)) at
      ∙ at_rate rate (section_begin f) in
      let before : TimesState = with_whole (with_check_word x f) (whole_in options f) in
      let k = one x before j (section_begin f) (sections_at fs ++ rest) h h small.0 in
      let next = subst (λ (o : Option SectionBegin). Agree (with_begin before o).intervals k.next) (sym places) k.agree in
      let m = all rate options (with_finding options x f) k.next fs rest at next small.1 in
      record {
        next = m.next;
        agree = m.agree;
        events_are = ap (λ (l : List SectionBegin). map error_event (errors_from j (own l))) (cons_first (section_begin f) (sections_at fs) rest)
            ∙ k.events_are
            ∙ ap₂ (λ (a b : List Event). a ++ b)
            (ap (λ (o : Option SectionBegin). late (begin_events x o)) (sym places) ∙ sym (begins_alone options x f)) m.events_are
            ∙ sym (append_assoc (late (finding_events options x f)) (late (findings_events options (with_finding options x f) fs))
            (map error_event (errors_from m.next (own rest))))
            ∙ ap (λ (l : List Event). l ++ map error_event (errors_from m.next (own rest)))
            (sym (filter-append (is_late pid table_id) (finding_events options x f) (findings_events options (with_finding options x f) fs)));
      }

  -- 7. Findings of other PIDs

  unfoldable pub IsOff : Option SectionBegin → Type 0
  IsOff None = Unit {0}
  IsOff (Some s) = is_of s ≡ false

  pub off_begin : (p : Option ℕ) (begun : Option (ℕ × Kind)) (what : WhatView) → has_pid pid p ≡ false → IsOff (section_by p begun what)
  unfolding section_by begin_of IsOff
  off_begin None begun what e = tt
  off_begin (Some q) None what e = tt
  off_begin (Some q) (Some (place, Pes stamped access)) what e = tt
  off_begin (Some q) (Some (place, Table other)) what e = ap (λ (a : Bool). a && (other == table_id)) e

  pub off_section : (o : Option SectionBegin) (rest : List SectionBegin) → IsOff o → own (cons_option o rest) ≡ own rest
  unfolding IsOff
  off_section None rest h = refl
  off_section (Some s) rest h = ap (λ (t : Bool). cond t (s ∷ own rest) (own rest)) h

  off_events : (x : TimesState) (o : Option SectionBegin) → IsOff o → late (begin_events x o) ≡ []
  unfolding IsOff begin_events
  off_events x None h = refl
  off_events x (Some s) h = reported_at x.intervals s false h

  off_placed : (a : Arrival) (o : Option SectionBegin) → IsOff o → IsOff (option_and_then (placed a) o)
  unfolding IsOff placed
  off_placed a None h = tt
  off_placed Unknown (Some s) h = tt
  off_placed (AtRate rate) (Some s) h = h
  off_placed (OnLines lines) (Some s) h = h

  pub none_owned : (fs : List FindingView) (rest : List SectionBegin) → AllOff pid fs → own (sections_at fs ++ rest) ≡ own rest
  unfolding AllOff
  none_owned [] rest h = refl
  none_owned (f ∷ fs) rest h =
      ap own (cons_first (section_begin f) (sections_at fs) rest)
      ∙ off_section (section_begin f) (sections_at fs ++ rest) (off_begin f.pid f.begun f.what h.0)
      ∙ none_owned fs rest h.1

  pub none_late : (options : ViewOptions) (x : TimesState) (fs : List FindingView) → AllOff pid fs → late (findings_events options x fs) ≡ []
  unfolding AllOff findings_events
  none_late options x [] h = refl
  none_late options x (f ∷ fs) h =
      in_both (finding_events options x f) (findings_events options (with_finding options x f) fs)
      (begins_alone options x f ∙ off_events x (section_in options f) (off_placed options.arrival (section_begin f) (off_begin f.pid f.begun f.what h.0)))
      ∙ none_late options (with_finding options x f) fs h.1
