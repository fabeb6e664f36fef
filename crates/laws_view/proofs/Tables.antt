-- Sections of a table that begin late.
use Rattle.std.proofs.Common.{◌≡◌, ◌∙◌, ℕ, ◌-◌, ◌*◌, ◌<◌, ◌≤◌, ◌==◌, Bool, true, false, cond, List, [], ◌∷◌, ◌++◌, map, filter, Option, Some, None}
use Rattle.std.proofs.Common.{refl, sym, ap, ap₂, arith}
use Rattle.std.specs.Prelude.{nat_lt, option_map}
use Rattle.std.specs.List.{cons_option, filter_map}
use Rattle.std.specs.Option.{option_to_list}
use Rattle.std.proofs.lemmas.Bool.Decides.{nat_tests}
use Rattle.std.proofs.lemmas.Grind.{common_steps}
use Rattle.std.proofs.lemmas.List.{map-append}
use Rattle.pid_findings.specs.Views.{PidFinding, WhatView}
use Rattle.demux.specs.Laws.{with_pid_at}
use Rattle.pid_findings.specs.declared.finding.Kind.{Kind}
use Rattle.pid_findings.specs.declared.finding.Kind.TheVariants.{Table, Pes}
use Rattle.tr101290.specs.Intervals.{IntervalState, before_in, error_at, error_if, key_of, no_section, part_before, places_after, places_at, section_key, taken}
use Rattle.tr101290.specs.Intervals.{time_between, time_of_packets}
use Rattle.tr101290.specs.Limits.{limit_of, milliseconds}
use Rattle.tr101290.specs.Parts.{has_parts}
use Rattle.tr101290.specs.Sections.{begin_of, section_begin, section_by}
use Rattle.tr101290.specs.declared.intervals.SectionBegin.{SectionBegin}
use Rattle.tr101290.specs.declared.intervals.SectionPlaces.{SectionPlaces}
use Rattle.tr101290.specs.declared.intervals.TableError.{TableError}
use Rattle.tr101290.specs.declared.intervals.TableTiming.{TableTiming}
use Rattle.tr101290.specs.declared.intervals.TableTiming.TheVariants.{ConstantRate}
use Rattle.tr101290.proofs.Entries.{time_law}
use Rattle.monitor.specs.Begins.{table_begin, table_begins}
use Rattle.monitor.specs.Gaps.{is_long}
use Rattle.monitor.proofs.LatePlaces.{after_all, step}
use Rattle.monitor.proofs.LatePlaces as places
use Rattle.laws_view.specs.Tables.{GapLaw, TableLaw, errors_from, sections_of}
use Rattle.laws_view.proofs.InsertedEntries.{kept, same_number}

itself : (a : ℕ) → (a == a) ≡ true
itself a = grind (arith, nat_tests)

-- 1. One gap

pub gap_law : GapLaw
gap_law rate limit gap some = by (nat_lt (limit * 27000) (time_of_packets rate gap)) (is_long (limit * rate) gap) refl refl
  where
    swapped : limit * 27000 * rate ≡ limit * rate * 27000
    swapped = grind (arith, common_steps)

    by : (a b : Bool) → nat_lt (limit * 27000) (time_of_packets rate gap) ≡ a → is_long (limit * rate) gap ≡ b → a ≡ b
    by true true e f = refl
    by false false e f = refl
    by true false e f =
        let over : limit * 27000 < time_of_packets rate gap = grind (arith, nat_tests) in
        let exact : limit * 27000 * rate < gap * 40608000000 = (time_law rate gap (limit * 27000) some).0 over in
        let under : gap * 1504000 ≤ limit * rate = grind (arith, nat_tests) in
        absurd (omega (arith, swapped, exact, under))
    by false true e f =
        let over : limit * rate < gap * 1504000 = grind (arith, nat_tests) in
        let exact : limit * 27000 * rate < gap * 40608000000 = omega (arith, swapped, over) in
        let long : limit * 27000 < time_of_packets rate gap = (time_law rate gap (limit * 27000) some).1 exact in
        absurd (grind (arith, nat_tests))

-- 2. Sections one after another

pub record IsOf (pid table_id : ℕ) (section : SectionBegin) : Type 0 where
  pub pid_is : section.pid ≡ pid
  pub table_is : section.table_id ≡ table_id
  pub place_is : section.place ≡ section.packet

abbrev pub AllOf : ℕ → ℕ → List SectionBegin → Type 0
AllOf pid table_id [] = Unit {0}
AllOf pid table_id (section ∷ sections) = IsOf pid table_id section × AllOf pid table_id sections

abbrev pub last_place : Option SectionPlaces → Option ℕ
last_place o = option_map (λ p. p.last) o

pub last_after : (o : Option SectionPlaces) (section : SectionBegin) → (places_after o section).last ≡ section.place
unfolding places_after
last_after None section = refl
last_after (Some p) section = refl

pub one_error : (rate limit : ℕ) (timing : TableTiming) (section : SectionBegin) (o : Option SectionPlaces) (l : Option ℕ) → 0 < rate →
    timing ≡ ConstantRate rate →
    l ≡ Some (limit * 27000) → section.place ≡ section.packet →
    map (λ (e : TableError). e.section.packet) (option_to_list (error_if timing section o l)) ≡ step (limit * rate) (last_place o) section.packet
unfolding error_if time_between
one_error rate limit timing section None l some t m b = refl
one_error rate limit timing section (Some p) l some t m b =
    rw (t, m) (ap of (ap (λ (n : ℕ). nat_lt (limit * 27000) (time_of_packets rate (n - p.last))) b ∙ gap_law rate limit (section.packet - p.last) some)
    ∙ by (is_long (limit * rate) (section.packet - p.last)))
  where
    of : Bool → List ℕ
    of long = map (λ (e : TableError). e.section.packet)
        (option_to_list (cond long (Some (record { section = section; value = time_of_packets rate (section.place - p.last); limit = limit * 27000 })) None))

    by : (t : Bool) → of t ≡ cond t (section.packet ∷ []) []
    by true = refl
    by false = refl

module _ (rate limit pid table_id : ℕ) (some : 0 < rate) (m : milliseconds pid table_id ≡ Some limit) (whole : has_parts pid table_id ≡ false) where
  error_is : (s : IntervalState) (section : SectionBegin) → s.timing ≡ ConstantRate rate → IsOf pid table_id section →
      map (λ (e : TableError). e.section.packet) (option_to_list (error_at s section)) ≡ step (limit * rate) (last_place (places_at s (key_of pid table_id)))
      section.packet
  error_is s section t h =
      ap (λ (o : Option SectionPlaces). map (λ (e : TableError). e.section.packet)
      (option_to_list (error_if s.timing section o (limit_of section.pid section.table_id)))) before
      ∙ one_error rate limit s.timing section (places_at s (key_of pid table_id)) (limit_of section.pid section.table_id) some t limit_is h.place_is
    where
      no_parts : has_parts section.pid section.table_id ≡ false
      no_parts = ap₂ (λ (a b : ℕ). has_parts a b) h.pid_is h.table_is ∙ whole

      before : before_in s section ≡ places_at s (key_of pid table_id)
      before =
          ap (λ (t : Bool). cond t (part_before s section section.part) (places_at s (section_key section))) no_parts
          ∙ ap₂ (λ (a b : ℕ). places_at s (key_of a b)) h.pid_is h.table_is

      limit_is : limit_of section.pid section.table_id ≡ Some (limit * 27000)
      limit_is = ap₂ (λ (a b : ℕ). limit_of a b) h.pid_is h.table_is ∙ ap (option_map (λ (ms : ℕ). ms * 27000)) m

  next_is : (s : IntervalState) (section : SectionBegin) → IsOf pid table_id section →
      last_place (places_at (taken s section) (key_of pid table_id)) ≡ Some section.packet
  next_is s section h =
      ap last_place (kept (key_of pid table_id) (section_key section) (places_after (places_at s (section_key section)) section) s.entries true same)
      ∙ ap (λ (n : ℕ). Some n) (last_after (places_at s (section_key section)) section ∙ h.place_is)
    where
      same : (section_key section == key_of pid table_id) ≡ true
      same = rw (h.pid_is, h.table_is) (itself (key_of pid table_id))

  along : (s : IntervalState) (sections : List SectionBegin) → s.timing ≡ ConstantRate rate → AllOf pid table_id sections →
      map (λ (e : TableError). e.section.packet) (errors_from s sections)
      ≡ places.after (limit * rate) (last_place (places_at s (key_of pid table_id))) (map (λ (s : SectionBegin). s.packet) sections)
  unfolding errors_from
  along s [] t h = refl
  along s (section ∷ sections) t h =
      map-append (λ (e : TableError). e.section.packet) (option_to_list (error_at s section)) (errors_from (taken s section) sections)
      ∙ ap₂ (λ (a b : List ℕ). a ++ b) (error_is s section t h.0)
      (along (taken s section) sections t h.1
      ∙ ap (λ (o : Option ℕ). places.after (limit * rate) o (map (λ (s : SectionBegin). s.packet) sections)) (next_is s section h.0))

-- 3. The packets at which sections begin, by the findings

one_begin : (pid table_id packet : ℕ) (begun : Option (ℕ × Kind)) (what : WhatView) (rest : List SectionBegin) →
    map (λ (s : SectionBegin). s.packet) (filter (λ (s : SectionBegin). s.table_id == table_id) (cons_option (section_by (Some pid) begun what) rest))
    ≡ cons_option (table_begin table_id begun) (map (λ (s : SectionBegin). s.packet) (filter (λ (s : SectionBegin). s.table_id == table_id) rest))
unfolding section_by begin_of table_begin
one_begin pid table_id packet None what rest = refl
one_begin pid table_id packet (Some (place, Pes stamped access)) what rest = refl
one_begin pid table_id packet (Some (place, Table other)) what rest = by (other == table_id) refl
  where
    kept_begins : List SectionBegin
    kept_begins = filter (λ (s : SectionBegin). s.table_id == table_id) rest

    by : (t : Bool) → (other == table_id) ≡ t →
        map (λ (s : SectionBegin). s.packet)
        (filter (λ (s : SectionBegin). s.table_id == table_id) (cons_option (section_by (Some pid) (Some (place, Table other)) what) rest))
        ≡ cons_option (cond t (Some place) None) (map (λ (s : SectionBegin). s.packet) kept_begins)
    by true e = rw e refl
    by false e = rw e refl

begins_are : (pid table_id : ℕ) (found : List PidFinding) → map (λ (s : SectionBegin). s.packet) (sections_of pid table_id found) ≡ table_begins table_id found
begins_are pid table_id [] = refl
begins_are pid table_id (x ∷ found) =
    one_begin pid table_id x.packet x.found.begun x.found.what (filter_map (λ at. section_begin (with_pid_at pid at)) found)
    ∙ ap (cons_option (table_begin table_id x.found.begun)) (begins_are pid table_id found)

all_of_begun : (pid table_id : ℕ) (begun : Option (ℕ × Kind)) (what : WhatView) (rest : List SectionBegin) →
    AllOf pid table_id (filter (λ (s : SectionBegin). s.table_id == table_id) rest) →
    AllOf pid table_id (filter (λ (s : SectionBegin). s.table_id == table_id) (cons_option (section_by (Some pid) begun what) rest))
unfolding section_by begin_of
all_of_begun pid table_id None what rest h = h
all_of_begun pid table_id (Some (place, Pes stamped access)) what rest h = h
all_of_begun pid table_id (Some (place, Table other)) what rest h = by (other == table_id) refl
  where
    by : (t : Bool) → (other == table_id) ≡ t →
        AllOf pid table_id (filter (λ (s : SectionBegin). s.table_id == table_id) (cons_option (section_by (Some pid) (Some (place, Table other)) what) rest))
    by true e = rw e (record { pid_is = refl; table_is = same_number other table_id e; place_is = refl }, h)
    by false e = rw e h

all_begins : (pid table_id : ℕ) (found : List PidFinding) → AllOf pid table_id (sections_of pid table_id found)
all_begins pid table_id [] = tt
all_begins pid table_id (x ∷ found) =
    all_of_begun pid table_id x.found.begun x.found.what (filter_map (λ at. section_begin (with_pid_at pid at)) found) (all_begins pid table_id found)

pub table_law : TableLaw
table_law rate limit pid table_id found some m whole =
    sym (along rate limit pid table_id some m whole (no_section (ConstantRate rate)) (sections_of pid table_id found) refl (all_begins pid table_id found)
    ∙ ap (places.after (limit * rate) None) (begins_are pid table_id found)
    ∙ after_all rate limit (table_begins table_id found))
