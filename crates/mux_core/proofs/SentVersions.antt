-- Two sections of one number of a sub-table that show one version are the same bytes.
use Rattle.std.proofs.Common.{◌≡◌, ◌⊎◌, ℕ, ◌+◌, ◌%◌, ◌<◌, ◌≤◌, ◌&&◌, nat_lt, nat_le, not, Bool, true, false, cond, List, length}
use Rattle.std.proofs.Common.{Some, IsTrue, refl, sym, ap, subst, ◌∙◌, arith, inl, inr}
use Rattle.std.specs.Prelude.{⊤}
use Rattle.std.proofs.lemmas.Bool.{cases_lt, lt-ltb, le-ltb, le-leb}
use Rattle.description_parts.specs.Described.{Described}
use Rattle.description_parts.specs.Ranges.{IsInRange}
use Rattle.description_parts.specs.Tables.{section_count}
use Rattle.description.specs.SectionBytes.{table_bytes}
use Rattle.description.specs.SubTables.{sub_table_count, sub_table_number, sub_table_of}
use Rattle.description.specs.SubTables.{version_of, shows_same}
use Rattle.description.specs.Versions.{shown_version}
use Rattle.description.specs.declared.sub_table.SubTable.{SubTable}
use Rattle.description.specs.declared.sub_table.SubTable.TheVariants.{Pat, Nit, Sdt, Map, Events}
use Rattle.description.proofs.Counted.{counted_law, count_law}
use Rattle.description.proofs.SameTables.{same_tables_law}
use Rattle.description.proofs.Versions.{numbered_law, versioned_law}
use Rattle.changed_texts.specs.Versions.{changed, next_texts}
use Rattle.changed_texts.proofs.Counts.{has_place, numbered_number, number_below}
use Rattle.changed_texts.proofs.TextLaws.{text_law}
use Rattle.changed_texts.proofs.VersionLaws.{next_version_law, stays_law, same_texts_law}
use Rattle.mux_core.specs.Scheduled.{Scheduled}
use Rattle.mux_core.specs.Histories.{Change, TextsSoFar, FirstTexts, NextTexts, past_of, until_of, text_at, last_texts}
use Rattle.mux_core.specs.TextChanges.{ChangesFit, IsMade, AreMade, changed_history, since_of}
use Rattle.mux_core.specs.TextChanges.{began_since, sent_of, events_moment}
use Rattle.mux_core.specs.TextLaws.{is_timeless, SectionBegins, section_at, round_moment, changes_between, edges_of, edges_between, VersionLaw}
use Rattle.mux_core.proofs.TextChanges.{text_before, bytes_now, since_within}
use Rattle.mux_core.proofs.PlacedTables.{Placed, step_of, like_of, text_from, like_at, like_last, AllPlaced, placed_frame, placed_last, placed_at}
use Rattle.mux_core.proofs.PlacedTables.{there, begins_there, began_there}
use Rattle.mux_core.proofs.RisenVersions.{Went, later, Next, went_on}

-- The next change, as it is made

and_both : (a b : Bool) → a ≡ true → b ≡ true → (a && b) ≡ true
and_both true true p q = refl
and_both true false p q = absurd (cc)
and_both false b p q = absurd (cc)

-- the texts before their numbers have the same places
placed_made : (x : SubTable) (old new : Described) (moment : ℕ) (sent : ℕ → Bool) → Placed x (next_texts old new moment sent) → Placed x new
placed_made x old new moment sent (inl still) = inl still
placed_made x old new moment sent (inr has) =
    let same : (next_texts old new moment sent).has_eit ≡ new.has_eit = ap (λ (e : Described). e.has_eit) (same_texts_law counted_law old new moment sent) in
    inr (sym same ∙ has)

next_of : (d : Scheduled) (change : Change) (earlier : TextsSoFar) (slot t j s : ℕ) (x : SubTable) (made : IsMade d change earlier) →
    IsInRange d.description → ChangesFit d.description slot (NextTexts change earlier) → AllPlaced d.description (NextTexts change earlier) x → s < change.from →
    j < section_count d.description t → sub_table_of d.description t j ≡ Some x → SectionBegins d t j s →
    Next d change earlier t j s x (events_moment d earlier change.from)
    (shows_same (last_texts d.description earlier) made.texts x (events_moment d earlier change.from))
    (sent_of d (changed_history earlier change.from) (sub_table_number x))
next_of d change earlier slot t j s x made ranges fit placed lt within of begins =
    let f = d.description in
    let old = last_texts d.description earlier in
    let m = events_moment d earlier change.from in
    let h = changed_history earlier change.from in
    let n = sub_table_number x in
    let next = next_texts old made.texts m (sent_of d h) in
    let olds = like_last f change.from earlier ranges fit.1 in
    let news = like_of f made.texts made.ranges (text_law f old made.texts made.accepted) in
    let is : change.texts ≡ next = ap (λ (c : Change). c.texts) made.is in
    let frame = placed_frame f earlier x placed.1 in
    let at_old = there f old t j x olds within of frame (placed_last f earlier x placed.1) in
    let at_new = there f made.texts t j x news within of frame (placed_made x old made.texts m (sent_of d h) (subst (Placed x) is placed.0)) in
    let place = has_place count_law f t j x ranges within of in
    let law = next_version_law counted_law count_law same_tables_law old made.texts t j x m (sent_of d h) olds.ranges made.ranges at_new.section at_new.of in
    let stays : IsTrue (shows_same old made.texts x m) → table_bytes old t j m ≡ table_bytes next t j m =
    stays_law counted_law count_law same_tables_law versioned_law old made.texts t j x m (sent_of d h) olds.ranges made.ranges at_old.section at_new.section
    at_old.of at_new.of (at_old.number ∙ sym at_new.number) in
    record {
      first = text_before f change earlier s lt;
      version = ap (λ (e : Described). version_of e x m) is ∙ law;
      bytes = λ same. stays (subst IsTrue (sym same) refl) ∙ sym (ap (λ (e : Described). table_bytes e t j m) is);
      since = ap (λ (c : Change). c.since n) made.is
          ∙ ap (λ (y : SubTable). cond (not (shows_same old made.texts y m)) change.from (since_of earlier n)) (numbered_number x place);
      began = λ late. and_both (nat_lt n sub_table_count) (began_since d earlier n (since_of earlier n) change.from)
          (lt-ltb n sub_table_count (number_below x place))
          (began_there d earlier n (since_of earlier n) s change.from late
          (begins_there d earlier t j s x begins
          (there f (text_at f earlier s) t j x (like_at f change.from s earlier ranges fit.1) within of frame (placed_at f earlier x s placed.1))) lt);
    }

-- Over all changes

since_from : (d : Scheduled) (change : Change) (earlier : TextsSoFar) (n : ℕ) → IsMade d change earlier → ChangesFit d.description change.from earlier →
    change.since n ≤ change.from
since_from d change earlier n made fit =
    let is : change.since n ≡ cond (changed (last_texts d.description earlier) made.texts (events_moment d earlier change.from) n) change.from (since_of earlier n) =
    ap (λ (c : Change). c.since n) made.is in
    let le = either (changed (last_texts d.description earlier) made.texts (events_moment d earlier change.from) n) change.from (since_of earlier n)
    (since_within d.description change.from n earlier fit) in
    omega (arith, is, le)
  where
    either : (b : Bool) (from since : ℕ) → since ≤ from → cond b from since ≤ from
    either true from since le = omega arith
    either false from since le = le

-- From the moment `from` in slot s to the moment `to` in slot `last`, over the moments at the changes in between, no moment is before one before.
abbrev pub MovesOn : Scheduled → TextsSoFar → ℕ → ℕ → ℕ → ℕ → Type 0
MovesOn d (FirstTexts past) s last from to = from ≤ to
MovesOn d (NextTexts change earlier) s last from to = ((last < change.from) × MovesOn d earlier s last from to)
    ⊎ ((change.from ≤ last) × (((change.from ≤ s) × (from ≤ to))
    ⊎ ((s < change.from) × MovesOn d earlier s last from (events_moment d earlier change.from) × (events_moment d earlier change.from ≤ to))))

abbrev pub Goes : Scheduled → TextsSoFar → SubTable → ℕ → ℕ → ℕ → ℕ → Type 0
Goes d changes x s last from to = (is_timeless x ≡ true) ⊎ MovesOn d changes s last from to

-- the part before a change, and from the change on
goes_before : (d : Scheduled) (change : Change) (earlier : TextsSoFar) (x : SubTable) (s last from to : ℕ) → s < change.from → change.from ≤ last →
    Goes d (NextTexts change earlier) x s last from to →
    Goes d earlier x s last from (events_moment d earlier change.from) × ((is_timeless x ≡ true) ⊎ (events_moment d earlier change.from ≤ to))
goes_before d change earlier x s last from to lt le (inl still) = (inl still, inl still)
goes_before d change earlier x s last from to lt le (inr (inl before)) = let no : last < change.from = before.0 in absurd (omega (arith, no, le))
goes_before d change earlier x s last from to lt le (inr (inr on)) = by on.1
  where
    by : ((change.from ≤ s) × (from ≤ to))
        ⊎ ((s < change.from) × MovesOn d earlier s last from (events_moment d earlier change.from) × (events_moment d earlier change.from ≤ to)) →
        Goes d earlier x s last from (events_moment d earlier change.from) × ((is_timeless x ≡ true) ⊎ (events_moment d earlier change.from ≤ to))
    by (inl since) = let no : change.from ≤ s = since.0 in absurd (omega (arith, no, lt))
    by (inr over) = (inr over.1, inr over.2)

goes_since : (d : Scheduled) (change : Change) (earlier : TextsSoFar) (x : SubTable) (s last from to : ℕ) → change.from ≤ s → change.from ≤ last →
    Goes d (NextTexts change earlier) x s last from to → (is_timeless x ≡ true) ⊎ (from ≤ to)
goes_since d change earlier x s last from to since le (inl still) = inl still
goes_since d change earlier x s last from to since le (inr (inl before)) = let no : last < change.from = before.0 in absurd (omega (arith, no, le))
goes_since d change earlier x s last from to since le (inr (inr on)) = by on.1
  where
    by : ((change.from ≤ s) × (from ≤ to))
        ⊎ ((s < change.from) × MovesOn d earlier s last from (events_moment d earlier change.from) × (events_moment d earlier change.from ≤ to)) →
        (is_timeless x ≡ true) ⊎ (from ≤ to)
    by (inl here) = inr here.1
    by (inr over) = let no : s < change.from = over.0 in absurd (omega (arith, no, since))

goes_earlier : (d : Scheduled) (change : Change) (earlier : TextsSoFar) (x : SubTable) (s last from to : ℕ) → last < change.from →
    Goes d (NextTexts change earlier) x s last from to → Goes d earlier x s last from to
goes_earlier d change earlier x s last from to lt (inl still) = inl still
goes_earlier d change earlier x s last from to lt (inr (inl before)) = inr before.1
goes_earlier d change earlier x s last from to lt (inr (inr on)) = let no : change.from ≤ last = on.0 in absurd (omega (arith, no, lt))

between_more : (change : Change) (earlier : TextsSoFar) (s last : ℕ) → s < change.from → change.from ≤ last →
    changes_between (NextTexts change earlier) s last ≡ changes_between earlier s last + 1
between_more change earlier s last lt le =
    ap (λ (b : Bool). changes_between earlier s last + cond (b && nat_le change.from last) 1 0) (lt-ltb s change.from lt)
    ∙ ap (λ (b : Bool). changes_between earlier s last + cond b 1 0) (le-leb change.from last le)

edges_now : (d : Scheduled) (change : Change) (earlier : TextsSoFar) (x : SubTable) (s last from to : ℕ) → change.from ≤ last →
    edges_between d (NextTexts change earlier) x s from last to
    ≡ cond (nat_lt s change.from) (edges_between d earlier x s from last (events_moment d earlier change.from)
    + edges_of change.texts x (events_moment d earlier change.from) to) (edges_of change.texts x from to)
edges_now d change earlier x s last from to le = ap (λ (b : Bool). cond b (edges_between d earlier x s from last to)
    (cond (nat_lt s change.from) (edges_between d earlier x s from last (events_moment d earlier change.from)
    + edges_of change.texts x (events_moment d earlier change.from) to) (edges_of change.texts x from to))) (le-ltb last change.from le)

edges_more : (d : Scheduled) (change : Change) (earlier : TextsSoFar) (x : SubTable) (s last from to : ℕ) → s < change.from → change.from ≤ last →
    edges_between d (NextTexts change earlier) x s from last to
    ≡ edges_between d earlier x s from last (events_moment d earlier change.from) + edges_of change.texts x (events_moment d earlier change.from) to
edges_more d change earlier x s last from to lt le =
    edges_now d change earlier x s last from to le
    ∙ ap (λ (b : Bool). cond b (edges_between d earlier x s from last (events_moment d earlier change.from)
    + edges_of change.texts x (events_moment d earlier change.from) to) (edges_of change.texts x from to)) (lt-ltb s change.from lt)

edges_since : (d : Scheduled) (change : Change) (earlier : TextsSoFar) (x : SubTable) (s last from to : ℕ) → change.from ≤ s → change.from ≤ last →
    edges_between d (NextTexts change earlier) x s from last to ≡ edges_of change.texts x from to
edges_since d change earlier x s last from to since le =
    edges_now d change earlier x s last from to le
    ∙ ap (λ (b : Bool). cond b (edges_between d earlier x s from last (events_moment d earlier change.from)
    + edges_of change.texts x (events_moment d earlier change.from) to) (edges_of change.texts x from to)) (le-ltb s change.from since)

abbrev pub UpTo : TextsSoFar → ℕ → Type 0
UpTo (FirstTexts past) last = ⊤
UpTo (NextTexts change earlier) last = change.from ≤ last

pub up_to : (d : Described) (slot last : ℕ) (changes : TextsSoFar) → ChangesFit d slot changes → slot ≤ last → UpTo changes last
up_to d slot last (FirstTexts past) fit le = tt
up_to d slot last (NextTexts change earlier) fit le = omega (arith, fit.0.from, le)

-- the next moment by the last texts
at_last : (d : Scheduled) (changes : TextsSoFar) (slot t j s : ℕ) (x : SubTable) (from at to most : ℕ) → IsInRange d.description →
    ChangesFit d.description slot changes → AllPlaced d.description changes x → j < section_count d.description t → sub_table_of d.description t j ≡ Some x →
    (is_timeless x ≡ true) ⊎ (at ≤ to) → Went d changes t j s x from at most →
    Went d changes t j s x from to (most + edges_of (last_texts d.description changes) x at to)
at_last d changes slot t j s x from at to most ranges fit placed within of onward before =
    let f = d.description in
    let last = last_texts f changes in
    let like = like_last f slot changes ranges fit in
    let here = there f last t j x like within of (placed_frame f changes x placed) (placed_last f changes x placed) in
    later d changes t j s x from at to most ((numbered_law last t j at x here.of).below like.ranges) (step_of last t j x at to like.ranges here.of onward) before

went : (d : Scheduled) (changes : TextsSoFar) (slot t j s last : ℕ) (x : SubTable) (from to : ℕ) → IsInRange d.description →
    ChangesFit d.description slot changes → AreMade d changes → AllPlaced d.description changes x → UpTo changes last → j < section_count d.description t →
    sub_table_of d.description t j ≡ Some x → SectionBegins d t j s → Goes d changes x s last from to →
    Went d changes t j s x from to (changes_between changes s last + edges_between d changes x s from last to)
went d (FirstTexts past) slot t j s last x from to ranges fit made placed up within of begins goes =
    at_last d (FirstTexts past) slot t j s x from from to 0 ranges fit placed within of goes (inl (record { since = omega arith; bytes = refl; version = refl }))
went d (NextTexts change earlier) slot t j s last x from to ranges fit made placed up within of begins goes = elim (cases_lt s change.from) [
  | inl lt ↦
      let m = events_moment d earlier change.from in
      let parts = goes_before d change earlier x s last from to lt up goes in
      let n = changes_between earlier s last + edges_between d earlier x s from last m in
      let count : n + 1 + edges_of change.texts x m to
      ≡ changes_between (NextTexts change earlier) s last + edges_between d (NextTexts change earlier) x s from last to =
      omega (arith, between_more change earlier s last lt up, edges_more d change earlier x s last from to lt up) in
      subst (Went d (NextTexts change earlier) t j s x from to) count
      (at_last d (NextTexts change earlier) slot t j s x from m to (n + 1) ranges fit placed within of parts.1
      (went_on d change earlier t j s x from m n (shows_same (last_texts d.description earlier) made.0.texts x m)
      (sent_of d (changed_history earlier change.from) (sub_table_number x))
      (next_of d change earlier slot t j s x made.0 ranges fit placed lt within of begins)
      (went d earlier change.from t j s last x from m ranges fit.1 made.1 placed.1 (up_to d.description change.from last earlier fit.1 up) within of begins
      parts.0)))
  | inr le ↦
      let on = text_from d.description change earlier s le in
      let since = since_from d change earlier (sub_table_number x) made.0 fit.1 in
      subst (λ (n : ℕ). Went d (NextTexts change earlier) t j s x from to (changes_between (NextTexts change earlier) s last + n))
      (sym (edges_since d change earlier x s last from to le up))
      (at_last d (NextTexts change earlier) slot t j s x from from to (changes_between (NextTexts change earlier) s last) ranges fit placed within of
      (goes_since d change earlier x s last from to le up goes) (inl (record {
        since = omega (arith, since, le);
        bytes = ap (λ (e : Described). table_bytes e t j from) on;
        version = ap (λ (e : Described). version_of e x from) on;
      })))
]

no_wrap : (v w r : ℕ) → v < 32 → 1 ≤ r → r < 32 → w ≡ (v + r) % 32 → v ≡ w → ⊥
no_wrap v w r below some few is same = omega (arith, below, some, few, is, same)

-- what went up to the last texts, if one version shows
same_last : (d : Scheduled) (changes : TextsSoFar) (t j s : ℕ) (x : SubTable) (from to most : ℕ) → version_of (text_at d.description changes s) x from < 32 →
    most < 32 → version_of (text_at d.description changes s) x from ≡ version_of (last_texts d.description changes) x to →
    Went d changes t j s x from to most → table_bytes (text_at d.description changes s) t j from ≡ table_bytes (last_texts d.description changes) t j to
same_last d changes t j s x from to most below few same (inl kept) = kept.bytes
same_last d changes t j s x from to most below few same (inr rose) =
    absurd (no_wrap (version_of (text_at d.description changes s) x from) (version_of (last_texts d.description changes) x to) rose.rises below rose.some
    (omega (arith, rose.few, few)) rose.version same)

below_at : (d : Scheduled) (changes : TextsSoFar) (slot t j s : ℕ) (x : SubTable) (from : ℕ) → IsInRange d.description → ChangesFit d.description slot changes →
    AllPlaced d.description changes x → j < section_count d.description t → sub_table_of d.description t j ≡ Some x →
    version_of (text_at d.description changes s) x from < 32
below_at d changes slot t j s x from ranges fit placed within of =
    let f = d.description in
    let like = like_at f slot s changes ranges fit in
    let here = there f (text_at f changes s) t j x like within of (placed_frame f changes x placed) (placed_at f changes x s placed) in
    (numbered_law (text_at f changes s) t j from x here.of).below like.ranges

-- before a change that comes later than the last slot
between_earlier : (d : Scheduled) (change : Change) (earlier : TextsSoFar) (x : SubTable) (s last from to : ℕ) → last < change.from →
    edges_between d (NextTexts change earlier) x s from last to ≡ edges_between d earlier x s from last to
between_earlier d change earlier x s last from to lt = ap (λ (b : Bool). cond b (edges_between d earlier x s from last to)
    (cond (nat_lt s change.from) (edges_between d earlier x s from last (events_moment d earlier change.from)
    + edges_of change.texts x (events_moment d earlier change.from) to) (edges_of change.texts x from to))) (lt-ltb last change.from lt)

fewer_changes : (change : Change) (earlier : TextsSoFar) (s last : ℕ) → changes_between earlier s last ≤ changes_between (NextTexts change earlier) s last
fewer_changes change earlier s last = omega arith

one_version : (d : Scheduled) (changes : TextsSoFar) (slot t j s last : ℕ) (x : SubTable) (from to : ℕ) → IsInRange d.description →
    ChangesFit d.description slot changes → AreMade d changes → AllPlaced d.description changes x → j < section_count d.description t →
    sub_table_of d.description t j ≡ Some x → SectionBegins d t j s → s ≤ last → Goes d changes x s last from to →
    changes_between changes s last + edges_between d changes x s from last to < 32 →
    version_of (text_at d.description changes s) x from ≡ version_of (text_at d.description changes last) x to →
    table_bytes (text_at d.description changes s) t j from ≡ table_bytes (text_at d.description changes last) t j to
one_version d (FirstTexts past) slot t j s last x from to ranges fit made placed within of begins le goes few same =
    same_last d (FirstTexts past) t j s x from to (changes_between (FirstTexts past) s last + edges_between d (FirstTexts past) x s from last to)
    (below_at d (FirstTexts past) slot t j s x from ranges fit placed within of) few same
    (went d (FirstTexts past) slot t j s last x from to ranges fit made placed tt within of begins goes)
one_version d (NextTexts change earlier) slot t j s last x from to ranges fit made placed within of begins le goes few same = elim (cases_lt last change.from) [
  | inl before ↦
      let a = text_before d.description change earlier s (omega (arith, le, before)) in
      let b = text_before d.description change earlier last before in
      ap (λ (e : Described). table_bytes e t j from) a
      ∙ one_version d earlier change.from t j s last x from to ranges fit.1 made.1 placed.1 within of begins le
      (goes_earlier d change earlier x s last from to before goes)
      (omega (arith, few, fewer_changes change earlier s last, between_earlier d change earlier x s last from to before))
      (sym (ap (λ (e : Described). version_of e x from) a) ∙ same ∙ ap (λ (e : Described). version_of e x to) b)
      ∙ sym (ap (λ (e : Described). table_bytes e t j to) b)
  | inr on ↦
      let b = text_from d.description change earlier last on in
      same_last d (NextTexts change earlier) t j s x from to
      (changes_between (NextTexts change earlier) s last + edges_between d (NextTexts change earlier) x s from last to)
      (below_at d (NextTexts change earlier) slot t j s x from ranges fit placed within of) few (same ∙ ap (λ (e : Described). version_of e x to) b)
      (went d (NextTexts change earlier) slot t j s last x from to ranges fit made placed on within of begins goes)
      ∙ sym (ap (λ (e : Described). table_bytes e t j to) b)
]

-- The sections in the two slots, by the texts in force there
pub one_section : (d : Scheduled) (changes : TextsSoFar) (slots t j first last : ℕ) (x : SubTable) → IsInRange d.description →
    ChangesFit d.description slots changes → AreMade d changes → AllPlaced d.description changes x → j < section_count d.description t →
    sub_table_of d.description t j ≡ Some x → SectionBegins d t j first → until_of (past_of changes) ≤ first → first ≤ last →
    Goes d changes x first last (round_moment d changes t first) (round_moment d changes t last) →
    changes_between changes first last + edges_between d changes x first (round_moment d changes t first) last (round_moment d changes t last) < 32 →
    0 < length (section_at d changes t j first) → 0 < length (section_at d changes t j last) →
    shown_version (section_at d changes t j first) ≡ shown_version (section_at d changes t j last) →
    section_at d changes t j first ≡ section_at d changes t j last
one_section d changes slots t j first last x ranges fit made placed within of begins over le goes few some more same =
    let f = d.description in
    let a = text_at f changes first in
    let b = text_at f changes last in
    let at_a = round_moment d changes t first in
    let at_b = round_moment d changes t last in
    let like_a = like_at f slots first changes ranges fit in
    let like_b = like_at f slots last changes ranges fit in
    let frame = placed_frame f changes x placed in
    let there_a = there f a t j x like_a within of frame (placed_at f changes x first placed) in
    let there_b = there f b t j x like_b within of frame (placed_at f changes x last placed) in
    let here : section_at d changes t j first ≡ table_bytes a t j at_a = bytes_now f changes t first j at_a over in
    let here_last : section_at d changes t j last ≡ table_bytes b t j at_b = bytes_now f changes t last j at_b (omega (arith, over, le)) in
    let shown_a = (numbered_law a t j at_a x there_a.of).shown like_a.ranges (subst (λ (l : List ℕ). 0 < length l) here some) in
    let shown_b = (numbered_law b t j at_b x there_b.of).shown like_b.ranges (subst (λ (l : List ℕ). 0 < length l) here_last more) in
    here
    ∙ one_version d changes slots t j first last x at_a at_b ranges fit made placed within of begins le goes few
    (sym shown_a ∙ sym (ap shown_version here) ∙ same ∙ ap shown_version here_last ∙ shown_b)
    ∙ sym here_last

-- A sub-table without moments

all_still : (d : Described) (changes : TextsSoFar) (x : SubTable) → is_timeless x ≡ true → AllPlaced d changes x
all_still d (FirstTexts past) x still = (inl still, inl still)
all_still d (NextTexts change earlier) x still = (inl still, all_still d earlier x still)

no_edges_of : (e : Described) (x : SubTable) (from to : ℕ) → is_timeless x ≡ true → edges_of e x from to ≡ 0
no_edges_of e Pat from to still = refl
no_edges_of e Nit from to still = refl
no_edges_of e Sdt from to still = refl
no_edges_of e (Map p) from to still = refl
no_edges_of e (Events p) from to still = absurd (cc)

no_edges : (d : Scheduled) (changes : TextsSoFar) (x : SubTable) (s from last to : ℕ) → is_timeless x ≡ true → edges_between d changes x s from last to ≡ 0
no_edges d (FirstTexts past) x s from last to still = no_edges_of (last_texts d.description (FirstTexts past)) x from to still
no_edges d (NextTexts change earlier) x s from last to still =
    let m = events_moment d earlier change.from in
    none (nat_lt last change.from) (nat_lt s change.from) (edges_between d earlier x s from last to) (edges_between d earlier x s from last m)
    (edges_of change.texts x m to) (edges_of change.texts x from to) (no_edges d earlier x s from last to still) (no_edges d earlier x s from last m still)
    (no_edges_of change.texts x m to still) (no_edges_of change.texts x from to still)
  where
    none : (b c : Bool) (before part more since : ℕ) → before ≡ 0 → part ≡ 0 → more ≡ 0 → since ≡ 0 → cond b before (cond c (part + more) since) ≡ 0
    none true c before part more since p q r t = p
    none false true before part more since p q r t = omega (arith, q, r)
    none false false before part more since p q r t = t

pub version_law : VersionLaw
version_law d changes slots t j first last x ranges fit made within of still begins over le few =
    let none = no_edges d changes x first (round_moment d changes t first) last (round_moment d changes t last) still in
    one_section d changes slots t j first last x ranges fit made (all_still d.description changes x still) within of begins over le (inl still)
    (omega (arith, few, none))
