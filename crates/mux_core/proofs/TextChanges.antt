-- A change of texts: what was written before it stays, and carousels and marks go on over it.
use Rattle.std.proofs.Common.{◌≡◌, ℕ, zero, suc, ◌+◌, ◌*◌, ◌/◌, ◌%◌, ◌<◌, ◌≤◌, ◌==◌, ◌&&◌, Bool, true, false, cond, List, [], ◌∷◌}
use Rattle.std.proofs.Common.{Option, Some, None, slice_get, refl, sym, ap, ◌∙◌, arith, inl, inr, lt-ltb, le-ltb}
use Rattle.std.proofs.Math.Nat.{zero-mod}
use Rattle.std.proofs.lemmas.Bool.{cases_lt, eq-eqb, le-leb, lt-leb, false≢true}
use Rattle.clock27.specs.Units.{slot_seconds_at_1bps}
use Rattle.own_slots.specs.Slots.{own_before}
use Rattle.pes_packet.specs.AccessUnits.{AccessUnit}
use Rattle.slot_contents.specs.Contents.{Piece}
use Rattle.description_parts.specs.Described.{Described}
use Rattle.description_parts.specs.Tables.{table_kinds, section_count}
use Rattle.description_parts.specs.declared.table_kind.TableKind.{TableKind}
use Rattle.description.specs.SectionBytes.{table_bytes}
use Rattle.slot_plan.specs.declared.slot.Slot.{Slot}
use Rattle.slot_plan.specs.declared.slot.Slot.TheVariants.{Stream, Pcr, Table, Null}
use Rattle.slot_plan.specs.Schedule.{slot_of}
use Rattle.table_rounds.specs.Parts.{part_of, part_content}
use Rattle.table_rounds.specs.Tables.{Table as TableSlots, SectionPlace, place_in, place_at, round_places, round_before, begin_before, moment_before}
use Rattle.table_rounds.specs.Tables.{last_moment, not_yet, bytes_at, part_at, held_of, one_if_some, payloads_before, table_content}
use Rattle.table_rounds.specs.Carousels.{Carousel, CarouselHolds}
use Rattle.table_rounds.proofs.SilentTables.{begin_within}
use Rattle.table_rounds.proofs.Places.{place_first}
use Rattle.mux_core.specs.Scheduled.{Scheduled}
use Rattle.mux_core.specs.Histories.{Change, Past, TextsSoFar, FirstTexts, NextTexts, past_of, until_of, from_of, by_past, text_at, last_texts}
use Rattle.mux_core.specs.Histories.{bytes_over, table_over, table_in, content_in, content_over}
use Rattle.mux_core.specs.TextChanges.{ChangesFit, since_of}

-- The texts in a slot before a change, and after all changes

pub text_before : (d : Described) (change : Change) (earlier : TextsSoFar) (s : ℕ) → s < change.from →
    text_at d (NextTexts change earlier) s ≡ text_at d earlier s
text_before d change earlier s lt = ap (λ (b : Bool). cond b change.texts (text_at d earlier s)) (lt-leb change.from s lt)

pub text_last : (d : Described) (slot s : ℕ) (changes : TextsSoFar) → ChangesFit d slot changes → slot ≤ s → text_at d changes s ≡ last_texts d changes
text_last d slot s (FirstTexts past) fit le = refl
text_last d slot s (NextTexts change earlier) fit le =
    ap (λ (b : Bool). cond b change.texts (text_at d earlier s)) (le-leb change.from s (omega (arith, fit.0.from, le)))

pub since_within : (d : Described) (slot x : ℕ) (changes : TextsSoFar) → ChangesFit d slot changes → since_of changes x ≤ slot
since_within d slot x (FirstTexts past) fit = omega arith
since_within d slot x (NextTexts change earlier) fit = fit.0.since x

pub fits_later : (d : Described) (slot : ℕ) (changes : TextsSoFar) → ChangesFit d slot changes → ChangesFit d (suc slot) changes
fits_later d slot (FirstTexts None) fit = fit
fits_later d slot (FirstTexts (Some past)) fit =
    record { until = omega (arith, fit.until); from = fit.from; ranges = fit.ranges; texts = fit.texts; places = fit.places }
fits_later d slot (NextTexts change earlier) fit = (
  record {
    from = omega (arith, fit.0.from);
    since = λ x. let le : change.since x ≤ slot = fit.0.since x in omega (arith, le);
    ranges = fit.0.ranges;
    texts = fit.0.texts;
  },
  fit.1,
)

pub last_kinds : (d : Described) (slot : ℕ) (changes : TextsSoFar) → ChangesFit d slot changes → table_kinds (last_texts d changes) ≡ table_kinds d
last_kinds d slot (FirstTexts None) fit = refl
last_kinds d slot (FirstTexts (Some past)) fit = fit.texts.kinds
last_kinds d slot (NextTexts change earlier) fit = fit.0.texts.kinds

pub last_counts : (d : Described) (slot t : ℕ) (changes : TextsSoFar) → ChangesFit d slot changes →
    section_count (last_texts d changes) t ≡ section_count d t
last_counts d slot t (FirstTexts None) fit = refl
last_counts d slot t (FirstTexts (Some past)) fit = fit.texts.counts t
last_counts d slot t (NextTexts change earlier) fit = fit.0.texts.counts t

-- The past is over, and its tables are on air, in the slot of the last change.

pub past_over : (d : Described) (slot : ℕ) (changes : TextsSoFar) → ChangesFit d slot changes → until_of (past_of changes) ≤ slot
past_over d slot (FirstTexts None) fit = omega arith
past_over d slot (FirstTexts (Some past)) fit = fit.until
past_over d slot (NextTexts change earlier) fit =
    let le : until_of (past_of earlier) ≤ change.from = past_over d change.from earlier fit.1 in omega (arith, fit.0.from, le)

on_air_later : (from : Option ℕ) (s later : ℕ) → s ≤ later → not_yet from s ≡ false → not_yet from later ≡ false
on_air_later None s later le on_air = refl
on_air_later (Some from) s later le on_air = elim (cases_lt s from) [
  | inl before ↦ absurd (false≢true (sym on_air ∙ lt-ltb s from before))
  | inr came ↦ le-ltb later from (omega (arith, came, le))
]

pub on_air_by : (d : Described) (slot t : ℕ) (changes : TextsSoFar) → ChangesFit d slot changes → not_yet (from_of (past_of changes) t) slot ≡ false
on_air_by d slot t (FirstTexts None) fit = refl
on_air_by d slot t (FirstTexts (Some past)) fit = on_air_later (past.from t) past.until slot fit.until (fit.from t)
on_air_by d slot t (NextTexts change earlier) fit =
    on_air_later (from_of (past_of earlier) t) change.from slot fit.0.from (on_air_by d change.from t earlier fit.1)

-- After the past, what is so now
pub past_now : {X : Type 0} (past : Option Past) (slot : ℕ) (before : Past → X) (now : X) → until_of past ≤ slot → by_past past slot before now ≡ now
past_now None slot before now over = refl
past_now (Some past) slot before now over = ap (λ (b : Bool). cond b (before past) now) (le-ltb slot past.until over)

-- A section that begins after the past has the bytes of the texts in force.
pub bytes_now : (d : Described) (changes : TextsSoFar) (t s j moment : ℕ) → until_of (past_of changes) ≤ s →
    bytes_over d changes t s j moment ≡ table_bytes (text_at d changes s) t j moment
bytes_now d changes t s j moment over = past_now (past_of changes) s (λ past. past.bytes t s j moment) (table_bytes (text_at d changes s) t j moment) over

-- What a table carries before a change

begins_same : (d : Scheduled) (changes others : TextsSoFar) (t s : ℕ) → begin_before (table_over d changes t) s ≡ begin_before (table_over d others t) s
unfolding begin_before
begins_same d changes others t zero = refl
begins_same d changes others t (suc s) =
    ap (λ (n : ℕ). cond ((table_over d changes t).own s && ((place_at (table_over d changes t) s).part == 0)) s n) (begins_same d changes others t s)

-- the last round began before a slot in which the table had one
pub round_within : (own : ℕ → Bool) (k s : ℕ) → round_before own k (suc s) ≤ s
unfolding round_before
round_within own k zero = by (own 0 && (own_before own 0 % k == 0))
  where
    by : (b : Bool) → cond b 0 0 ≤ 0
    by true = omega arith
    by false = omega arith
round_within own k (suc s) = by (own (suc s) && (own_before own (suc s) % k == 0)) (round_within own k s)
  where
    by : (b : Bool) → round_before own k (suc s) ≤ s → cond b (suc s) (round_before own k (suc s)) ≤ suc s
    by true le = omega arith
    by false le = omega (arith, le)

pub round_began : (own : ℕ → Bool) (k s : ℕ) → 0 < own_before own s → round_before own k s < s
unfolding own_before
round_began own k zero some = absurd (omega (arith, some))
round_began own k (suc s) some = let within : round_before own k (suc s) ≤ s = round_within own k s in omega (arith, within)

-- its moment, by the texts of that slot
pub moment_stays : (d : Scheduled) (change : Change) (earlier : TextsSoFar) (t s : ℕ) →
    round_before (table_over d earlier t).own (round_places (table_over d earlier t).lengths) s < change.from →
    moment_before (table_over d (NextTexts change earlier) t) s ≡ moment_before (table_over d earlier t) s
moment_stays d change earlier t s lt =
    let r = round_before (table_over d earlier t).own (round_places (table_over d earlier t).lengths) s in
    ap (λ (e : Described). by_past (past_of earlier) r (λ past. past.start t r) e.start + r * slot_seconds_at_1bps / d.description.rate)
    (text_before d.description change earlier r lt)

last_stays : (d : Scheduled) (change : Change) (earlier : TextsSoFar) (t : ℕ) →
    last_moment (table_over d (NextTexts change earlier) t) change.from ≡ last_moment (table_over d earlier t) change.from
last_stays d change earlier t = elim (cases_lt 0 (own_before (table_over d earlier t).own change.from)) [
  | inl some ↦ ap (λ (m : ℕ). cond (own_before (table_over d earlier t).own change.from == 0) (table_over d earlier t).first m)
      (moment_stays d change earlier t change.from
      (round_began (table_over d earlier t).own (round_places (table_over d earlier t).lengths) change.from some))
  | inr none ↦
      let zero_before : (own_before (table_over d earlier t).own change.from == 0) ≡ true =
      eq-eqb (own_before (table_over d earlier t).own change.from) 0 (omega (arith, none)) in
      ap (λ (b : Bool). cond b (table_over d earlier t).first (moment_before (table_over d (NextTexts change earlier) t) change.from)) zero_before
      ∙ sym (ap (λ (b : Bool). cond b (table_over d earlier t).first (moment_before (table_over d earlier t) change.from)) zero_before)
]

-- the text of the section under way in a slot before the change
text_stays : (d : Scheduled) (change : Change) (earlier : TextsSoFar) (t s section moment : ℕ) → begin_before (table_over d earlier t) s < change.from →
    (table_over d (NextTexts change earlier) t).bytes (begin_before (table_over d (NextTexts change earlier) t) s) section moment
    ≡ (table_over d earlier t).bytes (begin_before (table_over d earlier t) s) section moment
text_stays d change earlier t s section moment lt =
    ap (λ (b : ℕ). bytes_over d.description (NextTexts change earlier) t b section moment) (begins_same d (NextTexts change earlier) earlier t s)
    ∙ ap (λ (e : Described). by_past (past_of earlier) (begin_before (table_over d earlier t) s)
    (λ past. past.bytes t (begin_before (table_over d earlier t) s) section moment) (table_bytes e t section moment))
    (text_before d.description change earlier (begin_before (table_over d earlier t) s) lt)

-- and what is held of it
held_stays : (d : Scheduled) (change : Change) (earlier : TextsSoFar) (t s section moment : ℕ) → begin_before (table_over d earlier t) s < change.from →
    held_of (table_over d (NextTexts change earlier) t) (begin_before (table_over d (NextTexts change earlier) t) s) section moment
    ≡ held_of (table_over d earlier t) (begin_before (table_over d earlier t) s) section moment
held_stays d change earlier t s section moment lt =
    ap (λ (b : ℕ). cond (not_yet (from_of (past_of earlier) t) b) []
    (bytes_over d.description (NextTexts change earlier) t (begin_before (table_over d (NextTexts change earlier) t) s) section moment))
    (begins_same d (NextTexts change earlier) earlier t s)
    ∙ ap (λ (l : List ℕ). cond (not_yet (from_of (past_of earlier) t) (begin_before (table_over d earlier t) s)) [] l)
    (text_stays d change earlier t s section moment lt)

part_stays : (d : Scheduled) (change : Change) (earlier : TextsSoFar) (t s : ℕ) → s < change.from →
    part_at (table_over d (NextTexts change earlier) t) s ≡ part_at (table_over d earlier t) s
part_stays d change earlier t s lt =
    let within : begin_before (table_over d earlier t) (suc s) ≤ s = begin_within (table_over d earlier t) s in
    let round = round_within (table_over d earlier t).own (round_places (table_over d earlier t).lengths) s in
    ap (λ (b : ℕ). cond (not_yet (from_of (past_of earlier) t) b) None
    (part_of (bytes_at (table_over d (NextTexts change earlier) t) s) (place_at (table_over d earlier t) s).part))
    (begins_same d (NextTexts change earlier) earlier t (suc s))
    ∙ ap (λ (m : ℕ). cond (not_yet (from_of (past_of earlier) t) (begin_before (table_over d earlier t) (suc s))) None
    (part_of ((table_over d (NextTexts change earlier) t).bytes (begin_before (table_over d (NextTexts change earlier) t) (suc s))
    (place_at (table_over d earlier t) s).section m) (place_at (table_over d earlier t) s).part))
    (moment_stays d change earlier t (suc s) (omega (arith, round, lt)))
    ∙ ap (λ (l : List ℕ). cond (not_yet (from_of (past_of earlier) t) (begin_before (table_over d earlier t) (suc s))) None
    (part_of l (place_at (table_over d earlier t) s).part))
    (text_stays d change earlier t (suc s) (place_at (table_over d earlier t) s).section (moment_before (table_over d earlier t) (suc s))
    (omega (arith, within, lt)))

payloads_stay : (d : Scheduled) (change : Change) (earlier : TextsSoFar) (t s : ℕ) → s ≤ change.from →
    payloads_before (table_over d (NextTexts change earlier) t) s ≡ payloads_before (table_over d earlier t) s
unfolding payloads_before
payloads_stay d change earlier t zero le = refl
payloads_stay d change earlier t (suc s) le =
    ap (λ (n : ℕ). n + cond ((table_over d earlier t).own s) (one_if_some (part_at (table_over d (NextTexts change earlier) t) s)) 0)
    (payloads_stay d change earlier t s (omega (arith, le)))
    ∙ ap (λ (o : Option Piece). payloads_before (table_over d earlier t) s + cond ((table_over d earlier t).own s) (one_if_some o) 0)
    (part_stays d change earlier t s (omega (arith, le)))

table_stays : (d : Scheduled) (change : Change) (earlier : TextsSoFar) (t s : ℕ) → s < change.from →
    table_content (table_over d (NextTexts change earlier) t) s ≡ table_content (table_over d earlier t) s
table_stays d change earlier t s lt =
    ap (λ (n : ℕ). part_content (table_over d earlier t).pid n (part_at (table_over d (NextTexts change earlier) t) s))
    (payloads_stay d change earlier t s (omega (arith, lt)))
    ∙ ap (λ (o : Option Piece). part_content (table_over d earlier t).pid (payloads_before (table_over d earlier t) s) o)
    (part_stays d change earlier t s lt)

table_before : (d : Scheduled) (change : Change) (earlier : TextsSoFar) (s t : ℕ) (o : Option TableKind) → s < change.from →
    table_in d (NextTexts change earlier) s t o ≡ table_in d earlier s t o
unfolding table_in
table_before d change earlier s t None lt = refl
table_before d change earlier s t (Some kind) lt = table_stays d change earlier t s lt

slot_before : (d : Scheduled) (change : Change) (earlier : TextsSoFar) (units : ℕ → List AccessUnit) (s : ℕ) (slot : Slot) → s < change.from →
    content_in d (NextTexts change earlier) units s slot ≡ content_in d earlier units s slot
unfolding content_in
slot_before d change earlier units s (Stream k) lt = refl
slot_before d change earlier units s (Pcr p) lt = refl
slot_before d change earlier units s (Table t) lt = table_before d change earlier s t (slice_get (table_kinds d.description) t) lt
slot_before d change earlier units s Null lt = refl

-- A slot before the change carries what it carried.
pub content_before : (d : Scheduled) (change : Change) (earlier : TextsSoFar) (units : ℕ → List AccessUnit) (s : ℕ) → s < change.from →
    content_over d (NextTexts change earlier) units s ≡ content_over d earlier units s
unfolding content_over
content_before d change earlier units s lt = slot_before d change earlier units s (slot_of d.schedule s) lt

-- The state of a table at the change

first_part_zero : (ls : List ℕ) → (place_in 0 ls 0).part ≡ 0
unfolding place_in
first_part_zero [] = refl
first_part_zero (l ∷ ls) = ap (λ (p : SectionPlace). p.part) (place_first 0 (l ∷ ls) (omega arith))

pub began : (table : TableSlots) (s : ℕ) → 0 < (place_at table s).part → begin_before table s < s
unfolding own_before
began table zero some =
    let first : (place_at table 0).part ≡ 0 =
    ap (λ (n : ℕ). (place_in 0 table.lengths n).part) (zero-mod (round_places table.lengths)) ∙ first_part_zero table.lengths in
    absurd (omega (arith, some, first))
began table (suc s) some = let within : begin_before table (suc s) ≤ s = begin_within table s in omega (arith, within)

pub had_slot : (table : TableSlots) (s : ℕ) → 0 < (place_at table s).part → 0 < own_before table.own s
had_slot table s some = elim (cases_lt 0 (own_before table.own s)) [
  | inl had ↦ had
  | inr none ↦
      let zero_before : own_before table.own s ≡ 0 = omega (arith, none) in
      let first : (place_at table s).part ≡ 0 =
      ap (λ (n : ℕ). (place_in 0 table.lengths (n % round_places table.lengths)).part) zero_before
      ∙ ap (λ (n : ℕ). (place_in 0 table.lengths n).part) (zero-mod (round_places table.lengths)) ∙ first_part_zero table.lengths in
      absurd (omega (arith, some, first))
]

pub carousel_goes_on : (d : Scheduled) (change : Change) (earlier : TextsSoFar) (t : ℕ) (carousel : Carousel) →
    CarouselHolds (table_over d earlier t) change.from carousel → CarouselHolds (table_over d (NextTexts change earlier) t) change.from carousel
carousel_goes_on d change earlier t carousel h = record {
  pid = h.pid;
  rate = h.rate;
  packets_per_section = h.packets_per_section;
  place = h.place;
  moment = h.moment ∙ sym (last_stays d change earlier t);
  bytes = λ lt.
      let part : (place_at (table_over d earlier t) change.from).part ≡ carousel.part = ap (λ (p : SectionPlace). p.part) h.place in
      let later : 0 < (place_at (table_over d earlier t) change.from).part = omega (arith, part, lt) in
      h.bytes lt
      ∙ sym (ap (held_of (table_over d (NextTexts change earlier) t) (begin_before (table_over d (NextTexts change earlier) t) change.from) carousel.section)
      (moment_stays d change earlier t change.from
      (round_began (table_over d earlier t).own (round_places (table_over d earlier t).lengths) change.from
      (had_slot (table_over d earlier t) change.from later)))
      ∙ held_stays d change earlier t change.from carousel.section (moment_before (table_over d earlier t) change.from)
      (began (table_over d earlier t) change.from later));
  counter = h.counter ∙ ap (λ (n : ℕ). n % 256) (sym (payloads_stay d change earlier t change.from (omega arith)));
}
