-- A multiplexer takes or refuses texts exactly as the history says, and then represents the history with one more change.
use Rattle.std.proofs.Common.{◌≡◌, ℕ, ◌≤◌, ◌&&◌, Bool, true, false, cond, List, get_or, slice_get, Option, Some, None, Result, Ok, Err}
use Rattle.std.proofs.Common.{OnOk, OnErr, refl, sym, ap, subst, ◌∙◌, arith, inl, inr}
use Rattle.std.proofs.Math.Path.{fun_ext}
use Rattle.std.proofs.lemmas.Bool.{cases_lt, lt-ltb, le-ltb}
use Rattle.std.proofs.lemmas.List.{get_or_past}
use Rattle.description_parts.specs.Described.{Described}
use Rattle.description_parts.specs.Ranges.{IsInRange}
use Rattle.description_parts.specs.Tables.{table_kinds}
use Rattle.description_parts.specs.declared.table_kind.TableKind.{TableKind}
use Rattle.description.specs.SubTables.{sub_table_count}
use Rattle.changed_texts.specs.TextFaults.{text_fault, TextLaw}
use Rattle.changed_texts.specs.Versions.{next_texts, changed, NextTextLaw, NextRangeLaw}
use Rattle.changed_texts.specs.declared.fault.TextFault.{TextFault}
use Rattle.table_rounds.specs.Carousels.{Carousel}
use Rattle.table_rounds.specs.Tables.{last_moment}
use Rattle.mux_core.specs.Scheduled.{Scheduled}
use Rattle.mux_core.specs.Histories.{Change, NextTexts, History, last_texts, table_over, content_over, bytes_of, with_change}
use Rattle.mux_core.specs.TextChanges.{text_cause, since_of, began_since, sent_of, events_table, events_moment, next_change}
use Rattle.mux_core.specs.MuxStates.{MuxState, Represents, CarouselRepresents, Changes, text_refusal}
use Rattle.mux_core.specs.SlotSteps.{sent_still, with_texts, moment_of_events}
use Rattle.mux_core.proofs.FedUnits.{run_same}
use Rattle.mux_core.proofs.TextChanges.{since_within, content_before, carousel_goes_on}
use Rattle.mux_core.proofs.SentMarks.{marks_go_on, still_size}

pub record TextLaws : Type 0 where
  pub text : TextLaw
  pub next : NextTextLaw
  pub range : NextRangeLaw

-- The moment of the EIT's round
moment_in : (d : Scheduled) (h : History) (carousel : Option Carousel) (kind : Option TableKind) →
    CarouselRepresents d h (events_table d.description) carousel kind →
    ◌≡◌ {A = ℕ} (elim carousel [ None ↦ d.description.start | Some c ↦ c.moment ])
    (elim kind [ None ↦ d.description.start | Some k ↦ last_moment (table_over d h.changes (events_table d.description)) h.slots ])
moment_in d h (Some carousel) (Some kind) st = st.moment
moment_in d h (Some carousel) None st = absurd st
moment_in d h None (Some kind) st = absurd st
moment_in d h None None st = refl

pub moment_is : (h : History) (m : MuxState) → Represents h m → moment_of_events m ≡ events_moment m.schedule h.changes h.slots
moment_is h m st = moment_in m.schedule h (slice_get m.carousels (events_table m.schedule.description))
    (slice_get (table_kinds m.schedule.description) (events_table m.schedule.description)) (st.tables (events_table m.schedule.description))

-- What was sent
pub sent_at : (h : History) (m : MuxState) → Represents h m → (n : ℕ) → get_or m.sent n false ≡ sent_of m.schedule h n
sent_at h m st n = elim (cases_lt n sub_table_count) [
  | inl lt ↦ st.sent n lt ∙ sym (ap (λ (b : Bool). b && began_since m.schedule h.changes n (since_of h.changes n) h.slots) (lt-ltb n sub_table_count lt))
  | inr le ↦ get_or_past m.sent n false (omega (arith, le, st.sent_size))
      ∙ sym (ap (λ (b : Bool). b && began_since m.schedule h.changes n (since_of h.changes n) h.slots) (le-ltb n sub_table_count le))
]

next_is : (h : History) (m : MuxState) (texts : Described) → Represents h m →
    next_texts m.texts texts (moment_of_events m) (λ n. get_or m.sent n false) ≡ (next_change m.schedule h texts).texts
next_is h m texts st =
    ap (λ (now : Described). next_texts now texts (moment_of_events m) (λ n. get_or m.sent n false)) st.texts
    ∙ ap (λ (x : ℕ). next_texts (last_texts m.schedule.description h.changes) texts x (λ n. get_or m.sent n false)) (moment_is h m st)
    ∙ ap (next_texts (last_texts m.schedule.description h.changes) texts (events_moment m.schedule h.changes h.slots)) (fun_ext (sent_at h m st))

since_is : (h : History) (m : MuxState) (texts : Described) (x : ℕ) → Represents h m →
    (next_change m.schedule h texts).since x ≡ cond (changed m.texts texts (moment_of_events m) x) h.slots (since_of h.changes x)
since_is h m texts x st =
    sym (ap (λ (now : Described). cond (changed now texts (moment_of_events m) x) h.slots (since_of h.changes x)) st.texts
    ∙ ap (λ (n : ℕ). cond (changed (last_texts m.schedule.description h.changes) texts n x) h.slots (since_of h.changes x)) (moment_is h m st))

since_late : (b : Bool) (slots since : ℕ) → since ≤ slots → cond b slots since ≤ slots
since_late true slots since le = omega arith
since_late false slots since le = le

table_goes_on : (d : Scheduled) (h : History) (texts : Described) (t : ℕ) (carousel : Option Carousel) (kind : Option TableKind) →
    CarouselRepresents d h t carousel kind → CarouselRepresents d (with_change h (next_change d h texts)) t carousel kind
table_goes_on d h texts t (Some carousel) (Some kind) st = carousel_goes_on d (next_change d h texts) h.changes t carousel st
table_goes_on d h texts t (Some carousel) None st = st
table_goes_on d h texts t None (Some kind) st = st
table_goes_on d h texts t None None st = st

-- The state with the texts represents the history with the change.
takes_texts : TextLaws → (h : History) (m : MuxState) (texts : Described) → IsInRange texts → Represents h m → text_cause m.schedule h texts ≡ None →
    Represents (with_change h (next_change m.schedule h texts)) (with_texts m texts)
takes_texts laws h m texts ranges st none = record {
  written = st.written;
  changes = (
    record {
      from = omega arith;
      since = λ x. since_late (changed (last_texts m.schedule.description h.changes) texts (events_moment m.schedule h.changes h.slots) x) h.slots
          (since_of h.changes x) (since_within m.schedule.description h.slots x h.changes st.changes);
      ranges = laws.range (last_texts m.schedule.description h.changes) texts (events_moment m.schedule h.changes h.slots) (sent_of m.schedule h) ranges;
      texts = laws.next m.schedule.description (last_texts m.schedule.description h.changes) texts (events_moment m.schedule h.changes h.slots)
          (sent_of m.schedule h) (laws.text m.schedule.description (last_texts m.schedule.description h.changes) texts none);
    },
    st.changes,
  );
  made = (record { texts = texts; ranges = ranges; accepted = none; is = refl }, st.made);
  texts = next_is h m texts st;
  sent_size = still_size m.sent (changed m.texts texts (moment_of_events m));
  sent = λ x lt. marks_go_on m.schedule (next_change m.schedule h texts) h.changes m.sent m.texts texts (moment_of_events m) x lt (st.sent x lt)
      (since_is h m texts x st);
  streams = st.streams;
  tables = λ t. table_goes_on m.schedule h texts t (slice_get m.carousels t)
      (slice_get (table_kinds m.schedule.description) t) (st.tables t);
}

written_stays : (d : Scheduled) (h : History) (change : Change) → change.from ≡ h.slots → bytes_of d (with_change h change) ≡ bytes_of d h
written_stays d h change at = run_same (content_over d (NextTexts change h.changes) h.units) (content_over d h.changes h.units) 0 h.slots
    (λ s lt. content_before d change h.changes h.units s (omega (arith, lt, at)))

pub texts_taken : TextLaws → (h : History) (old : MuxState) (texts : Described) (result : Result (Unit {0}) TextFault) (new : MuxState) → IsInRange texts →
    Represents h old →
    text_refusal result ≡ text_fault old.schedule.description old.texts texts → OnOk result (new ≡ with_texts old texts) → OnErr result (new ≡ old) →
    Changes h old texts (text_refusal result) new
texts_taken laws h old texts (Ok x) new ranges st first taken kept =
    let cause : text_cause old.schedule h texts ≡ None =
    sym (first ∙ ap (λ (now : Described). text_fault old.schedule.description now texts) st.texts) in
    record {
      first = sym cause;
      represents = λ none. subst (λ (m : MuxState). Represents (with_change h (next_change old.schedule h texts)) m) (sym taken)
          (takes_texts laws h old texts ranges st cause);
      before = λ none. written_stays old.schedule h (next_change old.schedule h texts) refl;
      same_schedule = ap (λ (m : MuxState). m.schedule) taken;
      same_capacity = ap (λ (m : MuxState). m.capacity) taken;
    }
texts_taken laws h old texts (Err e) new ranges st first taken kept = record {
  first = first ∙ ap (λ (now : Described). text_fault old.schedule.description now texts) st.texts;
  represents = λ none. absurd (cc);
  before = λ none. absurd (cc);
  same_schedule = ap (λ (m : MuxState). m.schedule) kept;
  same_capacity = ap (λ (m : MuxState). m.capacity) kept;
}

pub cause_is : (h : History) (m : MuxState) (texts : Described) (o : Option TextFault) → Represents h m →
    o ≡ text_fault m.schedule.description m.texts texts → o ≡ text_cause m.schedule h texts
cause_is h m texts o st is = is ∙ ap (λ (now : Described). text_fault m.schedule.description now texts) st.texts

-- The state with the texts, by its parts
pub texts_put : (m : MuxState) (texts : Described) (next : Described) (sent : List Bool) →
    next ≡ next_texts m.texts texts (moment_of_events m) (λ n. get_or m.sent n false) →
    sent ≡ sent_still m.sent (changed m.texts texts (moment_of_events m)) →
    ◌≡◌ {A = MuxState} (record {
      schedule = m.schedule;
      texts = next;
      sent = sent;
      queues = m.queues;
      carousels = m.carousels;
      capacity = m.capacity;
      slots = m.slots;
    }) (with_texts m texts)
texts_put m texts next sent is are = rw (is, are) refl
