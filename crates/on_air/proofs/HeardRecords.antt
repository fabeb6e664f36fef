-- The state of a run and of its input after several records
use Rattle.std.proofs.Common.{◌≡◌, ◌<◌, ◌+◌, ℕ, suc, Bool, true, false, cond, List, [], ◌∷◌, ◌++◌, Option, Some, None, Result, Ok, Err, refl, sym, ap, ◌∙◌, subst}
use Rattle.std.proofs.Common.{below_more, arith, inl, inr}
use Rattle.std.proofs.lemmas.Bool.{cases_Bool}
use Rattle.pes_packet.specs.AccessUnits.{AccessUnit}
use Rattle.plan_checker.specs.Served.{Served}
use Rattle.unit_records.specs.Records.{after_record, record_at}
use Rattle.unit_records.specs.declared.reading.UnitFileError.{UnitFileError}
use Rattle.mux_core.specs.RecordRuns.{after_records}
use Rattle.mux_core.specs.Histories.{TextsSoFar, NextTexts}
use Rattle.mux_core.specs.TextChanges.{next_change}
use Rattle.on_air.specs.declared.refusals.AirRefusal.{AirRefusal}
use Rattle.mux_core.specs.declared.output.OutputFault.{OutputFault}
use Rattle.on_air.specs.declared.answers.Heard.{Heard}
use Rattle.on_air.specs.declared.answers.Heard.TheVariants.{Taken, Refused, Changed, LinedUp, Ended}
use Rattle.on_air.specs.declared.answers.Ending.{Ending}
use Rattle.on_air.specs.LineUps.{line_up_in}
use Rattle.on_air.specs.Airing.{Run, Air, job_of, accepted_by, air_cause, brings_texts, caught_up, changed, changes_run, changes_with, judged, judged_by, on_to}
use Rattle.on_air.specs.Airing.{settled_at, taken}
use Rattle.on_air.specs.Courses.{Course, course_after, heard, lined_up, takes_over, with_record}
use Rattle.on_air.specs.AirStates.{AirState, IsOnAir}
use Rattle.on_air.specs.Hearing.{AddsNone, AddsRefusal, AddsChange, AddsLineUp, ChangesAt, HasMore, HearsRecord, Hears, HasHeard, HasSlotsLeft, HeardFrom, HearsOn}
use Rattle.on_air.specs.Hearing.{LinesUpAt, NamesDevice}
use Rattle.on_air.proofs.Aired.{judged_texts, judged_unit}
use Rattle.on_air.proofs.Courses.{alone_stays, course_over, course_refused, course_taken, texts_stay}
use Rattle.on_air.proofs.LineUpsOn.{read_line_up}
use Rattle.on_air.proofs.TextsOn.{read_texts}

with_one : (c : Course) (found : Result (Option (ℕ × AccessUnit)) UnitFileError) (entry : ℕ × AccessUnit) → found ≡ Ok (Some entry) →
    course_after c.run c.air entry ≡ with_record found c
unfolding with_record
with_one c found entry is = rw is refl

-- If slots were left before each of n records and before the next record, slots were left before each of n + 1 records.
slots_more : (run : Run) (n : ℕ) (c : Course) (xs : List ℕ) → c ≡ heard run n xs → HasMore c → HasSlotsLeft run n xs → HasSlotsLeft run (suc n) xs
slots_more run n c xs is left before m less =
    below_more (λ i. HasMore (heard run i xs)) n before (subst (λ (d : Course). HasMore d) is left) m (omega (arith, less))

-- One more record of some bytes is read.
one_from : (run : Run) (n : ℕ) (c : Course) (old rest : List ℕ) (entry : ℕ × AccessUnit) → HeardFrom run n c old → record_at old ≡ Ok (Some entry) →
    after_record old ≡ rest → HasMore c → HeardFrom run (suc n) (course_after c.run c.air entry) rest
unfolding heard after_records
one_from run n c old rest entry h read left slots =
    let here : record_at (after_records n h.bytes) ≡ Ok (Some entry) = ap record_at (sym h.rest_is) ∙ read in
    record {
      bytes = h.bytes;
      led = with_one c (record_at (after_records n h.bytes)) entry here ∙ ap (with_record (record_at (after_records n h.bytes))) h.led;
      rest_is = sym left ∙ ap (λ (xs : List ℕ). after_record xs) h.rest_is;
      slots_left = slots_more run n c h.bytes h.led slots h.slots_left;
    }

-- One more record is read.
pub one_more : (run : Run) (n : ℕ) (c : Course) (origin old left : Option (List ℕ)) (refused : Option AirRefusal) (h : HearsRecord c.run c.air old left refused) →
    HasHeard run n c origin old →
    HasHeard run (suc n) (course_after c.run c.air h.entry) origin left
unfolding heard after_records
one_more run n c origin old left refused h has = record {
  known = λ xs is.
      let before = has.known xs is in
      let read = h.known (after_records n xs) before.1 in (
        with_one c (record_at (after_records n xs)) h.entry read.0 ∙ ap (with_record (record_at (after_records n xs))) before.0,
        read.1,
        slots_more run n c xs before.0 h.slots_left before.2,
      );
  some = λ rest. one_from run n c (h.bytes ++ rest) rest h.entry (has.some (h.bytes ++ rest)) (h.is_record.record_is rest) (h.is_record.rest_is rest)
      h.slots_left;
}

-- An accepted record adds no refusal; a refused record adds its own.
pub taken_adds : (run : Run) (a : Air) (entry : ℕ × AccessUnit) → air_cause run a entry ≡ None → changes_run run entry ≡ false →
    AddsNone a (judged run a entry)
taken_adds run a entry none unit =
    let last = judged_unit run a entry none unit in
    record { before = ap (λ (b : Air). b.before) last; refused = ap (λ (b : Air). b.refused) last; changes = ap (λ (b : Air). b.changes) last }

texts_kept : (run : Run) (a : Air) (entry : ℕ × AccessUnit) (b : Bool) →
    (cond b (changed run a entry) (taken run a entry (accepted_by a entry None) a.changes)).refused ≡ a.refused
texts_kept run a entry true = refl
texts_kept run a entry false = refl

accepted_adds : (run : Run) (a : Air) (entry : ℕ × AccessUnit) (refused : Option AirRefusal) → refused ≡ None →
    (judged_by run a entry refused).refused ≡ a.refused
unfolding judged_by
accepted_adds run a entry refused none = rw none (texts_kept run a entry (brings_texts run entry))

course_adds : (run : Run) (a : Air) (entry : ℕ × AccessUnit) → air_cause run a entry ≡ None → (course_after run a entry).air.refused ≡ a.refused
course_adds run a entry none = elim (cases_Bool (takes_over run a entry)) [
  | inl takes ↦
      let read = read_line_up run a entry takes in
      ap (λ (c : Course). c.air.refused) (course_over run a entry read.0 takes read.1)
  | inr stays ↦ ap (λ (c : Course). c.air.refused) (course_taken run a entry none stays) ∙ accepted_adds run a entry (air_cause run a entry) none
]

-- Accepted texts add a change.
change_adds : (run : Run) (a : Air) (entry : ℕ × AccessUnit) (index slot : ℕ) → air_cause run a entry ≡ None → ChangesAt run a entry index slot →
    AddsChange a (judged run a entry) index slot
unfolding changes_with
change_adds run a entry index slot none at =
    let read = read_texts run a entry none at.texts in
    let last = judged_texts run a entry read.0 none at.texts read.1 in
    let from : on_to a.slots (settled_at run entry.1.dts) ≡ slot = ap (λ (b : Air). b.slots) (sym last) ∙ sym at.slot_is in
    record {
      before = ap (λ (b : Air). b.before) last;
      refused = ap (λ (b : Air). b.refused) last;
      change = next_change run.scheduled (job_of (taken run a entry a.accepted a.changes)) read.0;
      changes = ap (λ (b : Air). b.changes) last;
      from = from;
      slots = sym at.slot_is;
      records = ap (λ (b : Air). b.records) last ∙ ap (λ (n : ℕ). n + 1) (sym at.index_is);
    }

-- An accepted line-up comes.
line_up_adds : (run : Run) (a mid : Air) (entry : ℕ × AccessUnit) (index slot : ℕ) → AddsNone a mid → LinesUpAt run mid entry index slot →
    AddsLineUp run a (course_after run mid entry) index slot
line_up_adds run a mid entry index slot adds at =
    let read = read_line_up run mid entry at.line_up in
    let course = course_over run mid entry read.0 at.line_up read.1 in
    record {
      mid = mid;
      adds = adds;
      next = read.0;
      run_is = ap (λ (c : Course). c.run) course;
      before = ap (λ (c : Course). c.air.before) course;
      changes = ap (λ (c : Course). c.air.changes) course;
      refused = ap (λ (c : Course). c.air.refused) course ∙ adds.refused;
      from = at.slot_is;
      records = ap (λ (c : Course). c.air.records) course ∙ ap (λ (n : ℕ). n + 1) (sym at.index_is);
    }

pub refused_adds : (run : Run) (a : Air) (entry : ℕ × AccessUnit) (refused : Option AirRefusal) (cause : AirRefusal) → refused ≡ Some cause →
    AddsRefusal a (judged_by run a entry refused) a.records cause
unfolding judged_by
refused_adds run a entry refused cause some = subst (λ (o : Option AirRefusal). AddsRefusal a (judged_by run a entry o) a.records cause) (sym some)
    (record { before = refl; refused = refl; changes = refl })

-- The same after further records were taken
none_more : (a b c : Air) → AddsNone a b → AddsNone b c → AddsNone a c
none_more a b c first next =
    record { before = next.before ∙ first.before; refused = next.refused ∙ first.refused; changes = next.changes ∙ first.changes }

refusal_more : (a b c : Air) (n index : ℕ) (cause : AirRefusal) → AddsNone a b → AddsRefusal b c n cause → index ≡ n → AddsRefusal a c index cause
refusal_more a b c n index cause first next is = record {
  before = next.before ∙ first.before;
  refused = next.refused ∙ ap (λ (l : List (ℕ × AirRefusal)). l ++ ((n, cause) ∷ [])) first.refused
      ∙ ap (λ (i : ℕ). a.refused ++ ((i, cause) ∷ [])) (sym is);
  changes = next.changes ∙ first.changes;
}

change_more : (a b c : Air) (index slot : ℕ) → AddsNone a b → AddsChange b c index slot → AddsChange a c index slot
change_more a b c index slot first next = record {
  before = next.before ∙ first.before;
  refused = next.refused ∙ first.refused;
  change = next.change;
  changes = next.changes ∙ ap (λ (l : TextsSoFar). NextTexts next.change l) first.changes;
  from = next.from;
  slots = next.slots;
  records = next.records;
}

-- The state after further records are accepted
pub record Midway (first : Run) (c : Course) (origin start left now : Option (List ℕ)) (s : AirState) : Type 0 where
  pub so_far : Air
  pub count : ℕ
  pub heard_is : HasHeard first count (record { run = c.run; air = so_far }) origin left
  pub adds : AddsNone c.air so_far
  pub state : IsOnAir c.run so_far start now s

pub midway_begins : (first : Run) (n : ℕ) (c : Course) (origin start left now : Option (List ℕ)) (s : AirState) → IsOnAir c.run c.air start now s →
    HasHeard first n c origin left →
    Midway first c origin start left now s
midway_begins first n c origin start left now s h has =
    record { so_far = c.air; count = n; heard_is = has; adds = record { before = refl; refused = refl; changes = refl }; state = h }

-- The course of a run at `a`
abbrev course_of : Run → Air → Course
course_of run a = record { run = run; air = a }

pub next_taken : (first : Run) (c : Course) (origin start mid left now later : Option (List ℕ)) (s new : AirState) (w : Midway first c origin start mid now s) →
    Hears c.run w.so_far mid left start later (Ok Taken) new → Midway first c origin start left later new
next_taken first c origin start mid left now later s new w (h, (alone, state)) = record {
  so_far = judged c.run w.so_far h.entry;
  count = suc w.count;
  heard_is = subst (λ (d : Course). HasHeard first (suc w.count) d origin left)
      (course_taken c.run w.so_far h.entry h.cause (alone_stays c.run w.so_far h.entry alone))
      (one_more first w.count (course_of c.run w.so_far) origin mid left None h w.heard_is);
  adds = none_more c.air w.so_far (judged c.run w.so_far h.entry) w.adds (taken_adds c.run w.so_far h.entry h.cause alone);
  state = state;
}

pub next_refused : (first : Run) (c : Course) (origin start mid left now later : Option (List ℕ)) (s new : AirState) (index : ℕ) (cause : AirRefusal)
    (w : Midway first c origin start mid now s) →
    Hears c.run w.so_far mid left start later (Ok (Refused index cause)) new → HearsOn first c origin left start later (Ok (Refused index cause)) new
next_refused first c origin start mid left now later s new index cause w (same, (h, state)) = (
  judged c.run w.so_far h.entry,
  record {
    count = suc w.count;
    heard_is = subst (λ (d : Course). HasHeard first (suc w.count) d origin left) (course_refused c.run w.so_far h.entry cause h.cause)
        (one_more first w.count (course_of c.run w.so_far) origin mid left (Some cause) h w.heard_is);
  },
  refusal_more c.air w.so_far (judged c.run w.so_far h.entry) w.so_far.records index cause w.adds
      (refused_adds c.run w.so_far h.entry (air_cause c.run w.so_far h.entry) cause h.cause) same,
  state,
)

pub next_changed : (first : Run) (c : Course) (origin start mid left now later : Option (List ℕ)) (s new : AirState) (index slot : ℕ)
    (w : Midway first c origin start mid now s) →
    Hears c.run w.so_far mid left start later (Ok (Changed index slot)) new → HearsOn first c origin left start later (Ok (Changed index slot)) new
next_changed first c origin start mid left now later s new index slot w (h, (changes, state)) = (
  judged c.run w.so_far h.entry,
  record {
    count = suc w.count;
    heard_is = subst (λ (d : Course). HasHeard first (suc w.count) d origin left)
        (course_taken c.run w.so_far h.entry h.cause (texts_stay c.run w.so_far h.entry changes.texts))
        (one_more first w.count (course_of c.run w.so_far) origin mid left None h w.heard_is);
  },
  change_more c.air w.so_far (judged c.run w.so_far h.entry) index slot w.adds (change_adds c.run w.so_far h.entry index slot h.cause changes),
  state,
)

pub next_lined_up : (first : Run) (c : Course) (origin start mid left now later : Option (List ℕ)) (s new : AirState) (index slot : ℕ)
    (w : Midway first c origin start mid now s) →
    Hears c.run w.so_far mid left start later (Ok (LinedUp index slot)) new → HearsOn first c origin left start later (Ok (LinedUp index slot)) new
next_lined_up first c origin start mid left now later s new index slot w (h, (comes, state)) = (
  course_after c.run w.so_far h.entry,
  record { count = suc w.count; heard_is = one_more first w.count (course_of c.run w.so_far) origin mid left None h w.heard_is },
  line_up_adds c.run c.air w.so_far h.entry index slot w.adds comes,
  state,
)

pub next_ended : (first : Run) (c : Course) (origin start mid left now later : Option (List ℕ)) (s new : AirState) (why : Ending)
    (w : Midway first c origin start mid now s) →
    Hears c.run w.so_far mid left start later (Ok (Ended why)) new → HearsOn first c origin left start later (Ok (Ended why)) new
next_ended first c origin start mid left now later s new why w (ends, state) =
    (w.so_far, (mid, record { count = w.count; heard_is = w.heard_is }, ends), w.adds, state)

pub next_failed : (first : Run) (c : Course) (origin start mid left now later : Option (List ℕ)) (s new : AirState) (fault : OutputFault)
    (w : Midway first c origin start mid now s) →
    Hears c.run w.so_far mid left start later (Err fault) new → HearsOn first c origin left start later (Err fault) new
next_failed first c origin start mid left now later s new fault w (h, fails) = (
  course_after c.run w.so_far h.entry,
  record { count = suc w.count; heard_is = one_more first w.count (course_of c.run w.so_far) origin mid left None h w.heard_is },
  course_adds c.run w.so_far h.entry h.cause ∙ w.adds.refused,
  fails,
)

-- No device failed before the last record.
pub names_same : (result : Result Heard OutputFault) (r0 rm r1 w0 wm w1 : ℕ) → rm ≡ r0 → wm ≡ w0 → NamesDevice result rm r1 wm w1 →
    NamesDevice result r0 r1 w0 w1
names_same result r0 rm r1 w0 wm w1 r w n = subst (λ (x : ℕ). NamesDevice result x r1 w0 w1) r (subst (λ (x : ℕ). NamesDevice result rm r1 x w1) w n)
