-- A record that brings texts
use Rattle.std.proofs.Common.{◌≡◌, ◌⊎◌, ◌+◌, ◌==◌, ◌&&◌, ℕ, max, Bool, true, false, List, length, Option, Some, None, refl, sym, ap, ◌∙◌, subst}
use Rattle.std.proofs.Common.{Result, Ok, Err, inl, inr, arith, cond}
use Rattle.std.specs.Prelude.{is_none, not, option_map, slice_get, if◌then◌else◌}
use Rattle.std.proofs.lemmas.Bool.{and_parts, and_right, eqb-true, ne_eqb}
use Rattle.std.proofs.lemmas.Option.{slice_get_past}
use Rattle.description_parts.specs.Described.{Described}
use Rattle.description_parts.specs.Ranges.{IsInRange}
use Rattle.description_keys.specs.declared.fault.DescFault.{DescFault}
use Rattle.description_keys.specs.declared.fault.DescError.{DescError}
use Rattle.description_keys.specs.declared.fault.DescError.TheVariants as unread
use Rattle.changed_texts.specs.Reading.{description_in}
use Rattle.changed_texts.specs.TextFaults.{text_fault}
use Rattle.changed_texts.specs.declared.fault.TextFault.{TextFault}
use Rattle.pes_packet.specs.AccessUnits.{AccessUnit}
use Rattle.mux_core.specs.Buffer.{Buffered, IsOutput, Took}
use Rattle.mux_core.specs.Histories.{Change, last_texts, with_change, NextTexts}
use Rattle.mux_core.specs.TextChanges.{next_change, text_cause}
use Rattle.mux_core.specs.MuxStates.{MuxState, Represents, Changes}
use Rattle.mux_core.specs.Scheduled.{Scheduled}
use Rattle.mux_core.proofs.TextChanges.{content_before}
use Rattle.on_air.specs.declared.refusals.AirRefusal.{AirRefusal}
use Rattle.on_air.specs.declared.refusals.AirRefusal.TheVariants.{LineUp, Texts}
use Rattle.on_air.specs.declared.refusals.TextsRefusal.{TextsRefusal}
use Rattle.on_air.specs.declared.refusals.TextsRefusal.TheVariants.{Unread, Fault}
use Rattle.on_air.specs.Leaps.{no_leap}
use Rattle.on_air.specs.Airing.{Run, Air, job_of, air_output, air_cause, brings_texts, changes_with, far_cause, fed_refusal, greatest_by, is_far_from, is_tick}
use Rattle.on_air.specs.Airing.{judged, judged_by, leap_left, unit_refusal, taken, texts_cause, texts_now, texts_refusal}
use Rattle.on_air.specs.Airing.{brings_line_up, changes_run, line_up_refusal, with_read, with_texts}
use Rattle.on_air.specs.Courses.{course_after}
use Rattle.on_air.specs.LineUps.{has_plan}
use Rattle.on_air.specs.AirStates.{AirState, Carries, IsOnAir, Promises}
use Rattle.on_air.specs.Hearing.{Fails, FailsIn, IsNearTexts, JudgesTexts, unread_error}
use Rattle.on_air.specs.declared.texts.TextsError.{TextsError}
use Rattle.on_air.proofs.Aired.{Moves, judged_texts, keeps, refused_by}
use Rattle.on_air.proofs.Contents.{output_same}
use Rattle.on_air.proofs.Courses.{fails_in, texts_stay}
use Rattle.on_air.proofs.TurnsOn.{turn_kept, turns_go_on}

-- Whether a record brings texts or a line-up, by its stream and the number of plans
pub change_same : (run : Run) (entry : ℕ × AccessUnit) (one : Bool) → IsInRange run.scheduled.description → one ≡ is_none run.scheduled.schedule.following →
    (one && (entry.0 == 254)) ≡ true → changes_run run entry ≡ true
change_same run entry one ranges same is =
    let parts = and_parts one (entry.0 == 254) is in
    let number : entry.0 ≡ 254 = eqb-true entry.0 254 parts.1 in
    let none : slice_get run.scheduled.description.streams entry.0 ≡ None =
    slice_get_past run.scheduled.description.streams entry.0 (omega (arith, number, ranges.most_streams)) in
    rw (none, sym same, parts.0, parts.1) refl

pub unit_same : (run : Run) (entry : ℕ × AccessUnit) (one : Bool) → one ≡ is_none run.scheduled.schedule.following → (one && (entry.0 == 254)) ≡ false →
    changes_run run entry ≡ false
unit_same run entry one same is =
    and_right (is_none (slice_get run.scheduled.description.streams entry.0)) (is_none run.scheduled.schedule.following && (entry.0 == 254))
    (ap (λ (b : Bool). b && (entry.0 == 254)) (sym same) ∙ is)

-- A tick brings nothing, and a record that brings texts or a line-up is no tick.
pub tick_alone : (run : Run) (entry : ℕ × AccessUnit) → is_tick entry ≡ true → changes_run run entry ≡ false
tick_alone run entry tick =
    let number : entry.0 ≡ 255 = eqb-true entry.0 255 (and_parts (entry.0 == 255) (length entry.1.bytes == 0) tick).0 in
    let other : (entry.0 == 254) ≡ false = ne_eqb entry.0 254 (λ e. absurd (omega (arith, e, number))) in
    and_right (is_none (slice_get run.scheduled.description.streams entry.0)) (is_none run.scheduled.schedule.following && (entry.0 == 254))
    (and_right (is_none run.scheduled.schedule.following) (entry.0 == 254) other)

pub change_number : (run : Run) (entry : ℕ × AccessUnit) → changes_run run entry ≡ true → entry.0 ≡ 254
change_number run entry changes =
    let rest = and_parts (is_none (slice_get run.scheduled.description.streams entry.0)) (is_none run.scheduled.schedule.following && (entry.0 == 254)) changes in
    eqb-true entry.0 254 (and_parts (is_none run.scheduled.schedule.following) (entry.0 == 254) rest.1).1

number_alone : (entry : ℕ × AccessUnit) → entry.0 ≡ 254 → is_tick entry ≡ false
number_alone entry number = rw number refl

pub no_tick_change : (run : Run) (entry : ℕ × AccessUnit) → changes_run run entry ≡ true → is_tick entry ≡ false
no_tick_change run entry changes = number_alone entry (change_number run entry changes)

-- It brings the one or the other.
pub brings_by : (run : Run) (entry : ℕ × AccessUnit) (plan : Bool) → changes_run run entry ≡ true → plan ≡ has_plan entry.1.bytes →
    (brings_line_up run entry ≡ plan) × (brings_texts run entry ≡ not plan)
brings_by run entry plan changes is = (
  ap (λ (b : Bool). b && has_plan entry.1.bytes) changes ∙ sym is,
  ap (λ (b : Bool). b && not (has_plan entry.1.bytes)) changes ∙ ap not (sym is),
)

pub texts_change : (run : Run) (entry : ℕ × AccessUnit) → brings_texts run entry ≡ true → changes_run run entry ≡ true
texts_change run entry brings = (and_parts (changes_run run entry) (not (has_plan entry.1.bytes)) brings).0

pub line_up_change : (run : Run) (entry : ℕ × AccessUnit) → brings_line_up run entry ≡ true → changes_run run entry ≡ true
line_up_change run entry brings = (and_parts (changes_run run entry) (has_plan entry.1.bytes) brings).0

-- The cause of a record that brings texts
near_texts : (run : Run) (a : Air) (entry : ℕ × AccessUnit) → IsNearTexts run a entry → air_cause run a entry ≡ option_map Texts (texts_refusal run a entry)
near_texts run a entry t = rw (t.near, t.unit, t.texts) refl

-- Refused texts change nothing.
pub texts_refused : (run : Run) (a : Air) (entry : ℕ × AccessUnit) (cause : TextsRefusal) (start now : Option (List ℕ)) (old new : AirState) →
    IsOnAir run a start now old → Moves old new → IsNearTexts run a entry → texts_refusal run a entry ≡ Some cause →
    new.mux ≡ old.mux → new.packets ≡ old.packets → new.greatest ≡ old.greatest → new.leap ≡ old.leap → new.records ≡ old.records + 1 →
    (air_cause run a entry ≡ Some (Texts cause)) × IsOnAir run (judged run a entry) start now new
unfolding greatest_by leap_left
texts_refused run a entry cause start now old new h moves t is mux packets greatest leap records =
    let refused : air_cause run a entry ≡ Some (Texts cause) = near_texts run a entry t ∙ ap (option_map Texts) is in (
      refused,
      subst (λ (o : Option AirRefusal). IsOnAir run (judged_by run a entry o) start now new) (sym refused)
          (refused_by run a entry (Texts cause) start now old new h moves packets (greatest ∙ h.greatest) (leap ∙ h.leap) records
          (subst (λ (m : MuxState). Carries run (job_of a) m) (sym mux) h.mux)),
    )

-- The run after texts are taken, before the slots that the record settles are written
abbrev pub noted : Air → ℕ × AccessUnit → Air
noted a entry = record {
  before = a.before;
  accepted = a.accepted;
  slots = a.slots;
  greatest = max a.greatest entry.1.dts;
  leap = no_leap;
  records = a.records + 1;
  refused = a.refused;
  changes = a.changes;
}

pub noted_on : (run : Run) (a : Air) (entry : ℕ × AccessUnit) (start now : Option (List ℕ)) (old new : AirState) → IsOnAir run a start now old →
    Moves old new → new.mux ≡ old.mux → new.packets ≡ old.packets → new.greatest ≡ max old.greatest entry.1.dts → new.leap ≡ no_leap →
    new.records ≡ old.records + 1 → IsOnAir run (noted a entry) start now new
noted_on run a entry start now old new h moves mux packets greatest leap records = record {
  mux = subst (λ (m : MuxState). Carries run (job_of a) m) (sym mux) h.mux;
  promises = h.promises;
  terms = moves.terms ∙ h.terms;
  hex = ap (λ (p : Buffered). p.hex) packets ∙ h.hex;
  rate = moves.rate ∙ h.rate;
  lead = moves.lead ∙ h.lead;
  greatest = greatest ∙ ap (λ (n : ℕ). max n entry.1.dts) h.greatest;
  leap = leap;
  records = records ∙ ap (λ (n : ℕ). n + 1) h.records;
  one_plan = moves.one_plan ∙ h.one_plan;
  gone = moves.gone ∙ h.gone;
  line_ups = record { begun = h.line_ups.begun; turns = h.line_ups.turns; gone = h.line_ups.gone };
  output = subst (λ (p : Buffered). IsOutput start now p (air_output run a)) (sym packets) h.output;
  headline = h.headline;
}

texts_accepted : (run : Run) (a : Air) (entry : ℕ × AccessUnit) (texts : Described) → IsNearTexts run a entry →
    texts_cause run.scheduled.description (texts_now run a) (Ok texts) ≡ None → description_in entry.1.bytes ≡ Ok texts → air_cause run a entry ≡ None
texts_accepted run a entry texts t none read =
    near_texts run a entry t ∙ ap (option_map Texts) (ap (texts_cause run.scheduled.description (texts_now run a)) read ∙ none)

-- The texts on air, after the slots that their record settles
pub texts_taken : (run : Run) (a : Air) (entry : ℕ × AccessUnit) (slot : ℕ) (texts : Described) (start later : Option (List ℕ)) (new : AirState) →
    IsNearTexts run a entry → texts_cause run.scheduled.description (texts_now run a) (Ok texts) ≡ None → description_in entry.1.bytes ≡ Ok texts →
    slot ≡ (taken run a entry a.accepted a.changes).slots →
    IsOnAir run (with_texts run (taken run a entry a.accepted a.changes) texts) start later new →
    (air_cause run a entry ≡ None)
    × ((brings_texts run entry ≡ true) × ((slot ≡ (judged run a entry).slots) × IsOnAir run (judged run a entry) start later new))
texts_taken run a entry slot texts start later new t none read same on =
    let accepted = texts_accepted run a entry texts t none read in
    let last = judged_texts run a entry texts accepted t.texts read in (
      accepted,
      (
        t.texts,
        (
          same ∙ ap (λ (b : Air). b.slots) (sym last),
          subst (λ (b : Air). IsOnAir run b start later new) (sym last) on,
        ),
      ),
    )

-- Texts that are not refused were read as a description.
read_by : (run : Run) (a : Air) (r : Result Described DescError) →
    texts_cause run.scheduled.description (texts_now run a) r ≡ None → (texts : Described) × (r ≡ Ok texts)
unfolding texts_cause
read_by run a (Ok texts) none = (texts, refl)
read_by run a (Err (unread.Refused fault)) none = absurd cc
read_by run a (Err unread.Memory) none = absurd cc

unmapped_texts : (o : Option TextsRefusal) → option_map Texts o ≡ None → o ≡ None
unmapped_texts None e = refl
unmapped_texts (Some f) e = absurd cc

no_refusal : (far tick brings : Bool) (cause : AirRefusal) (texts : Option TextsRefusal) (unit : Option AirRefusal) →
    cond far (Some cause) (cond tick None (cond brings (option_map Texts texts) unit)) ≡ None → tick ≡ false → brings ≡ true → texts ≡ None
no_refusal true tick brings cause texts unit e t b = absurd cc
no_refusal false true brings cause texts unit e t b = absurd cc
no_refusal false false false cause texts unit e t b = absurd cc
no_refusal false false true cause texts unit e t b = unmapped_texts texts e

pub read_texts : (run : Run) (a : Air) (entry : ℕ × AccessUnit) → air_cause run a entry ≡ None → brings_texts run entry ≡ true →
    (texts : Described) × (description_in entry.1.bytes ≡ Ok texts)
read_texts run a entry none brings =
    let tick = no_tick_change run entry (texts_change run entry brings) in
    read_by run a (description_in entry.1.bytes)
    (no_refusal (is_far_from run a entry) (is_tick entry) (brings_texts run entry) (far_cause run a entry) (texts_refusal run a entry)
    (if brings_line_up run entry then option_map LineUp (line_up_refusal run a entry) else option_map (fed_refusal entry) (unit_refusal run a entry))
    none tick brings)

-- ---- The output

-- A change of the texts leaves the output so far as it is.
pub texts_output : (run : Run) (a : Air) (texts : Described) → air_output run (with_texts run a texts) ≡ air_output run a
unfolding changes_with
texts_output run a texts =
    output_same run a.before a.accepted a.accepted a.slots a.changes (NextTexts (next_change run.scheduled (job_of a) texts) a.changes)
    (λ t lt. content_before run.scheduled (next_change run.scheduled (job_of a) texts) a.changes (job_of a).units t (omega (arith, lt)))

pub read_output : (run : Run) (a : Air) (r : Result Described DescError) → air_output run (with_read run a r) ≡ air_output run a
unfolding changes_with
read_output run a (Ok texts) = texts_output run a texts
read_output run a (Err refusal) = refl

-- The multiplexer puts texts on air after the written slots.
pub put_on : (run : Run) (a : Air) (texts : Described) (refused : Option TextFault) (start now : Option (List ℕ)) (old new : AirState) (m : MuxState) →
    IsOnAir run a start now old → Moves old new → new.packets ≡ old.packets → new.greatest ≡ old.greatest → new.leap ≡ old.leap →
    new.records ≡ old.records → Carries run (job_of a) m → Changes (job_of a) m texts refused new.mux → refused ≡ None →
    IsOnAir run (with_texts run a texts) start now new
unfolding changes_with
put_on run a texts refused start now old new m h moves packets greatest leap records carried puts none =
    let same : next_change m.schedule (job_of a) texts ≡ next_change run.scheduled (job_of a) texts =
    ap (λ (d : Scheduled). next_change d (job_of a) texts) carried.scheduled in
    let carries : Carries run (with_change (job_of a) (next_change run.scheduled (job_of a) texts)) new.mux = record {
      represents = subst (λ (c : Change). Represents (with_change (job_of a) c) new.mux) same (puts.represents none);
      scheduled = puts.same_schedule ∙ carried.scheduled;
      capacity = puts.same_capacity ∙ carried.capacity;
    } in
    record {
      mux = carries;
      promises = h.promises;
      terms = moves.terms ∙ h.terms;
      hex = ap (λ (p : Buffered). p.hex) packets ∙ h.hex;
      rate = moves.rate ∙ h.rate;
      lead = moves.lead ∙ h.lead;
      greatest = greatest ∙ h.greatest;
      leap = leap ∙ h.leap;
      records = records ∙ h.records;
      one_plan = moves.one_plan ∙ h.one_plan;
      gone = moves.gone ∙ h.gone;
      line_ups = record {
        begun = h.line_ups.begun;
        turns = turns_go_on run a.before (job_of a) (job_of (with_texts run a texts)) a.slots h.line_ups.begun
            (λ t lt. content_before run.scheduled (next_change run.scheduled (job_of a) texts) a.changes (job_of a).units t lt)
            (turn_kept run a.before.from (with_change (job_of a) (next_change run.scheduled (job_of a) texts)) (job_of (with_texts run a texts)) new.mux h.promises
            carries refl) h.line_ups.turns;
        gone = h.line_ups.gone;
      };
      output = subst (λ (l : List ℕ). IsOutput start now new.packets l) (sym (texts_output run a texts))
          (subst (λ (p : Buffered). IsOutput start now p (air_output run a)) (sym packets) h.output);
      headline = keeps run (with_change (job_of a) (next_change run.scheduled (job_of a) texts)) (job_of (with_texts run a texts)) new.mux h.promises carries refl;
    }

-- Texts that the description and the texts in force allow are refused by no multiplexer that carries the run.
pub none_refused : (run : Run) (a : Air) (texts : Described) (refused : Option TextFault) (m new : MuxState) → Carries run (job_of a) m →
    Changes (job_of a) m texts refused new → texts_cause run.scheduled.description (texts_now run a) (Ok texts) ≡ None → refused ≡ None
unfolding texts_cause
none_refused run a texts refused m new carries puts none =
    puts.first ∙ ap (λ (d : Scheduled). text_fault d.description (last_texts d.description a.changes) texts) carries.scheduled
    ∙ unmapped (text_fault run.scheduled.description (texts_now run a) texts) none
  where
    unmapped : (o : Option TextFault) → option_map Fault o ≡ None → o ≡ None
    unmapped None e = refl
    unmapped (Some f) e = absurd cc

-- ---- Texts judged

-- The answers about bytes that are no description, and about texts that a multiplexer judges
pub unread_texts : (run : Run) (a : Air) (bytes : List ℕ) (fault : DescFault) (read : Result Described DescError) →
    read ≡ Err (unread.Refused fault) → (read ≡ Err unread.Memory) ⊎ (read ≡ description_in bytes) →
    texts_cause run.scheduled.description (texts_now run a) (description_in bytes) ≡ Some (Unread fault)
unfolding texts_cause
unread_texts run a bytes fault read is known = elim known [
  | inl none ↦ absurd (let no : Err (unread.Refused fault) ≡ Err unread.Memory = sym is ∙ none in cc)
  | inr same ↦ ap (texts_cause run.scheduled.description (texts_now run a)) (sym same ∙ is)
]

pub unread_by : (run : Run) (a : Air) (bytes : List ℕ) (error : DescError) (why : TextsError) (read : Result Described DescError) → read ≡ Err error →
    why ≡ unread_error error → (read ≡ Err unread.Memory) ⊎ (read ≡ description_in bytes) → JudgesTexts run a bytes (Err why)
unread_by run a bytes error why read is same known =
    subst (λ (e : TextsError). JudgesTexts run a bytes (Err e)) (sym same) (by error is)
  where
    by : (e : DescError) → read ≡ Err e → JudgesTexts run a bytes (Err (unread_error e))
    by unread.Memory is = tt
    by (unread.Refused fault) is = unread_texts run a bytes fault read is known

read_is : (bytes : List ℕ) (texts : Described) (read : Result Described DescError) → read ≡ Ok texts →
    (read ≡ Err unread.Memory) ⊎ (read ≡ description_in bytes) → description_in bytes ≡ Ok texts
read_is bytes texts read is known = elim known [
  | inl none ↦ absurd (let no : Ok texts ≡ Err unread.Memory = sym is ∙ none in cc)
  | inr same ↦ sym same ∙ is
]

fault_by : (run : Run) (a : Air) (texts : Described) (m : MuxState) (fault : Option TextFault) → Carries run (job_of a) m →
    fault ≡ text_cause m.schedule (job_of a) texts →
    texts_cause run.scheduled.description (texts_now run a) (Ok texts) ≡ option_map Fault fault
unfolding texts_cause
fault_by run a texts m fault carries is =
    ap (option_map Fault) (sym (is ∙ ap (λ (d : Scheduled). text_fault d.description (last_texts d.description a.changes) texts) carries.scheduled))

pub accepted_texts : (run : Run) (a : Air) (bytes : List ℕ) (texts : Described) (read : Result Described DescError) (m : MuxState)
    (fault : Option TextFault) → read ≡ Ok texts → (read ≡ Err unread.Memory) ⊎ (read ≡ description_in bytes) → Carries run (job_of a) m →
    fault ≡ text_cause m.schedule (job_of a) texts → fault ≡ None →
    (description_in bytes ≡ Ok texts) × (texts_cause run.scheduled.description (texts_now run a) (Ok texts) ≡ None)
accepted_texts run a bytes texts read m fault is known carries first none =
    (read_is bytes texts read is known, fault_by run a texts m fault carries first ∙ ap (option_map Fault) none)

pub refused_texts : (run : Run) (a : Air) (bytes : List ℕ) (texts : Described) (read : Result Described DescError) (m : MuxState)
    (fault : Option TextFault) (why : TextFault) → read ≡ Ok texts → (read ≡ Err unread.Memory) ⊎ (read ≡ description_in bytes) →
    Carries run (job_of a) m → fault ≡ text_cause m.schedule (job_of a) texts → fault ≡ Some why →
    texts_cause run.scheduled.description (texts_now run a) (description_in bytes) ≡ Some (Fault why)
refused_texts run a bytes texts read m fault why is known carries first some =
    ap (texts_cause run.scheduled.description (texts_now run a)) (read_is bytes texts read is known) ∙ fault_by run a texts m fault carries first
    ∙ ap (option_map Fault) some

-- ---- The writer

-- The writer fails while the settled slots are written: the texts change no byte before their first slot.
pub texts_fail : (run : Run) (a : Air) (entry : ℕ × AccessUnit) (sent : ℕ) (texts : Described) (start later : Option (List ℕ)) (m : MuxState) →
    Promises run.scheduled → Carries run (job_of a) m → IsNearTexts run a entry →
    texts_cause run.scheduled.description (texts_now run a) (Ok texts) ≡ None → description_in entry.1.bytes ≡ Ok texts →
    Fails run (taken run a entry a.accepted a.changes) start later sent →
    (air_cause run a entry ≡ None) × FailsIn (course_after run a entry) start later sent
unfolding changes_with
texts_fail run a entry sent texts start later m promises carries t none read before =
    let accepted = texts_accepted run a entry texts t none read in
    let last = judged_texts run a entry texts accepted t.texts read in (
      accepted,
      fails_in run a entry start later sent accepted (texts_stay run a entry t.texts)
          (subst (λ (b : Air). Fails run b start later sent) (sym last) (record {
            took = subst (λ (l : List ℕ). Took start later sent l) (sym (texts_output run (taken run a entry a.accepted a.changes) texts)) before.took;
            line_ups = record {
              begun = before.line_ups.begun;
              turns = turns_go_on run a.before (job_of (taken run a entry a.accepted a.changes)) (job_of (with_texts run (taken run a entry a.accepted a.changes) texts))
                  (taken run a entry a.accepted a.changes).slots before.line_ups.begun
                  (λ t lt. content_before run.scheduled (next_change run.scheduled (job_of (taken run a entry a.accepted a.changes)) texts) a.changes
                  (job_of a).units t lt)
                  (turn_kept run a.before.from (job_of a) (job_of (with_texts run (taken run a entry a.accepted a.changes) texts)) m promises carries refl)
                  before.line_ups.turns;
              gone = before.line_ups.gone;
            };
            headline = keeps run (job_of a) (job_of (with_texts run (taken run a entry a.accepted a.changes) texts)) m promises carries refl;
          })),
    )
