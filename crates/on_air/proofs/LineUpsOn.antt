-- A line-up takes the place of the one in force
use Rattle.std.proofs.Common.{◌≡◌, ◌⊎◌, ◌+◌, ◌&&◌, ℕ, Bool, true, false, List, [], ◌++◌, Option, Some, None, Result, Ok, Err, refl, sym, ap, ◌∙◌, subst}
use Rattle.std.proofs.Common.{inl, inr, arith, append-nil}
use Rattle.std.specs.Prelude.{cond, is_none, not, option_map, slice_get}
use Rattle.std.proofs.Math.Path.{fun_ext}
use Rattle.std.proofs.lemmas.Bool.{and_parts}
use Rattle.description_parts.specs.Described.{Described}
use Rattle.pes_packet.specs.AccessUnits.{AccessUnit}
use Rattle.plan_checker.specs.Served.{Served}
use Rattle.mux_core.specs.Buffer.{Buffered, IsOutput}
use Rattle.mux_core.specs.Scheduled.{Scheduled}
use Rattle.mux_core.specs.Histories.{History}
use Rattle.mux_core.specs.LineUps.{SilentBefore, TakesOver, UntouchedOver, next_history, scheduled_by}
use Rattle.mux_core.specs.LineUps as mux
use Rattle.mux_core.specs.MuxStates.{MuxState, Represents}
use Rattle.mux_core.specs.declared.line_up.TakeOverError.{TakeOverError}
use Rattle.mux_core.specs.declared.line_up.TakeOverError.TheVariants as over
use Rattle.turns.specs.Turns.{Follows, turn_with}
use Rattle.turns.proofs.TakenOver.{follows_law}
use Rattle.on_air.specs.declared.line_up.LineUpError.{LineUpError}
use Rattle.on_air.specs.declared.line_up.LineUpError.TheVariants as error
use Rattle.on_air.specs.declared.options.Terms.{Terms}
use Rattle.on_air.specs.declared.refusals.AirRefusal.{AirRefusal}
use Rattle.on_air.specs.declared.refusals.AirRefusal.TheVariants.{LineUp, Texts}
use Rattle.on_air.specs.declared.refusals.LineUpRefusal.{LineUpRefusal}
use Rattle.on_air.specs.LineUps.{ReadsLineUp, has_plan, line_up_cause, line_up_in, over_cause, over_error, pids_gone, returned_pid}
use Rattle.on_air.specs.Airing.{Air, Run, air_cause, air_output, brings_line_up, brings_texts, changes_run, content_with, greatest_by, greatest_lead, history_by}
use Rattle.on_air.specs.Airing.{far_cause, fed_refusal, texts_refusal, unit_refusal, is_far_from, is_tick, job_of, judged, judged_by, leap_left, line_up_refusal, taken}
use Rattle.on_air.specs.Courses.{course_after, taken_over, takes_over, turn_of, with_line_up}
use Rattle.on_air.specs.AirStates.{AirState, Carries, IsOnAir, Promises}
use Rattle.on_air.specs.Hearing.{Fails, FailsIn, IsNearLineUp, IsOn, RefusesLineUp, TakesOverFrom}
use Rattle.on_air.proofs.Aired.{Moves, flushed, keeps, refused_by}
use Rattle.on_air.proofs.Contents.{carried_before, outputs_same, turns_same}
use Rattle.on_air.proofs.Courses.{course_over, over}
use Rattle.on_air.proofs.GonePids.{are_new, knows_next}
use Rattle.on_air.proofs.TurnsOn.{turn_kept}
use Rattle.on_air.proofs.LineUpsRead.{cause_over, judged_none, judged_some, refused_read}
use Rattle.on_air.proofs.TextsOn.{no_tick_change}

-- ---- The cause

no_texts_beside : (c p : Bool) → (c && p) ≡ true → (c && not p) ≡ false
no_texts_beside true true e = refl
no_texts_beside true false e = absurd cc
no_texts_beside false p e = absurd cc

-- The cause of a record that brings a line-up
pub near_line_up : (run : Run) (a : Air) (entry : ℕ × AccessUnit) → IsNearLineUp run a entry →
    air_cause run a entry ≡ option_map LineUp (line_up_refusal run a entry)
near_line_up run a entry t =
    let alone : brings_texts run entry ≡ false = no_texts_beside (changes_run run entry) (has_plan entry.1.bytes) t.line_up in
    rw (t.near, t.unit, alone, t.line_up) refl

-- A refused line-up changes nothing.
pub line_up_refused : (run : Run) (a : Air) (entry : ℕ × AccessUnit) (cause : LineUpRefusal) (start now : Option (List ℕ)) (old new : AirState) →
    IsOnAir run a start now old → Moves old new → IsNearLineUp run a entry → line_up_refusal run a entry ≡ Some cause →
    new.mux ≡ old.mux → new.packets ≡ old.packets → new.greatest ≡ old.greatest → new.leap ≡ old.leap → new.records ≡ old.records + 1 →
    (air_cause run a entry ≡ Some (LineUp cause)) × IsOnAir run (judged run a entry) start now new
unfolding greatest_by leap_left
line_up_refused run a entry cause start now old new h moves t is mux packets greatest leap records =
    let refused = near_line_up run a entry t ∙ ap (option_map LineUp) is in (
      refused,
      subst (λ (o : Option AirRefusal). IsOnAir run (judged_by run a entry o) start now new) (sym refused)
          (refused_by run a entry (LineUp cause) start now old new h moves packets (greatest ∙ h.greatest) (leap ∙ h.leap) records
          (subst (λ (m : MuxState). Carries run (job_of a) m) (sym mux) h.mux)),
    )

pub line_up_accepted : (run : Run) (a : Air) (entry : ℕ × AccessUnit) → IsNearLineUp run a entry → line_up_refusal run a entry ≡ None →
    air_cause run a entry ≡ None
line_up_accepted run a entry t none = near_line_up run a entry t ∙ ap (option_map LineUp) none

-- A record takes over if its bytes are read as a line-up.
none_mapped : (o : Option LineUpRefusal) → option_map LineUp o ≡ None → o ≡ None
none_mapped None e = refl
none_mapped (Some refusal) e = absurd cc

no_refusal : (far tick texts brings : Bool) (cause : AirRefusal) (other unit : Option AirRefusal) (line_up : Option LineUpRefusal) →
    cond far (Some cause) (cond tick None (cond texts other (cond brings (option_map LineUp line_up) unit))) ≡ None →
    tick ≡ false → texts ≡ false → brings ≡ true → line_up ≡ None
no_refusal true tick texts brings cause other unit line_up e t x b = absurd cc
no_refusal false true texts brings cause other unit line_up e t x b = absurd cc
no_refusal false false true brings cause other unit line_up e t x b = absurd cc
no_refusal false false false false cause other unit line_up e t x b = absurd cc
no_refusal false false false true cause other unit line_up e t x b = none_mapped line_up e

is_read : (d : Scheduled) (h : History) (gone : List ℕ) (r : Result Served LineUpRefusal) → line_up_cause d h gone r ≡ None → (next : Served) × (r ≡ Ok next)
unfolding line_up_cause
is_read d h gone (Ok next) none = (next, refl)
is_read d h gone (Err refusal) none = absurd cc

none_is : (o : Option AirRefusal) → is_none o ≡ true → o ≡ None
none_is None e = refl
none_is (Some cause) e = absurd cc

pub read_line_up : (run : Run) (a : Air) (entry : ℕ × AccessUnit) → takes_over run a entry ≡ true → (next : Served) × (line_up_in entry.1.bytes ≡ Ok next)
read_line_up run a entry takes =
    let parts = and_parts (brings_line_up run entry) (is_none (air_cause run a entry)) takes in
    let brings = and_parts (changes_run run entry) (has_plan entry.1.bytes) parts.0 in
    is_read run.scheduled (job_of a) a.before.gone (line_up_in entry.1.bytes)
    (no_refusal (is_far_from run a entry) (is_tick entry) (brings_texts run entry) (brings_line_up run entry) (far_cause run a entry)
    (option_map Texts (texts_refusal run a entry)) (option_map (fed_refusal entry) (unit_refusal run a entry)) (line_up_refusal run a entry)
    (none_is (air_cause run a entry) parts.1) (no_tick_change run entry brings.0)
    (no_texts_beside (changes_run run entry) (has_plan entry.1.bytes) parts.0) parts.0)

-- ---- The output so far

pub over_output : (run : Run) (a : Air) (next : Served) → air_output (with_line_up run next) (taken_over run a next.description) ≡ air_output run a
over_output run a next =
    let changes = (next_history run.scheduled (job_of a) next.description).changes in
    let now = turn_with a.slots (scheduled_by next) (history_by (taken_over run a next.description).before [] a.slots changes) in
    outputs_same run.hex (content_with (with_line_up run next) (taken_over run a next.description).before [] changes)
    (content_with run a.before a.accepted a.changes) 0 a.slots
    (λ t lt. carried_before now (turn_of run a) a.before.turns t (omega (arith, lt))
    ∙ turns_same a.before.from run.scheduled (job_of a) (history_by a.before a.accepted a.before.from a.changes) a.before.turns t refl)

-- ---- The state

next_job : (run : Run) (a : Air) (new : Described) → next_history run.scheduled (job_of a) new ≡ job_of (taken_over run a new)
next_job run a new =
    let next = next_history run.scheduled (job_of a) new in
    ap (λ (units : ℕ → List AccessUnit). record { units = units; changes = next.changes; slots = a.slots })
    (fun_ext (λ k. sym (append-nil (next.units k))))

over_carries : (run : Run) (a : Air) (next : Served) (old new : MuxState) → Carries run (job_of a) old → TakesOver (job_of a) old next None new →
    Carries (with_line_up run next) (job_of (taken_over run a next.description)) new
over_carries run a next old new c takes = record {
  represents = subst (λ (h : History). Represents h new)
      (ap (λ (d : Scheduled). next_history d (job_of a) next.description) c.scheduled ∙ next_job run a next.description) (takes.represents refl);
  scheduled = takes.schedule refl;
  capacity = takes.same_capacity ∙ c.capacity;
}

-- There is one plan, before and after.
pub one_plan_before : (run : Run) (entry : ℕ × AccessUnit) → brings_line_up run entry ≡ true → is_none run.scheduled.schedule.following ≡ true
one_plan_before run entry brings =
    let changes = (and_parts (changes_run run entry) (has_plan entry.1.bytes) brings).0 in
    let rest = (and_parts (is_none (slice_get run.scheduled.description.streams entry.0)) _ changes).1 in
    (and_parts (is_none run.scheduled.schedule.following) _ rest).0

pub over_on : (run : Run) (a : Air) (entry : ℕ × AccessUnit) (next : Served) (start now : Option (List ℕ)) (old new : AirState) (m : MuxState) →
    IsOnAir run a start now old → brings_line_up run entry ≡ true → Promises (scheduled_by next) → Carries run (job_of a) m →
    TakesOver (job_of a) m next None new.mux → UntouchedOver m.schedule (job_of a) next → SilentBefore m.schedule (job_of a) next →
    returned_pid a.before.gone next.description ≡ None → new.packets ≡ old.packets → new.terms ≡ old.terms → new.rate ≡ next.description.rate →
    new.lead ≡ greatest_lead next.description.streams + old.terms.wait → new.greatest ≡ old.greatest → new.leap ≡ old.leap → new.records ≡ old.records →
    new.one_plan ≡ old.one_plan → new.gone ≡ a.before.gone ++ pids_gone run.scheduled.description next.description →
    IsOnAir (with_line_up run next) (taken_over run a next.description) start now new
over_on run a entry next start now old new m h brings promises carried takes untouched silent none packets terms rate lead greatest leap records one gone =
    let carries = over_carries run a next m new.mux carried takes in
    let cause : mux.line_up_cause run.scheduled (job_of a) next ≡ None =
    ap (λ (d : Scheduled). mux.line_up_cause d (job_of a) next) (sym carried.scheduled)
    ∙ judged_none (mux.line_up_cause m.schedule (job_of a) next) takes.first in
    let follows : Follows (turn_of (with_line_up run next) (taken_over run a next.description)) (turn_of run a) a.before.turns =
    subst (λ (g : History). Follows (turn_with a.slots (scheduled_by next) g) (turn_of run a) a.before.turns) (next_job run a next.description)
    (follows_law a.before.from run.scheduled (job_of a) next a.before.turns h.promises.ranges promises.ranges h.line_ups.begun cause
    (subst (λ (d : Scheduled). UntouchedOver d (job_of a) next) carried.scheduled untouched)
    (subst (λ (d : Scheduled). SilentBefore d (job_of a) next) carried.scheduled silent) (are_new run a next h.line_ups.gone none)) in
    record {
      mux = carries;
      promises = promises;
      terms = terms ∙ h.terms;
      hex = ap (λ (p : Buffered). p.hex) packets ∙ h.hex;
      rate = rate;
      lead = lead ∙ ap (λ (t : Terms). greatest_lead next.description.streams + t.wait) h.terms;
      greatest = greatest ∙ h.greatest;
      leap = leap ∙ h.leap;
      records = records ∙ h.records;
      one_plan = one ∙ h.one_plan ∙ one_plan_before run entry brings;
      gone = gone;
      line_ups = record {
        begun = omega arith;
        turns = (
          turn_kept (with_line_up run next) a.slots (job_of (taken_over run a next.description)) (job_of (taken_over run a next.description)) new.mux promises
              carries refl,
          (follows, h.line_ups.turns),
        );
        gone = knows_next run a next h.line_ups.gone;
      };
      output = subst (λ (l : List ℕ). IsOutput start now new.packets l) (sym (over_output run a next))
          (subst (λ (p : Buffered). IsOutput start now p (air_output run a)) (sym packets) h.output);
      headline = keeps (with_line_up run next) (job_of (taken_over run a next.description)) (job_of (taken_over run a next.description)) new.mux promises carries
          refl;
    }

-- A state that has not changed
pub unmoved : (run : Run) (a : Air) (start now : Option (List ℕ)) (old new : AirState) → IsOnAir run a start now old → Moves old new → new.mux ≡ old.mux →
    new.packets ≡ old.packets → new.greatest ≡ old.greatest → new.leap ≡ old.leap → new.records ≡ old.records → IsOnAir run a start now new
unmoved run a start now old new h moves mux packets greatest leap records =
    flushed run a start now now old new h moves mux (ap (λ (p : Buffered). p.hex) packets) greatest leap records
    (subst (λ (p : Buffered). IsOutput start now p (air_output run a)) (sym packets) h.output)

-- The multiplexer refuses the line-up, and nothing has changed.
pub over_refused : (run : Run) (a : Air) (entry : ℕ × AccessUnit) (next : Served) (cause : TakeOverError) (start now : Option (List ℕ)) (new : AirState)
    (m after : MuxState) →
    line_up_in entry.1.bytes ≡ Ok next → returned_pid a.before.gone next.description ≡ None → Carries run (job_of a) m →
    TakesOver (job_of a) m next (Some cause) after → IsOnAir run a start now new →
    TakesOverFrom run a entry next start now (Err (over_error cause)) new
over_refused run a entry next cause start now new m after read none carried takes on =
    by cause (judged_some (mux.line_up_cause m.schedule (job_of a) next) cause takes.first)
  where
    is : (e : TakeOverError) → mux.line_up_cause m.schedule (job_of a) next ≡ Some e → line_up_refusal run a entry ≡ over_cause e
    is e some =
        cause_over run.scheduled (job_of a) a.before.gone entry.1.bytes next (Some e) read none
        (ap (λ (d : Scheduled). mux.line_up_cause d (job_of a) next) (sym carried.scheduled) ∙ some)

    by : (e : TakeOverError) → (mux.line_up_cause m.schedule (job_of a) next ≡ Some e) ⊎ (e ≡ over.Memory) →
        TakesOverFrom run a entry next start now (Err (over_error e)) new
    by (over.Fault fault) (inl some) = (is (over.Fault fault) some, on)
    by (over.Fault fault) (inr never) = absurd cc
    by (over.Waiting pid) (inl some) = (is (over.Waiting pid) some, on)
    by (over.Waiting pid) (inr never) = absurd cc
    by over.Memory known = on

-- It accepts it.
pub over_none : (run : Run) (a : Air) (entry : ℕ × AccessUnit) (next : Served) (m after : MuxState) → line_up_in entry.1.bytes ≡ Ok next →
    returned_pid a.before.gone next.description ≡ None → Carries run (job_of a) m → TakesOver (job_of a) m next None after →
    line_up_refusal run a entry ≡ None
over_none run a entry next m after read none carried takes =
    cause_over run.scheduled (job_of a) a.before.gone entry.1.bytes next None read none
    (ap (λ (d : Scheduled). mux.line_up_cause d (job_of a) next) (sym carried.scheduled)
    ∙ judged_none (mux.line_up_cause m.schedule (job_of a) next) takes.first)

-- ---- Refusals

pub read_refuses : (run : Run) (a : Air) (entry : ℕ × AccessUnit) (e : LineUpError) → ReadsLineUp entry.1.bytes (Err e) → RefusesLineUp run a entry e
read_refuses run a entry (error.Refused cause) read = refused_read run.scheduled (job_of a) a.before.gone entry.1.bytes cause read
read_refuses run a entry error.Memory read = read

pub over_kept : (run : Run) (a : Air) (entry : ℕ × AccessUnit) (next : Served) (e : LineUpError) (start now : Option (List ℕ)) (s : AirState) →
    TakesOverFrom run a entry next start now (Err e) s → RefusesLineUp run a entry e × IsOnAir run a start now s
over_kept run a entry next (error.Refused cause) start now s judged = judged
over_kept run a entry next error.Memory start now s on = (tt, on)

-- ---- The record is taken

pub line_up_taken : (run : Run) (a : Air) (entry : ℕ × AccessUnit) (slot : ℕ) (next : Served) (start later : Option (List ℕ)) (new : AirState) →
    IsNearLineUp run a entry → line_up_in entry.1.bytes ≡ Ok next → line_up_refusal run a entry ≡ None → slot ≡ a.slots →
    IsOnAir (with_line_up run next) (taken (with_line_up run next) (taken_over run a next.description) entry [] (taken_over run a next.description).changes)
    start later new →
    (air_cause run a entry ≡ None) × ((takes_over run a entry ≡ true) × ((slot ≡ a.slots) × IsOn (course_after run a entry) start later new))
line_up_taken run a entry slot next start later new t read none same on =
    let accepted = line_up_accepted run a entry t none in
    let takes = over run a entry t.line_up accepted in
    let course = course_over run a entry next takes read in
    (accepted, (takes, (same, rw course on)))

pub line_up_fails : (run : Run) (a : Air) (entry : ℕ × AccessUnit) (sent : ℕ) (next : Served) (start later : Option (List ℕ)) →
    IsNearLineUp run a entry → line_up_in entry.1.bytes ≡ Ok next → line_up_refusal run a entry ≡ None →
    Fails (with_line_up run next) (taken (with_line_up run next) (taken_over run a next.description) entry [] (taken_over run a next.description).changes)
    start later sent →
    (air_cause run a entry ≡ None) × FailsIn (course_after run a entry) start later sent
line_up_fails run a entry sent next start later t read none fails =
    let accepted = line_up_accepted run a entry t none in
    let course = course_over run a entry next (over run a entry t.line_up accepted) read in
    (accepted, rw course fails)
