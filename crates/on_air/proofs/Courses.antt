-- The course of a run after a record
use Rattle.std.proofs.Common.{◌≡◌, ℕ, Bool, true, false, cond, List, Option, Some, None, Result, Ok, refl, sym, ap, ◌∙◌, subst}
use Rattle.std.specs.Prelude.{◌&&◌, is_none, not}
use Rattle.std.proofs.lemmas.Bool.{and_right}
use Rattle.pes_packet.specs.AccessUnits.{AccessUnit}
use Rattle.plan_checker.specs.Served.{Served}
use Rattle.on_air.specs.declared.refusals.AirRefusal.{AirRefusal}
use Rattle.on_air.specs.declared.refusals.LineUpRefusal.{LineUpRefusal}
use Rattle.on_air.specs.LineUps.{has_plan, line_up_in}
use Rattle.on_air.specs.Airing.{Air, Before, Run, accepted_by, air_cause, aired, brings_line_up, brings_texts, caught_up, changed, changes_run, judged, judged_by}
use Rattle.on_air.specs.Airing.{slots_followed, taken}
use Rattle.on_air.specs.Courses.{Course, course_after, course_with, lined_up, takes_over}
use Rattle.on_air.specs.Hearing.{Fails, FailsIn}
use Rattle.on_air.proofs.Aired.{no_line_up}

-- The run after a record is the judged run, with the slots written up to the record if the run follows it. The run follows no accepted record.
pub aired_as : (run : Run) (a : Air) (entry : ℕ × AccessUnit) (refused : Option AirRefusal) → air_cause run a entry ≡ refused →
    aired run a entry ≡ caught_up run (judged run a entry) refused
aired_as run a entry refused is = ap (λ (o : Option AirRefusal). caught_up run (judged run a entry) o) is

pub aired_taken : (run : Run) (a : Air) (entry : ℕ × AccessUnit) → air_cause run a entry ≡ None → aired run a entry ≡ judged run a entry
unfolding slots_followed
aired_taken run a entry none = aired_as run a entry None none

-- ---- Records that bring no line-up

pub course_same : (run : Run) (a : Air) (entry : ℕ × AccessUnit) → takes_over run a entry ≡ false →
    course_after run a entry ≡ record { run = run; air = aired run a entry }
course_same run a entry never =
    ap (λ (b : Bool). cond b (course_with run a entry (line_up_in entry.1.bytes)) (record { run = run; air = aired run a entry })) never

pub alone_stays : (run : Run) (a : Air) (entry : ℕ × AccessUnit) → changes_run run entry ≡ false → takes_over run a entry ≡ false
alone_stays run a entry alone = ap (λ (b : Bool). b && is_none (air_cause run a entry)) (no_line_up run entry alone)

no_plan : (c p o : Bool) → (c && not p) ≡ true → ((c && p) && o) ≡ false
no_plan true true o e = absurd cc
no_plan true false o e = refl
no_plan false p o e = refl

pub texts_stay : (run : Run) (a : Air) (entry : ℕ × AccessUnit) → brings_texts run entry ≡ true → takes_over run a entry ≡ false
texts_stay run a entry texts = no_plan (changes_run run entry) (has_plan entry.1.bytes) (is_none (air_cause run a entry)) texts

pub refused_stays : (run : Run) (a : Air) (entry : ℕ × AccessUnit) (cause : AirRefusal) → air_cause run a entry ≡ Some cause → takes_over run a entry ≡ false
refused_stays run a entry cause is =
    and_right (brings_line_up run entry) (is_none (air_cause run a entry)) (ap (λ (o : Option AirRefusal). is_none o) is)

-- The course after an accepted record, and after a refused one
pub course_taken : (run : Run) (a : Air) (entry : ℕ × AccessUnit) → air_cause run a entry ≡ None → takes_over run a entry ≡ false →
    course_after run a entry ≡ record { run = run; air = judged run a entry }
course_taken run a entry none never =
    course_same run a entry never ∙ ap (λ (b : Air). record { run = run; air = b }) (aired_taken run a entry none)

pub course_refused : (run : Run) (a : Air) (entry : ℕ × AccessUnit) (cause : AirRefusal) → air_cause run a entry ≡ Some cause →
    course_after run a entry ≡ record { run = run; air = caught_up run (judged run a entry) (Some cause) }
course_refused run a entry cause is =
    course_same run a entry (refused_stays run a entry cause is)
    ∙ ap (λ (b : Air). record { run = run; air = b }) (aired_as run a entry (Some cause) is)

-- The writer fails after a record that brings no line-up.
pub fails_in : (run : Run) (a : Air) (entry : ℕ × AccessUnit) (start later : Option (List ℕ)) (sent : ℕ) → air_cause run a entry ≡ None →
    takes_over run a entry ≡ false → Fails run (judged run a entry) start later sent → FailsIn (course_after run a entry) start later sent
fails_in run a entry start later sent none never fails = subst (λ (c : Course). FailsIn c start later sent) (sym (course_taken run a entry none never)) fails

-- ---- Records that bring a line-up

pub over : (run : Run) (a : Air) (entry : ℕ × AccessUnit) → brings_line_up run entry ≡ true → air_cause run a entry ≡ None → takes_over run a entry ≡ true
over run a entry brings none =
    ap (λ (b : Bool). b && is_none (air_cause run a entry)) brings ∙ ap (λ (o : Option AirRefusal). is_none o) none

pub course_over : (run : Run) (a : Air) (entry : ℕ × AccessUnit) (next : Served) → takes_over run a entry ≡ true → line_up_in entry.1.bytes ≡ Ok next →
    course_after run a entry ≡ lined_up run a entry next
unfolding course_with
course_over run a entry next takes read =
    ap (λ (b : Bool). cond b (course_with run a entry (line_up_in entry.1.bytes)) (record { run = run; air = aired run a entry })) takes
    ∙ ap (λ (r : Result Served LineUpRefusal). course_with run a entry r) read

-- ---- Records under the first line-up

pub course_alone : (run : Run) (a : Air) (entry : ℕ × AccessUnit) → changes_run run entry ≡ false →
    course_after run a entry ≡ record { run = run; air = aired run a entry }
course_alone run a entry alone = course_same run a entry (alone_stays run a entry alone)

-- The same of a course whose run is known
pub known_alone : (run : Run) (c : Course) (entry : ℕ × AccessUnit) → c.run ≡ run → changes_run run entry ≡ false →
    course_after c.run c.air entry ≡ record { run = run; air = aired run c.air entry }
known_alone run c entry is alone =
    ap (λ (r : Run). course_after r c.air entry) is ∙ course_alone run c.air entry alone

either_by : (texts : Bool) (a b : Air) (before : Before) → a.before ≡ before → b.before ≡ before → (cond texts a b).before ≡ before
either_by true a b before first second = first
either_by false a b before first second = second

-- What came before the line-up in force stays as it is.
judged_before : (run : Run) (a : Air) (entry : ℕ × AccessUnit) (cause : Option AirRefusal) → (judged_by run a entry cause).before ≡ a.before
unfolding judged_by
judged_before run a entry (Some cause) = refl
judged_before run a entry None =
    either_by (brings_texts run entry) (changed run a entry) (taken run a entry (accepted_by a entry None) a.changes) a.before refl refl

pub aired_before : (run : Run) (a : Air) (entry : ℕ × AccessUnit) → (aired run a entry).before ≡ a.before
aired_before run a entry = judged_before run a entry (air_cause run a entry)

-- If a record does not take over, and is not refused, it brings no line-up.
pub beside : (run : Run) (a : Air) (entry : ℕ × AccessUnit) → takes_over run a entry ≡ false → air_cause run a entry ≡ None → brings_line_up run entry ≡ false
beside run a entry stays none = by (brings_line_up run entry) (air_cause run a entry) none stays
  where
    by : (b : Bool) (o : Option AirRefusal) → o ≡ None → (b && is_none o) ≡ false → b ≡ false
    by true None e never = never
    by true (Some cause) e never = absurd cc
    by false o e never = refl

-- It brings nothing if it brings neither a line-up nor texts.
pub neither : (run : Run) (entry : ℕ × AccessUnit) → brings_line_up run entry ≡ false → brings_texts run entry ≡ false → changes_run run entry ≡ false
neither run entry never other = by (changes_run run entry) (has_plan entry.1.bytes) never other
  where
    by : (c p : Bool) → (c && p) ≡ false → (c && not p) ≡ false → c ≡ false
    by true true never other = never
    by true false never other = other
    by false p never other = refl
