-- The explanation of a job, by the explanations of its parts.
use Rattle.std.proofs.Common.{◌≡◌, ◌∙◌, ◌==◌, ℕ, Bool, true, false, List, [], length, Option, Some, Result, Ok, Err, ap, refl, subst, sym}
use Rattle.std.proofs.Common.{Global, IfOk, String, string_bytes}
use Rattle.std.proofs.lemmas.Result.{IfOk-weaker}
use Rattle.std.specs.Prelude.{if◌then◌else◌}
use Rattle.checked_jobs.specs.JobFaults.{IsJob, job_view, plans_view}
use Rattle.checked_jobs.specs.Jobs.{JobView, job_of}
use Rattle.job_parts.specs.Parts.{parts_of}
use Rattle.checked_jobs.specs.declared.job_fault.JobFault.{JobFault}
use Rattle.checked_jobs.specs.declared.job_fault.JobReadError.TheVariants.{Fault as NoJob}
use Rattle.checked_jobs.specs.declared.jobs.CheckedJob.{CheckedJob}
use Rattle.checked_jobs.specs.declared.jobs.JobPlans.{JobPlans}
use Rattle.checked_jobs.specs.declared.jobs.JobPlans.TheVariants.{One, Two}
use Rattle.devices.specs.Devices.{Device}
use Rattle.devices.specs.WholeInput.{IsWhole}
use Rattle.diagnosis.specs.Explained.{IsExplained, explained}
use Rattle.diagnosis.specs.TomlNotes.{TomlNoteView}
use Rattle.mux_core.specs.declared.multiplexing.MuxError.{MuxError}
use Rattle.checked_jobs.specs.MuxJobs.{IsMuxJob, MuxFaultView, MuxJobView, ReadsMuxJob, mux_fault_view, mux_job_of, mux_job_view}
use Rattle.checked_jobs.specs.Multiplexing.{cause_of}
use Rattle.checked_jobs.specs.declared.mux_jobs.MuxFault.{MuxFault}
use Rattle.checked_jobs.specs.declared.mux_jobs.MuxJob.{MuxJob}
use Rattle.checked_jobs.specs.declared.mux_jobs.MuxJobError.TheVariants.{Fault}
use Rattle.explained_jobs.specs.JobWords.{ArePartsExplained, IsJobExplained, IsRestExplained, IsSecondAlone, IsSecondExplained, after_plan}
use Rattle.explained_jobs.specs.JobWords.{begins_plan, dry, error_words, fault_words, headed, lacks_plan, or_words, parts_words, plan_line}
use Rattle.explained_jobs.specs.JobWords.{second_alone, second_words, units_words}

-- 1. The first words, or the next words if there are none

first_of : (first next : List ℕ) → (length first == 0) ≡ false → first ≡ or_words first next
unfolding or_words
first_of first next some = sym (ap (λ (b : Bool). if b then next else first) some)

next_of : (first next : List ℕ) → (length first == 0) ≡ true → next ≡ or_words first next
unfolding or_words
next_of first next none = sym (ap (λ (b : Bool). if b then next else first) none)

-- 2. The whole explanation

abbrev no_note : TomlNoteView
no_note = record { place = 0; message = [] }

pub words_first : (bytes text : List ℕ) → IsExplained bytes text → (length text == 0) ≡ false → ArePartsExplained bytes text
words_first bytes text e some = record {
  first = e.0;
  second = e.0;
  is = first_of text (after_plan e.0 bytes (job_of false bytes)) some ∙ ap (λ (xs : List ℕ). or_words xs (after_plan e.0 bytes (job_of false bytes))) e.1;
}

pub words_after : (bytes first text : List ℕ) → IsExplained bytes first → (length first == 0) ≡ true → IsRestExplained bytes text → ArePartsExplained bytes text
words_after bytes first text e none r = record {
  first = e.0;
  second = r.0;
  is = r.1 ∙ next_of first (after_plan r.0 bytes (job_of false bytes)) none ∙ ap (λ (xs : List ℕ). or_words xs (after_plan r.0 bytes (job_of false bytes))) e.1;
}

pub asks_for_plan : (bytes text : List ℕ) → lacks_plan bytes (parts_of bytes) ≡ true → text ≡ plan_line → IsJobExplained bytes text
asks_for_plan bytes text lacks is = record {
  first = no_note;
  second = no_note;
  is = is ∙ sym (ap (λ (b : Bool). if b then plan_line else parts_words no_note no_note bytes) lacks);
}

pub has_parts : (bytes text : List ℕ) → lacks_plan bytes (parts_of bytes) ≡ false → ArePartsExplained bytes text → IsJobExplained bytes text
has_parts bytes text has e = record {
  first = e.first;
  second = e.second;
  is = e.is ∙ sym (ap (λ (b : Bool). if b then plan_line else parts_words e.first e.second bytes) has);
}

-- 3. A second plan

pub alone_words : (bytes rest alone words text : List ℕ) → alone ≡ second_alone bytes rest → IsExplained alone words → text ≡ headed words →
    IsSecondAlone bytes rest text
alone_words bytes rest alone words text same e is = (e.0, is ∙ ap headed (e.1 ∙ ap (explained e.0) same))

pub second_first : (bytes rest text : List ℕ) → IsSecondAlone bytes rest text → (length text == 0) ≡ false → IsSecondExplained bytes rest text
second_first bytes rest text e some =
    (e.0, first_of text (units_words true (mux_job_of true bytes)) some ∙ ap (λ (xs : List ℕ). or_words xs (units_words true (mux_job_of true bytes))) e.1)

pub second_after : (bytes rest first text : List ℕ) → IsSecondAlone bytes rest first → (length first == 0) ≡ true →
    text ≡ units_words true (mux_job_of true bytes) → IsSecondExplained bytes rest text
second_after bytes rest first text e none is =
    (e.0, is ∙ next_of first (units_words true (mux_job_of true bytes)) none ∙ ap (λ (xs : List ℕ). or_words xs (units_words true (mux_job_of true bytes))) e.1)

-- 4. The text after the first plan

pub no_job : (bytes text : List ℕ) (fault : JobFault) → IsJob (job_of false bytes) (Err (NoJob fault)) → text ≡ [] → IsRestExplained bytes text
unfolding after_plan
no_job bytes text fault is none = (no_note, none ∙ ap (after_plan no_note bytes) is)

rest_is : (plans : JobPlans) (rest : List ℕ) → rest ≡ (plans_view plans rest).rest
rest_is (One c) rest = refl
rest_is (Two c) rest = refl

after_second : (note : TomlNoteView) (bytes : List ℕ) (j : JobView) → begins_plan j.rest ≡ true → second_words note bytes j.rest ≡ after_plan note bytes (Ok j)
unfolding after_plan
after_second note bytes j begins = sym (ap (λ (b : Bool). if b then second_words note bytes j.rest else units_words false (mux_job_of false bytes)) begins)

after_one : (note : TomlNoteView) (bytes : List ℕ) (j : JobView) → begins_plan j.rest ≡ false →
    units_words false (mux_job_of false bytes) ≡ after_plan note bytes (Ok j)
unfolding after_plan
after_one note bytes j begins = sym (ap (λ (b : Bool). if b then second_words note bytes j.rest else units_words false (mux_job_of false bytes)) begins)

second_of : (bytes rest text : List ℕ) (j : JobView) → Ok j ≡ job_of false bytes → rest ≡ j.rest → begins_plan rest ≡ true → IsSecondExplained bytes rest text →
    IsRestExplained bytes text
second_of bytes rest text j is same begins e = (
  e.0,
  e.1 ∙ ap (second_words e.0 bytes) same ∙ after_second e.0 bytes j (subst (λ (xs : List ℕ). begins_plan xs ≡ true) same begins)
      ∙ ap (after_plan e.0 bytes) is,
)

one_of : (bytes rest text : List ℕ) (j : JobView) → Ok j ≡ job_of false bytes → rest ≡ j.rest → begins_plan rest ≡ false →
    text ≡ units_words false (mux_job_of false bytes) → IsRestExplained bytes text
one_of bytes rest text j is same begins words =
    (no_note, words ∙ after_one no_note bytes j (subst (λ (xs : List ℕ). begins_plan xs ≡ false) same begins) ∙ ap (after_plan no_note bytes) is)

pub with_second : (bytes text : List ℕ) (job : CheckedJob) → IsJob (job_of false bytes) (Ok job) → begins_plan job.rest.now ≡ true →
    IsSecondExplained bytes job.rest.now text → IsRestExplained bytes text
with_second bytes text job is begins e = second_of bytes job.rest.now text (job_view job) is (rest_is job.plans job.rest.now) begins e

pub with_one : (bytes text : List ℕ) (job : CheckedJob) → IsJob (job_of false bytes) (Ok job) → begins_plan job.rest.now ≡ false →
    text ≡ units_words false (mux_job_of false bytes) → IsRestExplained bytes text
with_one bytes text job is begins words = one_of bytes job.rest.now text (job_view job) is (rest_is job.plans job.rest.now) begins words

-- 5. Jobs in memory

whole_bytes : (before : Option (List ℕ)) (bytes read : List ℕ) → before ≡ Some bytes → IsWhole before read → read ≡ bytes
whole_bytes before bytes read begins whole = subst (λ (xs : Option (List ℕ)). IsWhole xs read) begins whole

pub job_read : (switch : Bool) (bytes : List ℕ) (input : Device) (job : MuxJob) → input.before.bytes ≡ Some bytes → ReadsMuxJob switch input (Ok job) →
    IsMuxJob (mux_job_of switch bytes) (Ok job)
job_read switch bytes input job begins r =
    subst (λ (xs : List ℕ). IsMuxJob (mux_job_of switch xs) (Ok job)) (whole_bytes input.before.bytes bytes r.bytes begins r.read.0) r.is

pub fault_read : (switch : Bool) (bytes : List ℕ) (input : Device) (fault : MuxFault) → input.before.bytes ≡ Some bytes →
    ReadsMuxJob switch input (Err (Fault fault)) → IsMuxJob (mux_job_of switch bytes) (Err fault)
fault_read switch bytes input fault begins r =
    subst (λ (xs : List ℕ). IsMuxJob (mux_job_of switch xs) (Err fault)) (whole_bytes input.before.bytes bytes r.bytes begins r.read.0) r.is

-- 6. The units of a job

words_of_job : (switch : Bool) (j : MuxJobView) → error_words j (cause_of (dry switch) j) ≡ units_words switch (Ok j)
unfolding units_words
words_of_job switch j = refl

words_of_fault : (switch : Bool) (fault : MuxFaultView) → fault_words fault ≡ units_words switch (Err fault)
unfolding units_words
words_of_fault switch fault = refl

pub units_of_fault : (switch : Bool) (wanted : Result MuxJobView MuxFaultView) (fault : MuxFaultView) (text : List ℕ) → Err fault ≡ wanted →
    text ≡ fault_words fault → text ≡ units_words switch wanted
units_of_fault switch wanted fault text is words = words ∙ words_of_fault switch fault ∙ ap (units_words switch) is

pub units_of_job : (switch : Bool) (wanted : Result MuxJobView MuxFaultView) (first second : MuxJobView) (error : Option MuxError) (text : List ℕ) →
    Ok first ≡ wanted → Ok second ≡ wanted → error ≡ cause_of (dry switch) first → text ≡ error_words second error → text ≡ units_words switch wanted
units_of_job switch wanted first second error text is again cause words =
    let same : second ≡ first = cc in
    words ∙ ap (error_words second) cause ∙ ap (λ (j : MuxJobView). error_words j (cause_of (dry switch) first)) same
    ∙ words_of_job switch first ∙ ap (units_words switch) is

-- The last call reports a fault, or the units of a job that is read twice.
pub fault_said : {E : Type 0} (switch : Bool) (wanted : Result MuxJobView MuxFaultView) (job : Result MuxJob MuxFault) (fault : MuxFault)
    (r : Result (String Global) E) → IsMuxJob wanted job → job ≡ Err fault → IfOk r (λ text. string_bytes text ≡ fault_words (mux_fault_view fault)) →
    IfOk r (λ text. string_bytes text ≡ units_words switch wanted)
fault_said switch wanted job fault r is same said =
    let of_fault : Err (mux_fault_view fault) ≡ wanted = subst (λ (j : Result MuxJob MuxFault). IsMuxJob wanted j) same is in
    IfOk-weaker r (λ text. string_bytes text ≡ fault_words (mux_fault_view fault)) (λ text. string_bytes text ≡ units_words switch wanted)
    (λ text words. units_of_fault switch wanted (mux_fault_view fault) (string_bytes text) of_fault words) said

pub error_said : {E : Type 0} (switch : Bool) (wanted : Result MuxJobView MuxFaultView) (job again : Result MuxJob MuxFault) (first second : MuxJob)
    (error : Option MuxError) (r : Result (String Global) E) → IsMuxJob wanted job → job ≡ Ok first → IsMuxJob wanted again → again ≡ Ok second →
    error ≡ cause_of (dry switch) (mux_job_view first) → IfOk r (λ text. string_bytes text ≡ error_words (mux_job_view second) error) →
    IfOk r (λ text. string_bytes text ≡ units_words switch wanted)
error_said switch wanted job again first second error r is same is_again same_again cause said =
    let of_first : Ok (mux_job_view first) ≡ wanted = subst (λ (j : Result MuxJob MuxFault). IsMuxJob wanted j) same is in
    let of_second : Ok (mux_job_view second) ≡ wanted = subst (λ (j : Result MuxJob MuxFault). IsMuxJob wanted j) same_again is_again in
    IfOk-weaker r (λ text. string_bytes text ≡ error_words (mux_job_view second) error) (λ text. string_bytes text ≡ units_words switch wanted)
    (λ text words. units_of_job switch wanted (mux_job_view first) (mux_job_view second) error (string_bytes text) of_first of_second cause words) said
