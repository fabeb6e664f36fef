-- A front that takes the place of the one on air.
use Rattle.std.proofs.Common.{◌≡◌, ◌∙◌, ℕ, false, List, Option, None, Some, Result, Ok, Err, IfOk, IfSome, Global, String, string_bytes, ap, inl, inr, refl, subst, sym}
use Rattle.std.proofs.lemmas.Result.{IfOk-weaker}
use Rattle.std.specs.Prelude.{◌⊎◌, codes, option_map}
use Rattle.description_parts.specs.Described.{Described}
use Rattle.description_keys.specs.declared.fault.DescError.{DescError}
use Rattle.description_keys.specs.declared.fault.DescError.TheVariants.{Memory, Refused}
use Rattle.description_keys.specs.declared.fault.DescFault.{DescFault}
use Rattle.slot_plan.specs.Conditions.{IsServing}
use Rattle.slot_plan.specs.Planned.{Planned}
use Rattle.plan_checker.specs.Served.{Served}
use Rattle.changed_texts.specs.Reading.{description_in}
use Rattle.line_ups.specs.Faults.{description_fault, line_up_fault}
use Rattle.line_ups.specs.declared.fault.LineUpFault.{LineUpFault}
use Rattle.kept_plans.specs.Kept.{IsInTheWay}
use Rattle.checked_jobs.specs.Jobs.{JobFaultView, JobView, job_of}
use Rattle.explained_jobs.specs.LineUpWords.{line_up_words}
use Rattle.explained_jobs.specs.NextFronts.{ByJob, ByTexts, IsNextFront, NamesWay, NextOf, front_of, front_words, served_of, unread_front, unread_job, way_words}
use Rattle.explained_jobs.specs.TextAnswers.{refused_words}

pub way_named : (old : Served) (new : Described) (place : Option ℕ) (words : List ℕ) → IfSome place (IsInTheWay old new) → words ≡ way_words new place →
    NamesWay old new words
way_named old new place words helps is = record { place = place; helps = helps; is = is }

-- The front is a job, or it is not.
pub front_read : (old new : Served) (wanted : Result JobView JobFaultView) (job : JobView) (fault : Option LineUpFault) (said : Option (List ℕ)) →
    Ok job ≡ wanted → new ≡ served_of job → fault ≡ line_up_fault old new → said ≡ option_map line_up_words fault → said ≡ front_words old wanted
unfolding front_words
front_read old new wanted job fault said read same has is =
    is ∙ ap (option_map line_up_words) (has ∙ ap (line_up_fault old) same) ∙ ap (front_words old) read

pub front_said : {E : Type 0} (old new : Served) (wanted : Result JobView JobFaultView) (job : JobView) (fault : Option LineUpFault)
    (r : Result (Option (String Global)) E) → Ok job ≡ wanted → new ≡ served_of job → fault ≡ line_up_fault old new →
    IfOk r (λ said. option_map string_bytes said ≡ option_map line_up_words fault) → IfOk r (λ said. option_map string_bytes said ≡ front_words old wanted)
front_said old new wanted job fault r read same has said =
    IfOk-weaker r (λ said. option_map string_bytes said ≡ option_map line_up_words fault) (λ said. option_map string_bytes said ≡ front_words old wanted)
    (λ said words. front_read old new wanted job fault (option_map string_bytes said) read same has words) said

pub front_unread : (old : Served) (wanted : Result JobView JobFaultView) (fault : JobFaultView) (words : List ℕ) → Err fault ≡ wanted → words ≡ unread_front →
    Some words ≡ front_words old wanted
unfolding front_words
front_unread old wanted fault words read is = ap Some is ∙ ap (front_words old) read

-- No word is said of a front that may follow.
no_fault : (fault : Option LineUpFault) → None ≡ option_map line_up_words fault → fault ≡ None
no_fault None is = refl
no_fault (Some fault) is = absurd cc

silent : (old : Served) (texts front : List ℕ) (plan : Planned) (wanted : Result JobView JobFaultView) → wanted ≡ job_of false front → front ≡ front_of texts plan →
    None ≡ front_words old wanted → IsNextFront old texts front
unfolding front_words
silent old texts front plan (Ok job) read is none =
    record { plan = plan; is = is; job = job; read = read; follows = no_fault (line_up_fault old (served_of job)) none }
silent old texts front plan (Err fault) read is none = absurd cc

pub front_follows : (old : Served) (new : Described) (texts front shown : List ℕ) (plan : Planned) → front ≡ front_of texts plan → shown ≡ front →
    None ≡ front_words old (job_of false shown) → NextOf old new texts (Ok front)
unfolding NextOf
front_follows old new texts front shown plan is same none =
    silent old texts front plan (job_of false front) refl is (none ∙ ap (λ (bytes : List ℕ). front_words old (job_of false bytes)) same)

pub nothing_said : (old : Served) (new : Described) (texts front shown : List ℕ) (plan : Planned) (said : Option (String Global)) → front ≡ front_of texts plan →
    shown ≡ front → said ≡ None → option_map string_bytes said ≡ front_words old (job_of false shown) → NextOf old new texts (Ok front)
nothing_said old new texts front shown plan said is same none words =
    front_follows old new texts front shown plan is same (sym (ap (λ (s : Option (String Global)). option_map string_bytes s) none) ∙ words)

pub front_refused : (old : Served) (new : Described) (texts front shown words : List ℕ) (plan : Planned) → IsServing new plan → front ≡ front_of texts plan →
    shown ≡ front → Some words ≡ front_words old (job_of false shown) → NextOf old new texts (Err words)
unfolding NextOf
front_refused old new texts front shown words plan serving is same said =
    inr (inr (record {
      plan = plan;
      serving = serving;
      is = said ∙ ap (λ (bytes : List ℕ). front_words old (job_of false bytes)) (same ∙ is);
    }))

pub no_plan : (old : Served) (new : Described) (texts words : List ℕ) → NamesWay old new words → NextOf old new texts (Err words)
unfolding NextOf
no_plan old new texts words names = inr (inl names)

pub has_fault : (old : Served) (frame new : Described) (texts words : List ℕ) (fault : LineUpFault) → frame ≡ old.description →
    Some fault ≡ description_fault frame new → words ≡ line_up_words fault → NextOf old new texts (Err words)
unfolding NextOf
has_fault old frame new texts words fault same has is =
    inl (record { fault = fault; has = has ∙ ap (λ (d : Described). description_fault d new) same; is = is })

-- The description is read, or refused.
pub texts_read : (old : Served) (texts : List ℕ) (wanted : Result Described DescError) (new : Described) (answer : Result (List ℕ) (List ℕ)) →
    (◌≡◌ {A = Result Described DescError} (Ok new) (Err Memory)) ⊎ (◌≡◌ {A = Result Described DescError} (Ok new) wanted) →
    NextOf old new texts answer → ByTexts old texts wanted answer
unfolding ByTexts
texts_read old texts wanted new answer (inl lack) next = absurd cc
texts_read old texts wanted new answer (inr read) next = subst (λ (d : Result Described DescError). ByTexts old texts d answer) read next

pub texts_refused : (old : Served) (texts : List ℕ) (wanted : Result Described DescError) (fault : DescFault) (words : List ℕ) →
    (◌≡◌ {A = Result Described DescError} (Err (Refused fault)) (Err Memory)) ⊎ (◌≡◌ {A = Result Described DescError} (Err (Refused fault)) wanted) →
    words ≡ refused_words (codes "") (Refused fault) → ByTexts old texts wanted (Err words)
unfolding ByTexts
texts_refused old texts wanted fault words (inl lack) is = absurd cc
texts_refused old texts wanted fault words (inr read) is = subst (λ (d : Result Described DescError). ByTexts old texts d (Err words)) read (ap Err is)

-- The job is read, or it is none.
pub job_read : (wanted : Result JobView JobFaultView) (texts shown : List ℕ) (job : JobView) (old : Served) (answer : Result (List ℕ) (List ℕ)) →
    Ok job ≡ wanted → old ≡ served_of job → shown ≡ texts → ByTexts old shown (description_in shown) answer → ByJob wanted texts answer
unfolding ByJob
job_read wanted texts shown job old answer read same is by =
    subst (λ (j : Result JobView JobFaultView). ByJob j texts answer) read
    (subst (λ (bytes : List ℕ). ByTexts (served_of job) bytes (description_in bytes) answer) is
    (subst (λ (s : Served). ByTexts s shown (description_in shown) answer) same by))

pub job_unread : (wanted : Result JobView JobFaultView) (texts : List ℕ) (fault : JobFaultView) (words : List ℕ) → Err fault ≡ wanted → words ≡ unread_job →
    ByJob wanted texts (Err words)
unfolding ByJob
job_unread wanted texts fault words read is = subst (λ (j : Result JobView JobFaultView). ByJob j texts (Err words)) read (ap Err is)

-- The same with an error that the fault is in, and for a whole answer.
pub error_refused : (old : Served) (texts : List ℕ) (wanted : Result Described DescError) (error : DescError) (fault : DescFault) (words : List ℕ) →
    error ≡ Refused fault → (◌≡◌ {A = Result Described DescError} (Err error) (Err Memory)) ⊎ (◌≡◌ {A = Result Described DescError} (Err error) wanted) →
    words ≡ refused_words (codes "") (Refused fault) → ByTexts old texts wanted (Err words)
error_refused old texts wanted error fault words same read is =
    texts_refused old texts wanted fault words
    (subst (λ (e : DescError). (◌≡◌ {A = Result Described DescError} (Err e) (Err Memory)) ⊎ (◌≡◌ {A = Result Described DescError} (Err e) wanted)) same read) is

pub job_said : {V E : Type 0} (r : Result V E) (shown_as : V → Result (List ℕ) (List ℕ)) (wanted : Result JobView JobFaultView) (texts shown : List ℕ)
    (job : JobView) (old : Served) → Ok job ≡ wanted → old ≡ served_of job → shown ≡ texts →
    IfOk r (λ answer. ByTexts old shown (description_in shown) (shown_as answer)) → IfOk r (λ answer. ByJob wanted texts (shown_as answer))
job_said r shown_as wanted texts shown job old read same is said =
    IfOk-weaker r (λ answer. ByTexts old shown (description_in shown) (shown_as answer)) (λ answer. ByJob wanted texts (shown_as answer))
    (λ answer has. job_read wanted texts shown job old (shown_as answer) read same is has) said
