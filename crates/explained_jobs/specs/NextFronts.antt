-- A front that takes the place of the one on air: a new description with a plan in which what stays keeps its slots.
use Rattle.std.specs.Prelude.{◌≡◌, ◌⊎◌, ℕ, false, List, ◌++◌, Option, Some, None, Result, Ok, Err, IfSome, codes, decimal, option_map, slice_get}
use Rattle.description_parts.specs.Described.{Described}
use Rattle.description_keys.specs.declared.fault.DescError.{DescError}
use Rattle.description_keys.specs.declared.fault.DescError.TheVariants.{Refused, Memory}
use Rattle.slot_plan.specs.Conditions.{IsServing}
use Rattle.slot_plan.specs.Planned.{Planned}
use Rattle.slot_plan.specs.Text.{plan_text}
use Rattle.plan_checker.specs.Served.{Served}
use Rattle.changed_texts.specs.Reading.{description_in}
use Rattle.line_ups.specs.Faults.{description_fault, line_up_fault}
use Rattle.line_ups.specs.declared.fault.LineUpFault.{LineUpFault}
use Rattle.kept_plans.specs.Kept.{IsInTheWay}
use Rattle.job_parts.specs.Parts.{parts_of}
use Rattle.checked_jobs.specs.Jobs.{JobFaultView, JobView, job_of}
use Rattle.explained_jobs.specs.JobWords.{description_part}
use Rattle.explained_jobs.specs.LineUpWords.{line_up_words}
use Rattle.explained_jobs.specs.TextAnswers.{refused_words}

-- the description and the first plan of a job
abbrev pub served_of : JobView → Served
served_of j = record { description = j.description; plan = j.plan }

-- 1. A front

-- the bytes of a description, and the text of a plan
abbrev pub front_of : List ℕ → Planned → List ℕ
front_of texts plan = texts ++ plan_text plan

abbrev pub unread_front : List ℕ
unread_front = codes "the new description can't be read with a plan after it: end its last line, and have no line tsplan 1\n"

-- why the job in a front may not take the place of the line-up on air
unfoldable pub front_words : Served → Result JobView JobFaultView → Option (List ℕ)
front_words old (Ok job) = option_map line_up_words (line_up_fault old (served_of job))
front_words old (Err fault) = Some unread_front

-- a front with this description, which may take that place
pub record IsNextFront (old : Served) (texts front : List ℕ) : Type 0 where
  pub plan : Planned
  pub is : front ≡ front_of texts plan
  pub job : JobView
  pub read : Ok job ≡ job_of false front
  pub follows : line_up_fault old (served_of job) ≡ None

-- 2. Why there is none

-- the descriptions alone say that none may
pub record HasFault (old new : Described) (words : List ℕ) : Type 0 where
  pub fault : LineUpFault
  pub has : Some fault ≡ description_fault old new
  pub is : words ≡ line_up_words fault

abbrev pub number_at : Described → ℕ → ℕ
number_at d place = elim (slice_get d.programs place) [ None ↦ 0 | Some p ↦ p.number ]

-- no plan is found, and one is if the program at this place gives its slots up
unfoldable pub way_words : Described → Option ℕ → List ℕ
way_words d None = codes "no plan is found that keeps the slots of all that stays, even if a program more goes and comes again\n"
way_words d (Some place) =
    codes "no plan is found that keeps the slots of all that stays: let program " ++ decimal (number_at d place)
    ++ codes " go, and come again on other PIDs\n"

pub record NamesWay (old : Served) (new : Described) (words : List ℕ) : Type 0 where
  pub place : Option ℕ
  pub helps : IfSome place (IsInTheWay old new)
  pub is : words ≡ way_words new place

-- a plan serves the description, and its front may not follow
pub record IsRefusedFront (old : Served) (new : Described) (texts words : List ℕ) : Type 0 where
  pub plan : Planned
  pub serving : IsServing new plan
  pub is : Some words ≡ front_words old (job_of false (front_of texts plan))

-- 3. The answer

-- a front for a description, or why there is none
unfoldable pub NextOf : Served → Described → List ℕ → Result (List ℕ) (List ℕ) → Type 0
NextOf old new texts (Ok front) = IsNextFront old texts front
NextOf old new texts (Err words) = HasFault old.description new words ⊎ (NamesWay old new words ⊎ IsRefusedFront old new texts words)

unfoldable pub ByTexts : Served → List ℕ → Result Described DescError → Result (List ℕ) (List ℕ) → Type 0
ByTexts old texts (Ok new) answer = NextOf old new texts answer
ByTexts old texts (Err (Refused fault)) answer = answer ≡ Err (refused_words (codes "") (Refused fault))
ByTexts old texts (Err Memory) answer = ⊥

abbrev pub unread_job : List ℕ
unread_job = codes "the job on air can't be read, or its plan does not serve it: tsjob explain says why\n"

unfoldable pub ByJob : Result JobView JobFaultView → List ℕ → Result (List ℕ) (List ℕ) → Type 0
ByJob (Ok old) texts answer = ByTexts (served_of old) texts (description_in texts) answer
ByJob (Err fault) texts answer = answer ≡ Err unread_job

-- the answer to the bytes of a job on air and of a new description
abbrev pub IsNext : List ℕ → List ℕ → Result (List ℕ) (List ℕ) → Type 0
IsNext job texts answer = ByJob (job_of false job) (description_part texts (parts_of texts)) answer
