-- The results of the readers of a description and a plan, in the terms of a job
use Rattle.std.proofs.Common.{◌≡◌, ℕ, ◌-◌, List, length, take, drop, ap, ◌∙◌, Ok, Err}
use Rattle.slot_plan.specs.Planned.{Planned}
use Rattle.slot_plan.specs.PlanTexts.{Refuses, BeginsWithPlan}
use Rattle.slot_plan.specs.declared.reader.PlanTextError.{PlanTextError}
use Rattle.slot_plan.specs.declared.reader.PlanTextError.TheVariants as bad_text
use Rattle.slot_plan.specs.Readers.{plan_at}
use Rattle.slot_plan.proofs.TextPlans.{plan-complete}
use Rattle.std.proofs.lemmas.List.{take_rest}
use Rattle.job_parts.specs.Parts.{NamesLine, planned}

pub planned_front : (text : List ℕ) (plan : Planned) (size : ℕ) → BeginsWithPlan text plan size → planned text ≡ Ok (plan, drop size text)
unfolding planned
planned_front text plan size s = ap plan_at s.text_is ∙ plan-complete plan (drop size text) s.is_plan

pub planned_bad : (text : List ℕ) (line : ℕ) → plan_at text ≡ Err line → planned text ≡ Err line
unfolding planned
planned_bad text line e = e

pub planned_rest : (text : List ℕ) (plan : Planned) (size : ℕ) → BeginsWithPlan text plan size →
    planned text ≡ Ok (plan, take (length text - size) (drop size text))
planned_rest text plan size s = rw (take_rest text size) (planned_front text plan size s)

pub names_line : (text : List ℕ) (error : PlanTextError) → Refuses text error → NamesLine (planned text) error
names_line text (bad_text.Line line) r = planned_bad text line r
names_line text bad_text.Memory r = tt
