-- `plan`: the text of some plan that serves the description.
use Rattle.std.specs.Prelude.{◌≡◌, ◌⊎◌, ℕ, false, List, [], Result, Ok, Err, codes}
use Rattle.description_parts.specs.Described.{Described}
use Rattle.description_keys.specs.declared.fault.DescError.{DescError}
use Rattle.description_keys.specs.declared.fault.DescError.TheVariants.{Refused, Memory}
use Rattle.slot_plan.specs.Conditions.{IsServing}
use Rattle.slot_plan.specs.Planned.{Planned}
use Rattle.slot_plan.specs.Text.{plan_text}
use Rattle.plan_maker.specs.PlainPlan.{plain_plan, serves}
use Rattle.checked_jobs.specs.Jobs.{BadDescription, described}
use Rattle.checked_jobs.specs.JobFaults.{fault_line}
use Rattle.devices.specs.Devices.{Device}
use Rattle.devices.specs.Outcomes.{halt_line, Outcome, printed, reported}
use Rattle.devices.specs.Lines.{Reports, line_text}
use Rattle.devices.specs.declared.halt.Halt.TheVariants.{Memory as NoMemory}

-- the text of a plan for which every condition holds
pub record IsPlanText (d : Described) (text : List ℕ) : Type 0 where
  pub plan : Planned
  pub serving : IsServing d plan
  pub is : text ≡ plan_text plan

pub record GivesPlan (d : Described) (outcome : Outcome) : Type 0 where
  pub text : List ℕ
  pub serving : IsPlanText d text
  pub is : outcome ≡ printed text 0

-- no plan is found: there is no plain plan, or a condition does not hold for it
pub record FindsNone (d : Described) (outcome : Outcome) : Type 0 where
  pub plain : serves d (plain_plan d) ≡ false
  pub is : outcome ≡ reported (line_text (codes "no plan") [])

-- a description is never refused when out of memory
abbrev pub MakesPlanFor : Result Described DescError → Outcome → Type 0
MakesPlanFor (Err (Refused f)) outcome = outcome ≡ reported (fault_line (BadDescription f))
MakesPlanFor (Err Memory) outcome = ⊥
MakesPlanFor (Ok d) outcome = GivesPlan d outcome ⊎ FindsNone d outcome

abbrev pub MakesPlan : List ℕ → Outcome → Type 0
MakesPlan bytes outcome = MakesPlanFor (described bytes) outcome

-- the line and the status if the description can't be read
abbrev pub ReportsUnread : DescError → Device → ℕ → Type 0
ReportsUnread (Refused f) faults status = Reports faults (fault_line (BadDescription f)) × (status ≡ 1)
ReportsUnread Memory faults status = Reports faults (halt_line NoMemory) × (status ≡ 3)
