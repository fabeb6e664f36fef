-- A job: a description, a plan's text, on request a second plan's text, and the bytes after these.
use Rattle.std.specs.Prelude.{ℕ, Bool, true, false, List, Option, Some, None, Result, Ok, Err}
use Rattle.description_parts.specs.Described.{Described}
use Rattle.changed_texts.specs.Reading.{description_in}
use Rattle.description_keys.specs.declared.fault.DescFault.{DescFault}
use Rattle.description_keys.specs.declared.fault.DescFault.TheVariants as fault
use Rattle.description_keys.specs.declared.fault.DescError.{DescError}
use Rattle.description_keys.specs.declared.fault.DescError.TheVariants as refused_by
use Rattle.slot_plan.specs.Planned.{Planned}
use Rattle.slot_plan.specs.Entries.{Entry, first_failing}
use Rattle.slot_plan.specs.SwitchConditions.{switch_entries}
use Rattle.job_parts.specs.Parts.{fault_of, parts_of, planned}

-- 1. What the parts are

-- the description
abbrev pub described : List ℕ → Result Described DescError
described bytes = description_in bytes

-- the first condition that does not hold for the second plan, or for both together
unfoldable pub second_fault_of : Described → Planned → Planned → Option Entry
second_fault_of d p second = first_failing (switch_entries d p second)

-- 2. The job

-- a description, a plan that serves it, on request a second plan that may follow the first, and the bytes after the
-- last plan
pub record JobView : Type 0 where
  pub description : Described
  pub plan : Planned
  pub second : Option Planned
  pub rest : List ℕ

-- the first fault in it: no line is the first of a plan's text, the description is refused, a bad line in the plan, a
-- condition that does not hold for the plan, and these two for the second plan
pub data JobFaultView : Type 0 where
  HasNoPlan : JobFaultView
  BadDescription : DescFault → JobFaultView
  BadLine : ℕ → JobFaultView
  Fails : Entry → JobFaultView
  BadSecondLine : ℕ → JobFaultView
  SecondFails : Entry → JobFaultView

abbrev pub job : Described → Planned → Option Planned → List ℕ → JobView
job d p second rest = record { description = d; plan = p; second = second; rest = rest }

abbrev pub unless_failed : (Entry → JobFaultView) → Option Entry → Result JobView JobFaultView → Result JobView JobFaultView
unless_failed named None next = next
unless_failed named (Some e) next = Err (named e)

abbrev pub with_second : Described → Planned → Result (Planned × List ℕ) ℕ → Result JobView JobFaultView
with_second d p (Err line) = Err (BadSecondLine line)
with_second d p (Ok second) = unless_failed SecondFails (second_fault_of d p second.0) (Ok (job d p (Some second.0) second.1))

-- with a second plan after the first, or without
abbrev pub with_rest : Bool → Described → Planned → List ℕ → Result JobView JobFaultView
with_rest false d p rest = Ok (job d p None rest)
with_rest true d p rest = with_second d p (planned rest)

abbrev pub with_plan : Bool → Described → Result (Planned × List ℕ) ℕ → Result JobView JobFaultView
with_plan switch d (Err line) = Err (BadLine line)
with_plan switch d (Ok plan) = unless_failed Fails (fault_of d plan.0) (with_rest switch d plan.0 plan.1)

-- a description is never refused when out of memory
abbrev pub with_description : Bool → List ℕ → Result Described DescError → Result JobView JobFaultView
with_description switch plans (Err (refused_by.Refused f)) = Err (BadDescription f)
with_description switch plans (Err refused_by.Memory) = Err (BadDescription fault.Text)
with_description switch plans (Ok d) = with_plan switch d (planned plans)

abbrev pub of_parts : Bool → Option (List ℕ × List ℕ) → Result JobView JobFaultView
of_parts switch None = Err HasNoPlan
of_parts switch (Some parts) = with_description switch parts.1 (described parts.0)

-- the job in these bytes, or the first fault in it
unfoldable pub job_of : Bool → List ℕ → Result JobView JobFaultView
job_of switch bytes = of_parts switch (parts_of bytes)
