-- What the readers of a plan text return, and what the text has.
use Rattle.std.specs.Prelude.{◌≡◌, ℕ, Result, Ok, Err}
use Rattle.slot_plan.specs.declared.reader.PlanTextError.{PlanTextError}
use Rattle.slot_plan.specs.declared.reader.PlanTextError.TheVariants.{Line, Memory}

-- a value that was read, as lists and numbers, is the value in the text, and a refusal names the bad line; if memory ran out,
-- nothing is claimed
abbrev pub Reads : {V X : Type 0} → (V → X) → Result V PlanTextError → Result X ℕ → Type 0
Reads view (Ok value) there = there ≡ Ok (view value)
Reads view (Err (Line bad)) there = there ≡ Err bad
Reads view (Err Memory) there = Unit {0}
