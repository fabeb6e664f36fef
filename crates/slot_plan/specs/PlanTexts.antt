-- The parts of a text that may be a plan's.
use Rattle.std.specs.Prelude.{◌≡◌, ℕ, ◌++◌, List, Ok, Err, length, drop}
use Rattle.slot_plan.specs.declared.reader.PlanTextError.{PlanTextError}
use Rattle.slot_plan.specs.declared.reader.PlanTextError.TheVariants.{Line, Memory}
use Rattle.slot_plan.specs.Planned.{Planned}
use Rattle.slot_plan.specs.Plans.{IsPlan}
use Rattle.slot_plan.specs.Text.{plan_text}
use Rattle.slot_plan.specs.Readers.{plan_at}

-- the text begins with that plan's, of that number of bytes
pub record BeginsWithPlan (text : List ℕ) (plan : Planned) (bytes : ℕ) : Type 0 where
  pub is_plan : IsPlan plan
  pub bytes_are : bytes ≡ length (plan_text plan)
  pub text_is : text ≡ plan_text plan ++ drop bytes text

-- a refusal names the text's first bad line; if memory ran out, nothing is claimed
abbrev pub Refuses : List ℕ → PlanTextError → Type 0
Refuses text (Line line) = plan_at text ≡ Err line
Refuses text Memory = Unit {0}

-- a reading gives a plan exactly if the text begins with that plan's
pub record ReadsExactly : Type 0 where
  pub found : (text rest : List ℕ) (p : Planned) → plan_at text ≡ Ok (p, rest) → IsPlan p × (text ≡ plan_text p ++ rest)
  pub read : (p : Planned) (rest : List ℕ) → IsPlan p → plan_at (plan_text p ++ rest) ≡ Ok (p, rest)

-- a plan has one text, and no plan's text is the beginning of another's
abbrev pub OneText : Type 0
OneText = (p q : Planned) (rest other : List ℕ) → IsPlan p → IsPlan q → plan_text p ++ rest ≡ plan_text q ++ other → (p ≡ q) × (rest ≡ other)
