-- A list of conditions, each with the two numbers that it compares, and the first that fails.
use Rattle.std.specs.Prelude.{ℕ, ◌==◌, Bool, List, [], ◌∷◌, Option, Some, None, nat_le, if◌then◌else◌}
use Rattle.slot_plan.specs.declared.condition.Condition.{Condition}
use Rattle.slot_plan.specs.declared.condition.Condition.TheVariants.{Shape, PcrGap, TableGap, Spread, StreamRate, TransportBuffer, StreamLead, MainBuffer}
use Rattle.slot_plan.specs.declared.condition.Condition.TheVariants.{SystemBuffer, MultiplexingBuffer, ElementaryLead, SectionDistance, PcrSwitch, TableSwitch}
use Rattle.slot_plan.specs.declared.condition.Condition.TheVariants.{WorkSwitch, LeadSwitch, MainSwitch, ElementarySwitch}
use Rattle.slot_plan.specs.declared.condition.Relation.{Relation}
use Rattle.slot_plan.specs.declared.condition.Relation.TheVariants.{AtMost, Equal}

-- the number of a condition
abbrev pub code_of : Condition → ℕ
code_of Shape = 1
code_of PcrGap = 2
code_of TableGap = 3
code_of Spread = 4
code_of StreamRate = 5
code_of TransportBuffer = 6
code_of StreamLead = 7
code_of MainBuffer = 8
code_of SystemBuffer = 9
code_of MultiplexingBuffer = 10
code_of ElementaryLead = 11
code_of PcrSwitch = 12
code_of TableSwitch = 13
code_of WorkSwitch = 14
code_of LeadSwitch = 15
code_of MainSwitch = 16
code_of ElementarySwitch = 17
code_of SectionDistance = 18

-- one case of a condition: its part, the item that it is about, its two numbers and how they have to compare
pub record Entry : Type 0 where
  pub condition : Condition
  pub part : ℕ
  pub item : ℕ
  pub relation : Relation
  pub left : ℕ
  pub right : ℕ

abbrev pub at_most : Condition → ℕ → ℕ → ℕ → ℕ → Entry
at_most condition part item left right =
    record { condition = condition; part = part; item = item; relation = AtMost; left = left; right = right }

abbrev pub equal_counts : Condition → ℕ → ℕ → ℕ → ℕ → Entry
equal_counts condition part item left right =
    record { condition = condition; part = part; item = item; relation = Equal; left = left; right = right }

-- whether two numbers compare so
abbrev pub compares : Relation → ℕ → ℕ → Bool
compares AtMost left right = nat_le left right
compares Equal left right = left == right

abbrev pub entry_holds : Entry → Bool
entry_holds e = compares e.relation e.left e.right

-- the first that fails
abbrev pub first_failing : List Entry → Option Entry
first_failing [] = None
first_failing (e ∷ es) = if entry_holds e then first_failing es else Some e
