-- The parts of a job: a description, the text of a plan, and what the text is read as.
use Rattle.std.specs.Prelude.{◌≡◌, ◌+◌, ◌==◌, ◌&&◌, ℕ, Bool, true, List, [], ◌∷◌, take, drop, Option, Some, None, Result, Err, codes, nat_eq}
use Rattle.std.specs.Prelude.{if◌then◌else◌, option_map, ⊤}
use Rattle.std.specs.List.{starts_with}
use Rattle.description_parts.specs.Described.{Described}
use Rattle.slot_plan.specs.Planned.{Planned}
use Rattle.slot_plan.specs.declared.reader.PlanTextError.{PlanTextError}
use Rattle.slot_plan.specs.declared.reader.PlanTextError.TheVariants as bad_text
use Rattle.slot_plan.specs.Readers.{plan_at}
use Rattle.slot_plan.specs.Entries.{Entry, first_failing}
use Rattle.slot_plan.specs.Conditions.{entries}

-- the first line of a plan's text
abbrev pub first_plan_line : List ℕ
first_plan_line = codes "tsplan 1\n"

-- the offset of the first such line in bytes that begin at offset i, at the beginning of a line or within one
abbrev pub plan_offset : ℕ → Bool → List ℕ → Option ℕ
plan_offset i at_line [] = None
plan_offset i at_line (x ∷ xs) = if at_line && starts_with nat_eq (x ∷ xs) first_plan_line then Some i else plan_offset (i + 1) (x == 10) xs

-- the description's bytes and the bytes from the first line `tsplan 1` on, if there is one
abbrev pub parts_of : List ℕ → Option (List ℕ × List ℕ)
parts_of xs = option_map (λ i. (take i xs, drop i xs)) (plan_offset 0 true xs)

-- the plan at the front of a text, and the bytes after it; or the first bad line
unfoldable pub planned : List ℕ → Result (Planned × List ℕ) ℕ
planned text = plan_at text

-- that is the first bad line of the text; nothing is claimed when out of memory
abbrev pub NamesLine : Result (Planned × List ℕ) ℕ → PlanTextError → Type 0
NamesLine expected (bad_text.Line line) = expected ≡ Err line
NamesLine expected bad_text.Memory = ⊤

-- the first condition that does not hold for a plan
unfoldable pub fault_of : Described → Planned → Option Entry
fault_of d p = first_failing (entries d p)
