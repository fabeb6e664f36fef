-- The conditions that a plan does not keep, and the search for such conditions from a number on.
use Rattle.std.specs.Prelude.{ℕ, ◌-◌, ◌==◌, Bool, List, [], ◌∷◌, ◌++◌, filter, is_none, length, map, nat_le, not, if◌then◌else◌}
use Rattle.description_parts.specs.Described.{Described}
use Rattle.slot_plan.specs.Planned.{Planned}
use Rattle.slot_plan.specs.Entries.{Entry, entry_holds, first_failing}
use Rattle.slot_plan.specs.Conditions.{entries, shape_entries, timing_entries}
use Rattle.plan_checker.specs.Refusals.{entry_of}
use Rattle.plan_checker.specs.declared.failure_search.FailureSearch.{FailureSearch}

-- 1. Which fail

abbrev pub fails : Entry → Bool
fails e = not (entry_holds e)

abbrev pub failing_of : List Entry → List Entry
failing_of es = filter fails es

-- all that a plan for a description does not keep, in their order; a plan is refused by the first
abbrev pub failing : Described → Planned → List Entry
failing d p = failing_of (entries d p)

-- the conditions that the plan is checked for: its shape, or, if the shape holds, its timing
abbrev pub asked_entries : Described → Planned → List Entry
asked_entries d p = if is_none (first_failing (shape_entries d p)) then timing_entries d p else shape_entries d p

-- 2. The search for the failing conditions from a number on

-- how many conditions have still to fail before the first that is kept, how many are kept at most, and the conditions kept
pub record Search : Type 0 where
  pub left : ℕ
  pub most : ℕ
  pub found : List Entry

abbrev pub start : ℕ → ℕ → Search
start number most = record { left = number; most = most; found = [] }

-- whether as many are kept as may be
abbrev pub is_full : Search → Bool
is_full s = nat_le s.most (length s.found)

-- after one more that fails: nothing changes once as many are kept as may be
unfoldable pub after_failure : Search → Entry → Search
after_failure s e =
    if is_full s then s
    else if s.left == 0 then record { left = s.left; most = s.most; found = s.found ++ e ∷ [] }
    else record { left = s.left - 1; most = s.most; found = s.found }

-- after conditions, in their order
abbrev pub after_one : Search → Entry → Search
after_one s e = if entry_holds e then s else after_failure s e

abbrev pub after : Search → List Entry → Search
after s [] = s
after s (e ∷ es) = after (after_one s e) es

-- a search of the code
abbrev pub search_of : FailureSearch → Search
search_of s = record { left = s.left; most = s.most; found = map entry_of s.found.items }
