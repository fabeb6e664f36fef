-- The plain plan: the slots of each item are evenly spaced, and each item takes the first that are free.
use Rattle.std.specs.Prelude.{ℕ, zero, suc, ◌+◌, ◌*◌, ◌/◌, ◌%◌, ◌^◌, ◌==◌, max, Bool, true, false, List, [], ◌∷◌, ◌++◌, length, replicate, slice_index_or}
use Rattle.std.specs.Prelude.{Option, Some, None, option_map, is_none, nat_lt, filter, if◌then◌else◌}
use Rattle.std.specs.List.{list_all}
use Rattle.description_parts.specs.Described.{Described}
use Rattle.slot_plan.specs.declared.slot.Slot.{Slot}
use Rattle.slot_plan.specs.declared.slot.Slot.TheVariants.{Null}
use Rattle.slot_plan.specs.Planned.{Planned}
use Rattle.slot_plan.specs.Numbered.{numbered}
use Rattle.slot_plan.specs.Entries.{first_failing}
use Rattle.slot_plan.specs.Conditions.{entries}
use Rattle.plan_maker.specs.declared.spacing.Spaced.{Spaced}
use Rattle.plan_maker.specs.FirstNumbers.{every, first_of}
use Rattle.plan_maker.specs.Certificates.{certificate_of}
use Rattle.plan_maker.specs.Spacings.{spaced_items}

-- ---- the period

-- the greatest spacing
abbrev pub longest : List Spaced → ℕ
longest [] = 0
longest (item ∷ items) = max item.spacing (longest items)

-- whether each item has a spacing
abbrev pub is_spaced : Spaced → Bool
is_spaced item = nat_lt 0 item.spacing

-- ---- the order: rising spacings, and the items of one spacing in their order

abbrev pub of_spacing : ℕ → List Spaced → List Spaced
of_spacing g items = filter (λ item. item.spacing == g) items

-- the items of the n spacings from 2 ^ e on
abbrev pub by_spacing : ℕ → ℕ → List Spaced → List Spaced
by_spacing e zero items = []
by_spacing e (suc n) items = of_spacing (2 ^ e) items ++ by_spacing (suc e) n items

-- ---- the slots

abbrev pub is_null : Slot → Bool
is_null Null = true
is_null _ = false

-- whether slots x, x + g, .. of a period (a multiple of g, and x below g) are free
abbrev pub is_free : List Slot → ℕ → ℕ → Bool
is_free slots g x = every (length slots / g) (λ j. is_null (slice_index_or slots (x + j * g) Null))

-- slots x, x + g, .. made an item's
abbrev pub with_item : Slot → ℕ → ℕ → List Slot → List Slot
with_item slot g x slots = numbered (λ s old. (if s % g == x then slot else old) ∷ []) 0 slots

-- one item after another takes the slots x, x + g, .. where g is its spacing and x the least for which all are free
abbrev pub placed : List Spaced → List Slot → Option (List Slot)
placed [] slots = Some slots
placed (item ∷ items) slots = elim (first_of item.spacing (is_free slots item.spacing)) [
  | None ↦ None
  | Some x ↦ placed items (with_item item.slot item.spacing x slots)
]

-- the slots of these items: none if an item has no spacing, or finds no free slots
abbrev pub slots_of : List Spaced → Option (List Slot)
slots_of items = if list_all is_spaced items then placed (by_spacing 0 17 items) (replicate (longest items) Null) else None

-- ---- the plan

abbrev pub plan_of : Described → List Slot → Planned
plan_of d slots = record { slots = slots; certificate = certificate_of d slots }

abbrev pub plain_plan : Described → Option Planned
plain_plan d = option_map (plan_of d) (slots_of (spaced_items d))

-- whether a plan is there and keeps every condition
abbrev pub serves : Described → Option Planned → Bool
serves d None = false
serves d (Some p) = is_none (first_failing (entries d p))
