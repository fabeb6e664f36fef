-- The search for a plan: the slots of a period, in which each item has the least own slots that its conditions ask for,
-- placed by the earliest deadline first; and the periods that are tried in turn.
use Rattle.std.specs.Prelude.{◌≡◌, ℕ, zero, suc, ◌+◌, ◌/◌, false, List, [], ◌∷◌, All, Option, Some, None, option_map, nat_lt}
use Rattle.std.specs.Prelude.{if◌then◌else◌, slice_get, slice_set, Result, Ok, Err, min}
use Rattle.std.specs.List.{sum_by}
use Rattle.std.specs.Option.{option_and_then}
use Rattle.description_parts.specs.Described.{Described}
use Rattle.slot_plan.specs.declared.slot.Slot.{Slot}
use Rattle.slot_plan.specs.Planned.{Planned}
use Rattle.plan_maker.specs.Bounded.{narrowed, most_long}
use Rattle.plan_maker.specs.Demands.{DemandView, need_is_full, demands_of}
use Rattle.plan_maker.specs.Placements.{task_of, placed_in, missing_of}
use Rattle.plan_maker.specs.PlainPlan.{plan_of, serves}
use Rattle.plan_maker.specs.declared.search.placement.PlacementTask.{PlacementTask}

-- ---- one try

-- a task before other tasks, or the number of the demand that has none
abbrev pub before : Option PlacementTask → ℕ → Result (List PlacementTask) ℕ → Result (List PlacementTask) ℕ
before None i rest = Err i
before (Some task) i (Ok tasks) = Ok (task ∷ tasks)
before (Some task) i (Err missed) = Err missed

-- the tasks of all demands, numbered from i on, or the number of the first whose windows are too narrow
unfoldable pub tasks_from : ℕ → ℕ → List DemandView → Result (List PlacementTask) ℕ
tasks_from period i [] = Ok []
tasks_from period i (d ∷ ds) = before (task_of d period) i (tasks_from period (suc i) ds)

-- the number of an item that misses a slot; none if all slots are placed
abbrev pub missing_after : ℕ → Result (List PlacementTask) ℕ → Option ℕ
missing_after period (Ok tasks) = missing_of (placed_in period tasks period)
missing_after period (Err i) = Some i

-- the slots
abbrev pub slots_after : ℕ → Result (List PlacementTask) ℕ → List Slot
slots_after period (Ok tasks) = (placed_in period tasks period).slots
slots_after period (Err i) = []

abbrev pub missing_in : ℕ → List DemandView → Option ℕ
missing_in period ds = missing_after period (tasks_from period 0 ds)

abbrev pub slots_in : ℕ → List DemandView → List Slot
slots_in period ds = slots_after period (tasks_from period 0 ds)

-- ---- one more try, with more own slots for the item that misses one

-- one own slot more, and a sixty-fourth of them
abbrev pub with_more : DemandView → DemandView
with_more d = record d { count = narrowed (narrowed (d.count + 1) + d.count / 64) }

-- demand number i has more own slots; none if they can't help
abbrev pub added_to : ℕ → List DemandView → ℕ → Option DemandView → Option (List DemandView)
added_to period ds i None = None
added_to period ds i (Some d) = if need_is_full d.need period d.count then None else Some (slice_set ds i (with_more d))

abbrev pub added : ℕ → List DemandView → ℕ → Option (List DemandView)
added period ds i = added_to period ds i (slice_get ds i)

-- ---- a period

abbrev pub total_of : List DemandView → ℕ
total_of ds = min (sum_by (λ d. d.count) ds) most_long

-- the slots that are found in at most n tries; none once all items together have more own slots than the period
unfoldable pub found_in : ℕ → ℕ → List DemandView → Option (List Slot)
found_in zero period ds = None
found_in (suc n) period ds = if nat_lt period (total_of ds) then None else elim (missing_in period ds) [
  | None ↦ Some (slots_in period ds)
  | Some i ↦ elim (added period ds i) [ None ↦ None | Some more ↦ found_in n period more ]
]

-- with a distance in ms between packets of service information
abbrev pub period_slots : Described → ℕ → ℕ → Option (List Slot)
period_slots d distance period = option_and_then (found_in 12 period) (demands_of d distance period)

abbrev pub period_plan : Described → ℕ → ℕ → Option Planned
period_plan d distance period = option_map (plan_of d) (period_slots d distance period)

-- ---- the plans that are tried

-- the periods in slots
abbrev pub periods : List ℕ
periods = 256 ∷ 512 ∷ 1024 ∷ 2048 ∷ 4096 ∷ 8192 ∷ 16384 ∷ 32768 ∷ 65536 ∷ []

-- no period has a plan that serves, with that distance
abbrev pub NoneServes : Described → ℕ → Type 0
NoneServes d distance = All (λ period. serves d (period_plan d distance period) ≡ false) periods
