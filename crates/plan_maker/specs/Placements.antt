-- Own slots placed by the earliest deadline first: number k of an item's own slots in a window of slots, from its release to
-- its due slot.
use Rattle.std.specs.Prelude.{ℕ, zero, suc, ◌+◌, ◌-◌, ◌*◌, ◌/◌, ◌==◌, min, Bool, List, [], ◌∷◌, ◌++◌, length, Option, Some, None}
use Rattle.std.specs.Prelude.{nat_le, nat_lt, if◌then◌else◌, slice_get, slice_set, position, Result, Ok, Err}
use Rattle.std.specs.Option.{option_and_then}
use Rattle.own_slots.specs.Extremes.{least}
use Rattle.slot_plan.specs.declared.slot.Slot.{Slot}
use Rattle.slot_plan.specs.declared.slot.Slot.TheVariants.{Null}
use Rattle.plan_maker.specs.Bounded.{narrowed, most_long}
use Rattle.plan_maker.specs.Demands.{DemandView, need_width}
use Rattle.plan_maker.specs.declared.search.placement.PlacementTask.{PlacementTask}

-- ---- windows

-- evenly spaced from the phase on, own slot number k would be at this slot, times own slots
abbrev pub even_place : ℕ → ℕ → ℕ → ℕ
even_place period phase k = narrowed (narrowed (k * period) + phase)

-- the first slot at or after that place
abbrev pub first_slot : ℕ → ℕ → ℕ
first_slot place count = narrowed (place + (count - 1)) / count

-- the last slot that strays from it by the width at most, within the period
abbrev pub last_slot : ℕ → ℕ → ℕ → ℕ → ℕ
last_slot period place width count = min (narrowed (place + width) / count) (period - 1)

-- the window of the next own slot; after the last one none is open
abbrev pub opened : ℕ → PlacementTask → PlacementTask
opened period t = if nat_le t.count t.placed then record t { release = most_long } else record t {
  release = first_slot (even_place period t.phase t.placed) t.count;
  due = last_slot period (even_place period t.phase t.placed) t.width t.count;
}

-- an item begins with the first of its windows, none wider than two even gaps; items of a kind that have less than one are
-- set apart
abbrev pub first_task : ℕ → DemandView → ℕ → PlacementTask
first_task period d width = opened period (record {
  slot = d.slot;
  count = d.count;
  width = min width (period * 2 - 1);
  phase = narrowed (d.number * (period - 1 - width)) / d.kind;
  placed = 0;
  release = 0;
  due = 0;
})

-- none if a window might hold no slot
abbrev pub task_in : ℕ → DemandView → ℕ → Option PlacementTask
task_in period d width = if nat_lt width (d.count - 1) then None else (if d.kind == 0 then None else Some (first_task period d width))

abbrev pub task_of : DemandView → ℕ → Option PlacementTask
task_of d period = option_and_then (task_in period d) (need_width d.need period d.count)

-- ---- the most urgent

-- when the window ends that is open at a slot
abbrev pub due_at : ℕ → PlacementTask → ℕ
due_at at t = if nat_le t.release at then t.due else most_long

abbrev pub due_of : ℕ → Option PlacementTask → ℕ
due_of at None = most_long
due_of at (Some t) = due_at at t

abbrev pub due_number : List PlacementTask → ℕ → ℕ → ℕ
due_number tasks at i = due_of at (slice_get tasks i)

-- the first of the n least numbers
unfoldable pub first_least : ℕ → (ℕ → ℕ) → Option ℕ
first_least zero f = None
first_least (suc n) f = if nat_lt (f n) (least most_long n f) then Some n else first_least n f

-- the task whose window is open and ends first; of two that end together, the first
abbrev pub most_urgent : List PlacementTask → ℕ → Option ℕ
most_urgent tasks at = first_least (length tasks) (due_number tasks at)

-- ---- slots

-- the slots placed so far, the tasks, and the task that has missed a slot, after which no slot is placed
pub record Placed : Type 0 where
  pub slots : List Slot
  pub tasks : List PlacementTask
  pub missed : Option ℕ

-- an own slot is placed, and the next window opens
abbrev pub advanced : ℕ → PlacementTask → PlacementTask
advanced period t = opened period (record t { placed = narrowed (t.placed + 1) })

-- slot number `at` is the slot of the most urgent task, number i, if the task's window has not ended before
abbrev pub own_slot : ℕ → ℕ → List PlacementTask → ℕ → Option PlacementTask → Placed
own_slot period at tasks i None = record { slots = Null ∷ []; tasks = tasks; missed = None }
own_slot period at tasks i (Some t) = if nat_lt t.due at then record { slots = []; tasks = tasks; missed = Some i }
    else record { slots = t.slot ∷ []; tasks = slice_set tasks i (advanced period t); missed = None }

-- slot number `at` is null if no window is open
abbrev pub urgent_slot : ℕ → ℕ → List PlacementTask → Option ℕ → Placed
urgent_slot period at tasks None = record { slots = Null ∷ []; tasks = tasks; missed = None }
urgent_slot period at tasks (Some i) = own_slot period at tasks i (slice_get tasks i)

abbrev pub next_slot : ℕ → ℕ → List PlacementTask → Placed
next_slot period at tasks = urgent_slot period at tasks (most_urgent tasks at)

abbrev pub joined : Placed → Placed → Placed
joined p next = record { slots = p.slots ++ next.slots; tasks = next.tasks; missed = next.missed }

abbrev pub followed : ℕ → ℕ → Placed → Option ℕ → Placed
followed period at p None = joined p (next_slot period at p.tasks)
followed period at p (Some i) = p

-- the first slots of a period
unfoldable pub placed_in : ℕ → List PlacementTask → ℕ → Placed
placed_in period tasks zero = record { slots = []; tasks = tasks; missed = None }
placed_in period tasks (suc n) = followed period n (placed_in period tasks n) (placed_in period tasks n).missed

-- own slots are left
abbrev pub is_open : PlacementTask → Bool
is_open t = nat_lt t.placed t.count

-- the task that misses a slot, or the first that has own slots left after all slots; none if every task has its own
-- slots
abbrev pub missing : List PlacementTask → Option ℕ → Option ℕ
missing tasks None = position is_open tasks
missing tasks (Some i) = Some i

abbrev pub missing_of : Placed → Option ℕ
missing_of p = missing p.tasks p.missed

-- what a slot and the tasks after it say, or the number of the task that misses it
abbrev pub outcome : Result Slot ℕ → List PlacementTask → Placed
outcome (Ok slot) tasks = record { slots = slot ∷ []; tasks = tasks; missed = None }
outcome (Err i) tasks = record { slots = []; tasks = tasks; missed = Some i }
