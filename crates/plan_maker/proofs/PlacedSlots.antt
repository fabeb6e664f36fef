-- Slots that are placed one after another.
use Rattle.std.proofs.Common.{◌≡◌, ℕ, zero, suc, ◌+◌, ◌-◌, ◌<◌, Option, Some, None, List, [], ◌∷◌, ◌++◌, length, get_or, refl, ap, sym, ◌∙◌, arith}
use Rattle.std.proofs.Common.{add-one, append_assoc}
use Rattle.std.specs.Prelude.{nat_lt, if◌then◌else◌, Bool, true, false, IfSome, Ok, Err, slice_get, slice_set}
use Rattle.std.proofs.lemmas.Option.{slice_get-get_or}
use Rattle.std.proofs.lemmas.List.{append-nil}
use Rattle.own_slots.specs.Extremes.{least}
use Rattle.plan_maker.specs.Bounded.{most_long}
use Rattle.plan_maker.specs.declared.search.placement.PlacementTask.{PlacementTask}
use Rattle.slot_plan.specs.declared.slot.Slot.{Slot}
use Rattle.plan_maker.specs.Placements.{due_at, due_of, due_number, first_least, Placed, placed_in, advanced, own_slot, next_slot, joined, followed, outcome}

-- The first of the least numbers

pub first_least_none : (f : ℕ → ℕ) → first_least 0 f ≡ None
unfolding first_least
first_least_none f = refl

-- The first of the least numbers, with one more number.
pub first_least_more : (n : ℕ) (f : ℕ → ℕ) (due least_before : ℕ) (urgent : Option ℕ) → due ≡ f n → least_before ≡ least most_long n f →
    urgent ≡ first_least n f → (if nat_lt due least_before then Some n else urgent) ≡ first_least (n + 1) f
unfolding first_least
first_least_more n f due least_before urgent a b e = rw (a, b, e, add-one n) refl

pub first_least_below : (n : ℕ) (f : ℕ → ℕ) → IfSome (first_least n f) (λ i. i < n)
unfolding first_least
first_least_below zero f = _
first_least_below (suc n) f = step (nat_lt (f n) (least most_long n f)) (first_least n f) (first_least_below n f)
  where
    step : (b : Bool) (o : Option ℕ) → IfSome o (λ i. i < n) → IfSome (if b then Some n else o) (λ i. i < suc n)
    step true o all = omega arith
    step false None all = _
    step false (Some i) all = omega (arith, all)

-- The end of a task's window, found by the task's number.
pub due_is : (tasks : List PlacementTask) (at i : ℕ) (d : PlacementTask) → i < length tasks → due_at at (get_or tasks i d) ≡ due_number tasks at i
due_is tasks at i d lt = sym (ap (due_of at) (slice_get-get_or tasks i d lt))

-- One slot

-- A task whose window has ended misses the slot.
pub misses : (period at : ℕ) (tasks : List PlacementTask) (i : ℕ) (d : PlacementTask) → i < length tasks → nat_lt (get_or tasks i d).due at ≡ true →
    outcome (Err i) tasks ≡ own_slot period at tasks i (slice_get tasks i)
misses period at tasks i d lt over = rw (slice_get-get_or tasks i d lt, over) refl

-- A task whose window has not ended takes the slot.
pub takes : (period at : ℕ) (tasks : List PlacementTask) (i : ℕ) (d : PlacementTask) → i < length tasks → nat_lt (get_or tasks i d).due at ≡ false →
    outcome (Ok (get_or tasks i d).slot) (slice_set tasks i (advanced period (get_or tasks i d))) ≡ own_slot period at tasks i (slice_get tasks i)
takes period at tasks i d lt over = rw (slice_get-get_or tasks i d lt, over) refl

-- One more slot

-- The slots, the tasks and the task that has missed a slot, after n slots of a period.
pub record IsPlaced (period : ℕ) (first : List PlacementTask) (n : ℕ) (before now : List Slot) (tasks : List PlacementTask) (missed : Option ℕ) : Type 0 where
  pub slots_are : now ≡ before ++ (placed_in period first n).slots
  pub tasks_are : tasks ≡ (placed_in period first n).tasks
  pub missed_is : missed ≡ (placed_in period first n).missed

module _ (period : ℕ) (first : List PlacementTask) where
  one_placed : (n : ℕ) → placed_in period first (n + 1) ≡ followed period n (placed_in period first n) (placed_in period first n).missed
  unfolding placed_in
  one_placed n = rw (add-one n) refl

  -- After a task has missed a slot, no slot is placed.
  stays : (n k i : ℕ) → (placed_in period first n).missed ≡ Some i → placed_in period first (n + k) ≡ placed_in period first n
  stays n zero i missed = ap (placed_in period first) (omega arith)
  stays n (suc k) i missed =
      let before : placed_in period first (n + k) ≡ placed_in period first n = stays n k i missed in
      ap (placed_in period first) (omega arith) ∙ one_placed (n + k)
      ∙ ap (followed period (n + k) (placed_in period first (n + k))) (ap (λ (p : Placed). p.missed) before ∙ missed) ∙ before

  module _ (n : ℕ) (before now : List Slot) (tasks : List PlacementTask) (here : IsPlaced period first n before now tasks None) where
    next_placed : (next : Placed) → next ≡ next_slot period n tasks → placed_in period first (n + 1) ≡ joined (placed_in period first n) next
    next_placed next is = one_placed n ∙ ap (followed period n (placed_in period first n)) (sym here.missed_is)
        ∙ ap (joined (placed_in period first n)) (ap (next_slot period n) (sym here.tasks_are) ∙ sym is)

    -- A slot is placed.
    pub one_more : (slot : Slot) (next : List PlacementTask) → outcome (Ok slot) next ≡ next_slot period n tasks →
        IsPlaced period first (n + 1) before (now ++ slot ∷ []) next None
    one_more slot next is =
        let all : placed_in period first (n + 1) ≡ joined (placed_in period first n) (outcome (Ok slot) next) = next_placed (outcome (Ok slot) next) is in
        record {
          slots_are = ap (λ (l : List Slot). l ++ slot ∷ []) here.slots_are ∙ append_assoc before (placed_in period first n).slots (slot ∷ [])
              ∙ ap (λ (p : Placed). before ++ p.slots) (sym all);
          tasks_are = ap (λ (p : Placed). p.tasks) (sym all);
          missed_is = ap (λ (p : Placed). p.missed) (sym all);
        }

    -- A task misses a slot.
    pub one_missed : (i : ℕ) (next : List PlacementTask) → n < period → outcome (Err i) next ≡ next_slot period n tasks →
        IsPlaced period first period before now next (Some i)
    one_missed i next lt is =
        let one : placed_in period first (n + 1) ≡ joined (placed_in period first n) (outcome (Err i) next) = next_placed (outcome (Err i) next) is in
        let rest : n + 1 + (period - (n + 1)) ≡ period = omega (arith, lt) in
        let all : placed_in period first period ≡ joined (placed_in period first n) (outcome (Err i) next) =
        ap (placed_in period first) (sym rest) ∙ stays (n + 1) (period - (n + 1)) i (ap (λ (p : Placed). p.missed) one) ∙ one in
        record {
          slots_are = here.slots_are ∙ ap (λ (l : List Slot). before ++ l) (sym (append-nil (placed_in period first n).slots))
              ∙ ap (λ (p : Placed). before ++ p.slots) (sym all);
          tasks_are = ap (λ (p : Placed). p.tasks) (sym all);
          missed_is = ap (λ (p : Placed). p.missed) (sym all);
        }

pub none_placed : (period : ℕ) (first : List PlacementTask) (before : List Slot) → IsPlaced period first 0 before before first None
unfolding placed_in
none_placed period first before = record { slots_are = sym (append-nil before); tasks_are = refl; missed_is = refl }
