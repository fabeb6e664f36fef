-- From lists of conditions to the conditions of one item.
use Rattle.std.specs.Prelude.{ℕ, zero, suc, ◌+◌, ◌*◌, ◌<◌, Bool, List, [], ◌∷◌, Some, slice_get}
use Rattle.std.proofs.Common.{◌≡◌, arith}
use Rattle.std.proofs.lemmas.Option.{get_or_from_slice_get, slice_get_within}
use Rattle.clock27.specs.Units.{slot_seconds_at_1bps}
use Rattle.own_slots.specs.Period.{per_period, position, back}
use Rattle.own_slots.specs.Gaps.{gap}
use Rattle.own_slots.specs.Work.{HoldsWork, most_before, most_after, work_left}
use Rattle.slot_plan.specs.declared.condition.Condition.{Condition}
use Rattle.slot_plan.specs.Numbered.{numbered}
use Rattle.slot_plan.specs.EmptySlots.{empty_slots, EmptiesEachSecond, EmptiesAcross}
use Rattle.slot_plan.specs.Entries.{Entry, at_most}
use Rattle.slot_plan.specs.declared.condition.Condition.TheVariants.{WorkSwitch}
use Rattle.slot_plan.specs.Conditions.{buffer_entries, emptied_entries, entries_from}
use Rattle.slot_plan.specs.SwitchConditions.{emptied_switch_entry}
use Rattle.slot_plan.proofs.HeldConditions.{holds_both, holds_at, at_most_holds}
use Rattle.slot_plan.proofs.ConditionLists.{Hold}

-- The conditions of the element with this number are true.
pub holds_element : {A : Type 0} (part : ℕ → A → List Entry) (xs : List A) (i : ℕ) (x : A) → Hold (numbered part 0 xs) → slice_get xs i ≡ Some x →
    Hold (part i x)
holds_element part xs i x hold is =
    let zero_on : 0 + i ≡ i = omega arith in
    let here = holds_at part 0 xs i x hold (slice_get_within xs i x is) in
    rw (zero_on, get_or_from_slice_get xs i x x is) at here

-- If the conditions on m, m + 1, .. units are true, so is the condition on m + j units.
pub holds_count : (f : ℕ → Entry) (m n j : ℕ) → j < n → Hold (entries_from f m n) → Hold (f (m + j) ∷ [])
holds_count f m zero j lt hold = absurd (omega arith)
holds_count f m (suc n) zero lt hold =
    let e : m + zero ≡ m = omega arith in rw e ((holds_both (f m ∷ []) (entries_from f (suc m) n) hold).0)
holds_count f m (suc n) (suc j) lt hold =
    let e : suc m + j ≡ m + suc j = omega arith in
    rw (← e) (holds_count f (suc m) n j (omega arith) ((holds_both (f m ∷ []) (entries_from f (suc m) n) hold).1))

-- The three conditions of a buffer give its claims.
pub holds_work : (condition : Condition) (item rate drain room start peak : ℕ) (marks : List Bool) →
    Hold (buffer_entries condition item rate drain room start peak marks) →
    HoldsWork rate drain room start peak marks
holds_work condition item rate drain room start peak marks hold =
    let fits = at_most condition 1 item (most_before rate drain start marks) (room * rate) in
    let peaks = at_most condition 2 item (most_after rate drain start marks) peak in
    let carries = at_most condition 3 item (work_left rate drain start marks) start in
    let one = holds_both (fits ∷ []) (peaks ∷ carries ∷ []) hold in
    let two = holds_both (peaks ∷ []) (carries ∷ []) one.1 in
    record {
      fits = at_most_holds condition 1 item (most_before rate drain start marks) (room * rate) one.0;
      peaks = at_most_holds condition 2 item (most_after rate drain start marks) peak two.0;
      carries = at_most_holds condition 3 item (work_left rate drain start marks) start two.1;
    }

-- The two further conditions of a buffer that has to be empty at least once a second
pub holds_emptied : (condition : Condition) (item rate drain start : ℕ) (marks : List Bool) → Hold (emptied_entries condition item rate drain start marks) →
    EmptiesEachSecond rate drain start marks
holds_emptied condition item rate drain start marks hold =
    let some = at_most condition 4 item 1 (per_period (empty_slots rate drain start marks)) in
    let often = at_most condition 5 item (gap (empty_slots rate drain start marks) 1 * slot_seconds_at_1bps) rate in
    let both = holds_both (some ∷ []) (often ∷ []) hold in
    record {
      some = at_most_holds condition 4 item 1 (per_period (empty_slots rate drain start marks)) both.0;
      often = at_most_holds condition 5 item (gap (empty_slots rate drain start marks) 1 * slot_seconds_at_1bps) rate both.1;
    }

-- The condition of a buffer that has to be empty at least once a second, across a switch from one plan to the next
pub holds_emptied_switch : (item rate drain start : ℕ) (first : List Bool) (next_start : ℕ) (second : List Bool) →
    Hold (emptied_switch_entry item rate drain start first next_start second ∷ []) → EmptiesAcross rate drain start first next_start second
holds_emptied_switch item rate drain start first next_start second hold = record {
  often = at_most_holds WorkSwitch 1 item
      ((position (empty_slots rate drain next_start second) 0 + back (empty_slots rate drain start first) 1) * slot_seconds_at_1bps) rate hold;
}
