-- Walks over the own slots of an item
use Rattle.std.specs.Prelude.{◌==◌}
use Rattle.std.proofs.Common.{◌≡◌, ℕ, zero, suc, Some, inl, inr, ◌+◌, ◌-◌, ◌*◌, ◌/◌, ◌%◌, ◌<◌, ◌≤◌, true, false, List, length, get_or, refl, ap, sym, ◌∙◌, arith}
use Rattle.std.proofs.Math.Nat.{mod-add-div'}
use Rattle.std.proofs.lemmas.Nat.{mod_below}
use Rattle.std.proofs.lemmas.Bool.{cases_lt, eqb-false, eqb-true, ne_eqb}
use Rattle.own_slots.specs.Slots.{own_before}
use Rattle.own_slots.specs.Period.{own, position}
use Rattle.own_slots.specs.Extremes.{greatest, least}
use Rattle.own_slots.specs.Gaps.{ahead}
use Rattle.own_slots.specs.Spread.{highest, lowest}
use Rattle.own_slots.specs.Work.{work_at, before_at, after_at}
use Rattle.own_slots.proofs.Gaps.{gap_same}
use Rattle.own_slots.proofs.PositionLemmas.{own_before_turns}
use Rattle.own_slots.proofs.Spread.{highest_same, lowest_same}
use Rattle.own_slots.proofs.WorkLemmas.{before_same, after_same}
use Rattle.slot_plan.specs.declared.slot.Slot.{Slot}
use Rattle.slot_plan.specs.declared.slot.Slot.TheVariants.{Stream as StreamSlot, Pcr as PcrSlot, Table as TableSlot, Null}
use Rattle.slot_plan.specs.declared.slot.Item.{Item}
use Rattle.slot_plan.specs.declared.slot.Item.TheVariants.{Stream, Pcr, Table, System}
use Rattle.slot_plan.specs.Items.{is_own, marks}
use Rattle.slot_plan.proofs.LeastGaps.{near_ahead, near_same}
use Rattle.slot_plan.specs.Links.{AreLinks, IsAbsent, key_at, slot_key}
use Rattle.plan_checker.specs.OwnWalks.{IsForeign, has_kind}
use Rattle.plan_checker.proofs.OwnMarks.{length_marks, mark_at, mark_cyclic, mark_within, own_before_after_other, work_other}

-- Links

pub linked_at : (slots : List Slot) (links : List ℕ) (i at next : ℕ) → AreLinks slots (Some links) → at < length slots → i ≡ length slots - 1 - at →
    next ≡ get_or links i 0 → IsAbsent slots (key_at slots at) (suc at) next
linked_at slots links i at next linked within e found = rw (here (length slots) e) (linked at within)
  where
    there : (n : ℕ) → i ≡ n - 1 - at → n - suc at ≡ i
    there n e = omega (arith, e)

    here : (n : ℕ) → i ≡ n - 1 - at → next ≡ get_or links (n - suc at) 0
    here n e = found ∙ sym (ap (λ (j : ℕ). get_or links j 0) (there n e))

-- Content of another kind than the own slots' is foreign.
abbrev item_key : Item → ℕ
item_key (Stream n) = 2 * n + 2
item_key (Pcr n) = 2 * n + 3
item_key (Table n) = 1
item_key (System n) = 1

kind_key : (item : Item) (s : Slot) → has_kind item s ≡ true → slot_key s ≡ item_key item
kind_key (Stream n) (StreamSlot m) k = omega (arith, eqb-true n m k)
kind_key (Stream n) (PcrSlot m) k = absurd (cc)
kind_key (Stream n) (TableSlot m) k = absurd (cc)
kind_key (Stream n) Null k = absurd (cc)
kind_key (Pcr n) (StreamSlot m) k = absurd (cc)
kind_key (Pcr n) (PcrSlot m) k = omega (arith, eqb-true n m k)
kind_key (Pcr n) (TableSlot m) k = absurd (cc)
kind_key (Pcr n) Null k = absurd (cc)
kind_key (Table n) (StreamSlot m) k = absurd (cc)
kind_key (Table n) (PcrSlot m) k = absurd (cc)
kind_key (Table n) (TableSlot m) k = refl
kind_key (Table n) Null k = absurd (cc)
kind_key (System n) (StreamSlot m) k = absurd (cc)
kind_key (System n) (PcrSlot m) k = absurd (cc)
kind_key (System n) (TableSlot m) k = refl
kind_key (System n) Null k = absurd (cc)

other_key : (item : Item) (t : Slot) → (slot_key t == item_key item) ≡ false → is_own item t ≡ false
other_key (Stream n) (StreamSlot m) d = ne_eqb n m (λ e. eqb-false (2 * m + 2) (2 * n + 2) d (omega (arith, e)))
other_key (Stream n) (PcrSlot m) d = refl
other_key (Stream n) (TableSlot m) d = refl
other_key (Stream n) Null d = refl
other_key (Pcr n) (StreamSlot m) d = refl
other_key (Pcr n) (PcrSlot m) d = ne_eqb n m (λ e. eqb-false (2 * m + 3) (2 * n + 3) d (omega (arith, e)))
other_key (Pcr n) (TableSlot m) d = refl
other_key (Pcr n) Null d = refl
other_key (Table n) (StreamSlot m) d = refl
other_key (Table n) (PcrSlot m) d = refl
other_key (Table n) (TableSlot m) d = absurd (eqb-false 1 1 d refl)
other_key (Table n) Null d = refl
other_key (System n) (StreamSlot m) d = refl
other_key (System n) (PcrSlot m) d = refl
other_key (System n) (TableSlot m) d = absurd (eqb-false 1 1 d refl)
other_key (System n) Null d = refl

apart : (item : Item) (s t : Slot) → has_kind item s ≡ true → (slot_key t == slot_key s) ≡ false → is_own item t ≡ false
apart item s t k d = other_key item t (ap (λ (n : ℕ). slot_key t == n) (sym (kind_key item s k)) ∙ d)

pub foreign_over : (item : Item) (slots : List Slot) (at to : ℕ) → has_kind item (get_or slots at Null) ≡ true →
    IsAbsent slots (key_at slots at) (suc at) to → IsForeign item slots (at + 1) to
foreign_over item slots at to kind h = record {
  after = omega (arith, h.after);
  within = h.within;
  others = λ t a b. mark_at item slots t Null (omega (arith, b, h.within))
      ∙ apart item (get_or slots at Null) (get_or slots t Null) kind (h.others t (omega (arith, a)) b);
}

-- A foreign slot before foreign slots is one more of them.
pub foreign_from : (item : Item) (slots : List Slot) (at to : ℕ) → own (marks item slots) at ≡ false → IsForeign item slots (at + 1) to →
    IsForeign item slots at to
foreign_from item slots at to n h = record {
  after = omega (arith, h.after);
  within = h.within;
  others = λ t a b. elim (cases_lt at t) [
    | inl lt ↦ h.others t (omega (arith, lt)) b
    | inr le ↦ ap (λ (s : ℕ). own (marks item slots) s) (same t at a le) ∙ n
  ];
}
  where
    same : (t at : ℕ) → at ≤ t → t ≤ at → t ≡ at
    same t at a b = omega (arith, a, b)

-- What stays over foreign slots

same_over : (f : ℕ → ℕ) (from d : ℕ) → ((t : ℕ) → from ≤ t → t < from + d → f (t + 1) ≡ f t) → f (from + d) ≡ f from
same_over f from zero h = ap f (none_more from)
  where
    none_more : (n : ℕ) → n + 0 ≡ n
    none_more n = omega arith
same_over f from (suc d) h =
    ap f (one_more from d) ∙ h (from + d) (omega arith) (omega arith) ∙ same_over f from d (λ t a b. h t a (omega (arith, b)))
  where
    one_more : (n d : ℕ) → n + suc d ≡ (n + d) + 1
    one_more n d = omega arith

same_to : (f : ℕ → ℕ) (from to : ℕ) → from ≤ to → ((t : ℕ) → from ≤ t → t < to → f (t + 1) ≡ f t) → f to ≡ f from
same_to f from to le h = ap f (there from to le) ∙ same_over f from (to - from) (λ t a b. h t a (omega (arith, b, le)))
  where
    there : (from to : ℕ) → from ≤ to → to ≡ from + (to - from)
    there from to le = omega (arith, le)

pub counted_over : (item : Item) (slots : List Slot) (from to : ℕ) → IsForeign item slots from to →
    own_before (own (marks item slots)) to ≡ own_before (own (marks item slots)) from
counted_over item slots from to h =
    same_to (λ s. own_before (own (marks item slots)) s) from to h.after (λ t a b. own_before_after_other item slots t (h.others t a b))

pub gap_over : (item : Item) (slots : List Slot) (k from to : ℕ) → IsForeign item slots from to →
    greatest to (ahead (marks item slots) k) ≡ greatest from (ahead (marks item slots) k)
gap_over item slots k from to h =
    same_to (λ s. greatest s (ahead (marks item slots) k)) from to h.after (λ t a b. gap_same (marks item slots) k t (h.others t a b))

pub near_over : (item : Item) (slots : List Slot) (k from to : ℕ) → IsForeign item slots from to →
    least (position (marks item slots) k) to (near_ahead (marks item slots) k) ≡ least (position (marks item slots) k) from (near_ahead (marks item slots) k)
near_over item slots k from to h =
    same_to (λ s. least (position (marks item slots) k) s (near_ahead (marks item slots) k)) from to h.after
    (λ t a b. near_same (marks item slots) k t (h.others t a b))

pub highest_over : (item : Item) (slots : List Slot) (from to : ℕ) → IsForeign item slots from to →
    highest (marks item slots) to ≡ highest (marks item slots) from
highest_over item slots from to h =
    same_to (λ s. highest (marks item slots) s) from to h.after (λ t a b. highest_same (marks item slots) t (h.others t a b))

pub lowest_over : (item : Item) (slots : List Slot) (from to : ℕ) → IsForeign item slots from to →
    lowest (marks item slots) to ≡ lowest (marks item slots) from
lowest_over item slots from to h =
    same_to (λ s. lowest (marks item slots) s) from to h.after (λ t a b. lowest_same (marks item slots) t (h.others t a b))

-- The repeated period

-- The mark at a slot's place in the period is the slot's own.
pub own_turned : (item : Item) (slots : List Slot) (i period : ℕ) → period ≡ length slots → 0 < length slots →
    own (marks item slots) (i % period) ≡ own (marks item slots) i
own_turned item slots i period e pos =
    ap (λ (n : ℕ). own (marks item slots) (i % n)) e
    ∙ mark_at item slots (i % length slots) Null (mod_below i (length slots) pos) ∙ sym (mark_cyclic item slots i Null pos)

-- Own slots that are counted in any period, over foreign slots.
pub turned_over : (item : Item) (slots : List Slot) (from next n : ℕ) → n ≡ length slots → IsForeign item slots (from % n + 1) next →
    own_before (own (marks item slots)) (from + (next - from % n)) ≡ own_before (own (marks item slots)) (from + 1)
turned_over item slots from next n e h =
    let turns : ℕ = from / n in
    let split : from % n + turns * n ≡ from = mod-add-div' from n in
    let long : turns * length (marks item slots) ≡ turns * n = ap (λ (k : ℕ). turns * k) (length_marks item slots ∙ sym e) in
    let there : from + (next - from % n) ≡ next + turns * length (marks item slots) = omega (arith, h.after, split, long) in
    let after : from + 1 ≡ (from % n + 1) + turns * length (marks item slots) = omega (arith, split, long) in
    omega (
      arith,
      ap (λ (k : ℕ). own_before (own (marks item slots)) k) there,
      own_before_turns (marks item slots) next turns,
      counted_over item slots (from % n + 1) next h,
      own_before_turns (marks item slots) (from % n + 1) turns,
      ap (λ (k : ℕ). own_before (own (marks item slots)) k) after,
    )

-- Work

-- Within the period, the mark at a slot is the mark of the list.
pub mark_in : (item : Item) (slots : List Slot) (i : ℕ) → i < length slots → get_or (marks item slots) i false ≡ own (marks item slots) i
mark_in item slots i lt = mark_within item slots i Null lt ∙ sym (mark_at item slots i Null lt)

pub before_over : (rate drain start : ℕ) (item : Item) (slots : List Slot) (from to : ℕ) → IsForeign item slots from to →
    greatest to (before_at rate drain start (marks item slots)) ≡ greatest from (before_at rate drain start (marks item slots))
before_over rate drain start item slots from to h =
    same_to (λ s. greatest s (before_at rate drain start (marks item slots))) from to h.after
    (λ t a b. before_same rate drain start (marks item slots) t (mark_in item slots t (omega (arith, b, h.within)) ∙ h.others t a b))

pub after_over : (rate drain start : ℕ) (item : Item) (slots : List Slot) (from to : ℕ) → IsForeign item slots from to →
    greatest to (after_at rate drain start (marks item slots)) ≡ greatest from (after_at rate drain start (marks item slots))
after_over rate drain start item slots from to h =
    same_to (λ s. greatest s (after_at rate drain start (marks item slots))) from to h.after
    (λ t a b. after_same rate drain start (marks item slots) t (mark_in item slots t (omega (arith, b, h.within)) ∙ h.others t a b))

drained_over : (f : ℕ → ℕ) (c from d : ℕ) → ((t : ℕ) → from ≤ t → t < from + d → f (t + 1) ≡ f t - c) → f (from + d) ≡ f from - c * d
drained_over f c from zero h = ap f (none_more from) ∙ omega arith
  where
    none_more : (n : ℕ) → n + 0 ≡ n
    none_more n = omega arith
drained_over f c from (suc d) h =
    ap f (one_more from d)
    ∙ omega (arith, h (from + d) (omega arith) (omega arith), drained_over f c from d (λ t a b. h t a (omega (arith, b))))
  where
    one_more : (n d : ℕ) → n + suc d ≡ (n + d) + 1
    one_more n d = omega arith

-- Foreign slots drain.
pub work_over : (rate drain start : ℕ) (item : Item) (slots : List Slot) (from to : ℕ) → IsForeign item slots from to →
    work_at rate drain start (marks item slots) to ≡ work_at rate drain start (marks item slots) from - 188 * drain * (to - from)
work_over rate drain start item slots from to h =
    ap (λ (n : ℕ). work_at rate drain start (marks item slots) n) (there from to h.after)
    ∙ drained_over (λ s. work_at rate drain start (marks item slots) s) (188 * drain) from (to - from)
    (λ t a b. work_other rate drain start item slots t (omega (arith, b, h.after, h.within))
    (mark_in item slots t (omega (arith, b, h.after, h.within)) ∙ h.others t a (omega (arith, b, h.after))))
  where
    there : (from to : ℕ) → from ≤ to → to ≡ from + (to - from)
    there from to le = omega (arith, le)
