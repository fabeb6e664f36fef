-- The marks of an item at the slots of a plan, one slot after another
use Rattle.std.proofs.Common.{◌≡◌, ℕ, zero, suc, ◌+◌, ◌-◌, ◌*◌, ◌/◌, ◌%◌, ◌^◌, ◌<◌, ◌≤◌, inl, inr, Bool, true, false, List, length, get_or, refl, ap, ◌∙◌, sym}
use Rattle.std.proofs.Common.{arith, add-one}
use Rattle.std.proofs.Math.Nat.{add-zero, add-mod_right, mod-eq_of_lt, mod-add-div', mul-le-mul_left, mul-le-mul_right}
use Rattle.std.proofs.lemmas.Nat.{mod_below, mul-le}
use Rattle.std.proofs.lemmas.List.{get_or-map, length-map}
use Rattle.std.proofs.lemmas.Bool.{cases_Bool}
use Rattle.own_slots.specs.Slots.{own_before}
use Rattle.own_slots.specs.Period.{own, per_period, position}
use Rattle.own_slots.specs.Spread.{raised}
use Rattle.own_slots.specs.Work.{work_step, work_at}
use Rattle.own_slots.proofs.WorkLemmas.{work_more}
use Rattle.own_slots.proofs.Counts.{own_before_own, own_before_other, own_before_le}
use Rattle.own_slots.proofs.PositionLemmas.{own_before_period, positions_law, position_below, position_turns, position_le}
use Rattle.slot_plan.specs.declared.slot.Slot.{Slot}
use Rattle.slot_plan.specs.declared.slot.Item.{Item}
use Rattle.slot_plan.specs.Items.{is_own, marks}

-- A plan's item has a mark for each slot.
pub length_marks : (item : Item) (slots : List Slot) → length (marks item slots) ≡ length slots
length_marks item slots = length-map slots (is_own item)

-- The mark at a slot of the period says whether the slot is the item's own.
pub mark_at : (item : Item) (slots : List Slot) (i : ℕ) (d : Slot) → i < length slots → own (marks item slots) i ≡ is_own item (get_or slots i d)
mark_at item slots i d lt =
    let small : i < length (marks item slots) = omega (arith, length_marks item slots) in
    let e : i % length (marks item slots) ≡ i = mod-eq_of_lt small in
    ap (λ (j : ℕ). get_or (marks item slots) j false) e ∙ get_or-map (is_own item) slots i d false lt

pub own_before_none : (item : Item) (slots : List Slot) → own_before (own (marks item slots)) 0 ≡ 0
unfolding own_before
own_before_none item slots = refl

-- The number of own slots before the end of the period is the number of own slots of the period.
pub own_before_all : (item : Item) (slots : List Slot) → own_before (own (marks item slots)) (length slots) ≡ per_period (marks item slots)
own_before_all item slots = ap (own_before (own (marks item slots))) (sym (length_marks item slots)) ∙ own_before_period (marks item slots)

-- The repeated period

-- The mark at any slot is the mark at its place in the period.
pub mark_cyclic : (item : Item) (slots : List Slot) (i : ℕ) (d : Slot) → 0 < length slots →
    own (marks item slots) i ≡ is_own item (get_or slots (i % length slots) d)
mark_cyclic item slots i d pos =
    ap (λ (n : ℕ). get_or (marks item slots) (i % n) false) (length_marks item slots)
    ∙ get_or-map (is_own item) slots (i % length slots) d false (mod_below i (length slots) pos)

pub some_slots : (item : Item) (slots : List Slot) → 0 < per_period (marks item slots) → 0 < length slots
some_slots item slots pos = grow (length slots) (own_before_all item slots) (own_before_none item slots)
  where
    grow : (n : ℕ) → own_before (own (marks item slots)) n ≡ per_period (marks item slots) → own_before (own (marks item slots)) 0 ≡ 0 → 0 < n
    grow zero e z = omega (arith, e, z, pos)
    grow (suc n) e z = omega arith

-- The position of own slot number r + q * c, with c own slots a period, is q periods after the position of own slot r.
pub position_split : (item : Item) (slots : List Slot) (i : ℕ) → 0 < per_period (marks item slots) →
    position (marks item slots) i ≡ position (marks item slots) (i % per_period (marks item slots)) + i / per_period (marks item slots) * length slots
position_split item slots i pos =
    let c : ℕ = per_period (marks item slots) in
    ap (position (marks item slots)) (sym (mod-add-div' i c)) ∙ position_turns (marks item slots) (i % c) (i / c) pos
    ∙ ap (λ (n : ℕ). position (marks item slots) (i % c) + i / c * n) (length_marks item slots)

-- The position of own slot number i is before the end of period i + 1.
pub position_bound : (item : Item) (slots : List Slot) (i : ℕ) → 0 < per_period (marks item slots) → position (marks item slots) i < (i + 1) * length slots
position_bound item slots i pos =
    let c : ℕ = per_period (marks item slots) in
    let within : position (marks item slots) (i % c) < length (marks item slots) = position_below (marks item slots) (i % c) pos (mod_below i c pos) in
    let few : i / c ≤ i = below i (i / c) c (mod-add-div' i c) pos in
    omega (arith, position_split item slots i pos, within, length_marks item slots, mul-le-mul_right (length slots) few)
  where
    below : (i q c : ℕ) → i % c + q * c ≡ i → 0 < c → q ≤ i
    below i q c e pos = omega (arith, e, mul-le-mul_left q pos)

-- An own slot is the position of its number.
pub position_here : (item : Item) (slots : List Slot) (i number : ℕ) → own (marks item slots) i ≡ true → own_before (own (marks item slots)) i ≡ number →
    0 < per_period (marks item slots) → position (marks item slots) number ≡ i
position_here item slots i number y e pos = ap (position (marks item slots)) (sym e) ∙ (positions_law (marks item slots) pos).found i y

pub own_before_after_own : (item : Item) (slots : List Slot) (i : ℕ) → own (marks item slots) i ≡ true →
    own_before (own (marks item slots)) (i + 1) ≡ own_before (own (marks item slots)) i + 1
own_before_after_own item slots i y = rw (add-one i) (own_before_own (own (marks item slots)) i y)

pub own_before_after_other : (item : Item) (slots : List Slot) (i : ℕ) → own (marks item slots) i ≡ false →
    own_before (own (marks item slots)) (i + 1) ≡ own_before (own (marks item slots)) i
own_before_after_other item slots i n = rw (add-one i) (own_before_other (own (marks item slots)) i n)

-- The slot one period after an own slot is the position of its number.
pub a_period_on : (item : Item) (slots : List Slot) (i number : ℕ) → own (marks item slots) i ≡ true →
    own_before (own (marks item slots)) (i + length slots) ≡ number →
    0 < per_period (marks item slots) → position (marks item slots) number ≡ i + length slots
a_period_on item slots i number y e pos = position_here item slots (i + length slots) number (turned ∙ y) e pos
  where
    turned : own (marks item slots) (i + length slots) ≡ own (marks item slots) i
    turned = rw (length_marks item slots) (ap (λ (n : ℕ). get_or (marks item slots) n false) (add-mod_right i (length slots)))

-- The k-th own slot ahead

own_before_rise : (own : ℕ → Bool) (s : ℕ) → own_before own (suc s) ≤ own_before own s + 1
own_before_rise own s = elim (cases_Bool (own s)) [
  | inl y ↦ omega (arith, own_before_own own s y)
  | inr n ↦ omega (arith, own_before_other own s n)
]

pub position_own : (item : Item) (slots : List Slot) (i : ℕ) → 0 < per_period (marks item slots) → own (marks item slots) (position (marks item slots) i) ≡ true
position_own item slots i pos = (positions_law (marks item slots) pos).is_own i

pub own_before_position : (item : Item) (slots : List Slot) (i : ℕ) → 0 < per_period (marks item slots) →
    own_before (own (marks item slots)) (position (marks item slots) i) ≡ i
own_before_position item slots i pos = (positions_law (marks item slots) pos).counted i

-- The k-th own slot after an own slot is not before it.
pub position_ahead : (item : Item) (slots : List Slot) (i k : ℕ) → own (marks item slots) i ≡ true → 0 < per_period (marks item slots) →
    i ≤ position (marks item slots) (own_before (own (marks item slots)) i + k)
position_ahead item slots i k y pos =
    omega (
      arith,
      (positions_law (marks item slots) pos).found i y,
      position_le (marks item slots) (own_before (own (marks item slots)) i) (own_before (own (marks item slots)) i + k) pos (omega arith),
    )

-- The k-th own slot after an own slot is at a position within 64 bits.
pub position_near : (item : Item) (slots : List Slot) (i k : ℕ) → 0 < per_period (marks item slots) → length slots ≤ 65536 → k < 2 ^ 31 → i ≤ length slots →
    position (marks item slots) (own_before (own (marks item slots)) i + k) < 2 ^ 60
position_near item slots i k pos short near within =
    let few : own_before (own (marks item slots)) i ≤ i = own_before_few i in
    omega (
      arith,
      position_bound item slots (own_before (own (marks item slots)) i + k) pos,
      mul-le (own_before (own (marks item slots)) i + k + 1) (length slots) 2147549184 65536 (omega (arith, few)) short,
    )
  where
    own_before_few : (i : ℕ) → own_before (own (marks item slots)) i ≤ i
    own_before_few zero = omega (arith, own_before_none item slots)
    own_before_few (suc i) = omega (arith, own_before_few i, own_before_rise (own (marks item slots)) i)

-- After an own slot, the k-th own slot ahead moves to the next own slot.
pub one_ahead : (item : Item) (slots : List Slot) (i k ahead : ℕ) → own (marks item slots) i ≡ true →
    ahead ≡ position (marks item slots) (own_before (own (marks item slots)) i + k) →
    0 < per_period (marks item slots) →
    position (marks item slots) (own_before (own (marks item slots)) ahead + 1) ≡ position (marks item slots)
    (own_before (own (marks item slots)) (i + 1) + k)
one_ahead item slots i k ahead y e pos =
    let there : own_before (own (marks item slots)) ahead ≡ own_before (own (marks item slots)) i + k = ap (own_before (own (marks item slots))) e
    ∙ own_before_position item slots (own_before (own (marks item slots)) i + k) pos in
    let next : own_before (own (marks item slots)) (i + 1) ≡ own_before (own (marks item slots)) i + 1 = own_before_after_own item slots i y in
    let both : own_before (own (marks item slots)) ahead + 1 ≡ own_before (own (marks item slots)) (i + 1) + k = omega (arith, there, next) in
    ap (position (marks item slots)) both

-- Spread

-- No more own slots have passed than the period has.
pub few_own_before : (item : Item) (slots : List Slot) (i : ℕ) → i ≤ length slots → own_before (own (marks item slots)) i ≤ per_period (marks item slots)
few_own_before item slots i le = omega (arith, own_before_le (own (marks item slots)) i (length slots) le, own_before_all item slots)

pub raised_here : (item : Item) (slots : List Slot) (count at number : ℕ) → count ≡ per_period (marks item slots) →
    number ≡ own_before (own (marks item slots)) at →
    count * at + (count - number) * length slots ≡ raised (per_period (marks item slots)) (length (marks item slots)) at
    (own_before (own (marks item slots)) at)
raised_here item slots count at number e f = rw (e, f, length_marks item slots) refl

-- Work

-- Within the period, the mark at a slot says whether the slot is the item's own.
pub mark_within : (item : Item) (slots : List Slot) (i : ℕ) (d : Slot) → i < length slots → get_or (marks item slots) i false ≡ is_own item (get_or slots i d)
mark_within item slots i d lt = get_or-map (is_own item) slots i d false lt

pub work_own : (rate drain start : ℕ) (item : Item) (slots : List Slot) (i : ℕ) → i < length slots → get_or (marks item slots) i false ≡ true →
    work_at rate drain start (marks item slots) (i + 1) ≡ (work_at rate drain start (marks item slots) i - 188 * drain) + 188 * rate
work_own rate drain start item slots i lt y = work_more rate drain start (marks item slots) i (omega (arith, length_marks item slots))
    ∙ ap (work_step rate drain (work_at rate drain start (marks item slots) i)) y

pub work_other : (rate drain start : ℕ) (item : Item) (slots : List Slot) (i : ℕ) → i < length slots → get_or (marks item slots) i false ≡ false →
    work_at rate drain start (marks item slots) (i + 1) ≡ work_at rate drain start (marks item slots) i - 188 * drain
work_other rate drain start item slots i lt n = work_more rate drain start (marks item slots) i (omega (arith, length_marks item slots))
    ∙ ap (work_step rate drain (work_at rate drain start (marks item slots) i)) n ∙ add-zero (work_at rate drain start (marks item slots) i - 188 * drain)

-- One own slot after another

pub next_position : (item : Item) (slots : List Slot) (i at : ℕ) → at ≡ position (marks item slots) i → 0 < per_period (marks item slots) →
    position (marks item slots) (own_before (own (marks item slots)) at + 1) ≡ position (marks item slots) (i + 1)
next_position item slots i at e pos =
    ap (λ (n : ℕ). position (marks item slots) (n + 1)) (ap (own_before (own (marks item slots))) e ∙ own_before_position item slots i pos)

-- An own slot with a small number has a small position.
pub position_small : (item : Item) (slots : List Slot) (i most : ℕ) → 0 < per_period (marks item slots) → length slots ≤ 65536 → i < most →
    position (marks item slots) i < most * 65536
position_small item slots i most pos short lt = omega (arith, position_bound item slots i pos, mul-le (i + 1) (length slots) most 65536 (omega arith) short)
