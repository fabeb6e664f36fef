-- Items placed one after another, by rising spacing.
use Rattle.std.specs.Prelude.{◌==◌}
use Rattle.std.proofs.Common.{◌≡◌, ℕ, suc, ◌+◌, ◌-◌, ◌^◌, ◌<◌, ◌≤◌, true, false, List, [], ◌∷◌, ◌++◌, length, drop, get_or, ◌≢◌, max, nat_cmp, Option, Some}
use Rattle.std.proofs.Common.{None, refl, ap, sym, ◌∙◌, arith, add-one, eq-eqb}
use Rattle.std.proofs.lemmas.Bool.Decides.{nat_tests}
use Rattle.std.proofs.lemmas.List.{at_drop_more, drop_all, get_or_default}
use Rattle.std.specs.Ordering.{ord_max}
use Rattle.clock27.proofs.MinMax.{max_is}
use Rattle.slot_plan.specs.declared.slot.Slot.{Slot}
use Rattle.plan_maker.specs.declared.spacing.Spaced.{Spaced}
use Rattle.plan_maker.specs.FirstNumbers.{first_of}
use Rattle.plan_maker.specs.PlainPlan.{longest, is_free, with_item, of_spacing, by_spacing, placed}

-- If the first of two lists of items finds slots, the second list is placed after it.
pub placed_after : (first rest : List Spaced) (slots next : List Slot) → placed first slots ≡ Some next → placed (first ++ rest) slots ≡ placed rest next
placed_after [] rest slots next e = ap (placed rest) (some_is slots next e)
  where
    some_is : (a b : List Slot) → Some a ≡ Some b → a ≡ b
    some_is a b e = cc
placed_after (item ∷ items) rest slots next e =
    step (first_of item.spacing (is_free slots item.spacing)) (λ x. placed_after items rest (with_item item.slot item.spacing x slots) next) e
  where
    step : (o : Option ℕ) →
        ((x : ℕ) → placed items (with_item item.slot item.spacing x slots) ≡ Some next →
        placed (items ++ rest) (with_item item.slot item.spacing x slots) ≡ placed rest next) →
        (elim o [ None ↦ None | Some x ↦ placed items (with_item item.slot item.spacing x slots) ]) ≡ Some next →
        (elim o [ None ↦ None | Some x ↦ placed (items ++ rest) (with_item item.slot item.spacing x slots) ]) ≡ placed rest next
    step None more e = absurd (cc)
    step (Some x) more e = more x e

-- If the first of two lists of items finds no slots, the joined lists find no slots.
pub placed_not : (first rest : List Spaced) (slots : List Slot) → placed first slots ≡ None → placed (first ++ rest) slots ≡ None
placed_not [] rest slots e = absurd (cc)
placed_not (item ∷ items) rest slots e =
    step (first_of item.spacing (is_free slots item.spacing)) (λ x. placed_not items rest (with_item item.slot item.spacing x slots)) e
  where
    step : (o : Option ℕ) →
        ((x : ℕ) → placed items (with_item item.slot item.spacing x slots) ≡ None → placed (items ++ rest) (with_item item.slot item.spacing x slots) ≡ None) →
        ◌≡◌ {A = Option (List Slot)} (elim o [ None ↦ None | Some x ↦ placed items (with_item item.slot item.spacing x slots) ]) None →
        ◌≡◌ {A = Option (List Slot)} (elim o [ None ↦ None | Some x ↦ placed (items ++ rest) (with_item item.slot item.spacing x slots) ]) None
    step None more e = refl
    step (Some x) more e = more x e

different : (a b : ℕ) → a ≢ b → (a == b) ≡ false
different a b other = grind (arith, nat_tests)

module _ (g : ℕ) (items : List Spaced) where
  -- Item number i has the spacing g: it is the first of the items of spacing g from number i on.
  pub comes_next : (i : ℕ) (x : Spaced) → i < length items → x ≡ get_or items i x → x.spacing ≡ g →
      of_spacing g (drop i items) ≡ x ∷ of_spacing g (drop (i + 1) items)
  comes_next i x lt is same = at_drop_more (of_spacing g) items i x lt ∙ ap (λ (y : Spaced). of_spacing g (y ∷ drop (i + 1) items)) (sym is)
      ∙ taken (drop (i + 1) items)
    where
      taken : (rest : List Spaced) → of_spacing g (x ∷ rest) ≡ x ∷ of_spacing g rest
      taken rest = rw (eq-eqb x.spacing g same) refl

  -- Item number i has another spacing: the items of spacing g from number i on are later items.
  pub passes_by : (i : ℕ) (x : Spaced) → i < length items → x ≡ get_or items i x → x.spacing ≢ g →
      of_spacing g (drop i items) ≡ of_spacing g (drop (i + 1) items)
  passes_by i x lt is other = at_drop_more (of_spacing g) items i x lt ∙ ap (λ (y : Spaced). of_spacing g (y ∷ drop (i + 1) items)) (sym is)
      ∙ left (drop (i + 1) items)
    where
      left : (rest : List Spaced) → of_spacing g (x ∷ rest) ≡ of_spacing g rest
      left rest = rw (different x.spacing g other) refl

  pub none_left : (i : ℕ) → length items ≤ i → of_spacing g (drop i items) ≡ []
  none_left i le = ap (of_spacing g) (drop_all i items le)

-- The items of the spacings from 2 ^ e on.
pub spacing_next : (e : ℕ) (items : List Spaced) → e < 17 → by_spacing e (17 - e) items ≡ of_spacing (2 ^ e) items ++ by_spacing (e + 1) (17 - (e + 1)) items
spacing_next e items lt = let more : 17 - e ≡ suc (17 - (e + 1)) = omega arith in ap (λ (n : ℕ). by_spacing e n items) more ∙ on
  where
    on : by_spacing e (suc (17 - (e + 1))) items ≡ of_spacing (2 ^ e) items ++ by_spacing (e + 1) (17 - (e + 1)) items
    on = rw (add-one e) refl

pub spacings_end : (e : ℕ) (items : List Spaced) → 17 ≤ e → by_spacing e (17 - e) items ≡ []
spacings_end e items le = let none : 17 - e ≡ 0 = omega arith in ap (λ (n : ℕ). by_spacing e n items) none

-- The greatest spacing, after one more item.
pub longest_next : (items : List Spaced) (i : ℕ) (d : Spaced) (now next whole : ℕ) → i < length items → next ≡ ord_max nat_cmp now (get_or items i d).spacing →
    max now (longest (drop i items)) ≡ whole → max next (longest (drop (i + 1) items)) ≡ whole
longest_next items i d now next whole lt e inv =
    let more : longest (drop i items) ≡ max (get_or items i d).spacing (longest (drop (i + 1) items)) = at_drop_more longest items i d lt in
    omega (arith, more, inv, e, max_is now (get_or items i d).spacing)

-- A single item.
pub placed_one : (item : Spaced) (slots : List Slot) (x : ℕ) → first_of item.spacing (is_free slots item.spacing) ≡ Some x →
    placed (item ∷ []) slots ≡ Some (with_item item.slot item.spacing x slots)
placed_one item slots x e = step (first_of item.spacing (is_free slots item.spacing)) e
  where
    same : (a b : ℕ) → Some a ≡ Some b → a ≡ b
    same a b e = cc

    step : (o : Option ℕ) → o ≡ Some x →
        ◌≡◌ {A = Option (List Slot)} (elim o [ None ↦ None | Some y ↦ placed [] (with_item item.slot item.spacing y slots) ])
        (Some (with_item item.slot item.spacing x slots))
    step None e = absurd (cc)
    step (Some y) e = ap (λ (v : ℕ). Some (with_item item.slot item.spacing v slots)) (same y x e)

pub not_placed_one : (item : Spaced) (slots : List Slot) → first_of item.spacing (is_free slots item.spacing) ≡ None → placed (item ∷ []) slots ≡ None
not_placed_one item slots e = step (first_of item.spacing (is_free slots item.spacing)) e
  where
    step : (o : Option ℕ) → o ≡ None →
        ◌≡◌ {A = Option (List Slot)} (elim o [ None ↦ None | Some y ↦ placed [] (with_item item.slot item.spacing y slots) ]) None
    step None e = refl
    step (Some y) e = absurd (cc)

pub never : {X : Type 0} → true ≡ false → X
never e = absurd (cc)

pub never_true : {X : Type 0} → false ≡ true → X
never_true e = absurd (cc)

module _ (g : ℕ) (items : List Spaced) (i : ℕ) (d : Spaced) (now : List Slot) (whole : Option (List Slot)) (lt : i < length items)
    (inv : placed (of_spacing g (drop i items)) now ≡ whole) where
  -- Item number i finds its slots.
  pub place_next : (next : List Slot) → (get_or items i d).spacing ≡ g → placed (get_or items i d ∷ []) now ≡ Some next →
      placed (of_spacing g (drop (i + 1) items)) next ≡ whole
  place_next next same e =
      let x : Spaced = get_or items i d in
      let list = comes_next g items i x lt (get_or_default items i d x lt) same in
      sym (placed_after (x ∷ []) (of_spacing g (drop (i + 1) items)) now next e) ∙ ap (λ (l : List Spaced). placed l now) (sym list) ∙ inv

  -- Item number i finds no slots.
  pub place_full : (get_or items i d).spacing ≡ g → placed (get_or items i d ∷ []) now ≡ None → whole ≡ None
  place_full same e =
      let x : Spaced = get_or items i d in
      let list = comes_next g items i x lt (get_or_default items i d x lt) same in
      sym inv ∙ ap (λ (l : List Spaced). placed l now) list ∙ placed_not (x ∷ []) (of_spacing g (drop (i + 1) items)) now e

  -- Item number i has another spacing.
  pub place_other : (get_or items i d).spacing ≢ g → placed (of_spacing g (drop (i + 1) items)) now ≡ whole
  place_other other =
      let x : Spaced = get_or items i d in
      let list = passes_by g items i x lt (get_or_default items i d x lt) other in
      ap (λ (l : List Spaced). placed l now) (sym list) ∙ inv

pub place_end : (g : ℕ) (items : List Spaced) (i : ℕ) (now : List Slot) (whole : Option (List Slot)) → length items ≤ i →
    placed (of_spacing g (drop i items)) now ≡ whole → whole ≡ Some now
place_end g items i now whole le inv = sym inv ∙ ap (λ (l : List Spaced). placed l now) (none_left g items i le)

module _ (items : List Spaced) (e power : ℕ) (now : List Slot) (whole : Option (List Slot)) (lt : e < 17) (is : power ≡ 2 ^ e)
    (inv : placed (by_spacing e (17 - e) items) now ≡ whole) where
  -- All items of one spacing have their slots.
  pub spacing_placed : (next : List Slot) → placed (of_spacing power items) now ≡ Some next → placed (by_spacing (e + 1) (17 - (e + 1)) items) next ≡ whole
  spacing_placed next f =
      let here : placed (of_spacing (2 ^ e) items) now ≡ Some next = ap (λ (g : ℕ). placed (of_spacing g items) now) (sym is) ∙ f in
      sym (placed_after (of_spacing (2 ^ e) items) (by_spacing (e + 1) (17 - (e + 1)) items) now next here)
      ∙ ap (λ (l : List Spaced). placed l now) (sym (spacing_next e items lt)) ∙ inv

  -- An item of one spacing finds no slots.
  pub spacing_full : placed (of_spacing power items) now ≡ None → whole ≡ None
  spacing_full f =
      let here : placed (of_spacing (2 ^ e) items) now ≡ None = ap (λ (g : ℕ). placed (of_spacing g items) now) (sym is) ∙ f in
      sym inv ∙ ap (λ (l : List Spaced). placed l now) (spacing_next e items lt)
      ∙ placed_not (of_spacing (2 ^ e) items) (by_spacing (e + 1) (17 - (e + 1)) items) now here

pub spacings_placed : (items : List Spaced) (e : ℕ) (now : List Slot) (whole : Option (List Slot)) → 17 ≤ e → placed (by_spacing e (17 - e) items) now ≡ whole →
    whole ≡ Some now
spacings_placed items e now whole le inv = sym inv ∙ ap (λ (l : List Spaced). placed l now) (spacings_end e items le)
