-- The tables of a description one by one.
use Rattle.std.proofs.Common.{◌≡◌, ◌∙◌, ℕ, zero, suc, ◌+◌, ◌<◌, List, [], ◌∷◌, ◌++◌, length, drop, refl, sym, ap, append_assoc, arith}
use Rattle.description_parts.specs.Described.{Described}
use Rattle.description_parts.specs.Tables.{table_count, table_kinds}
use Rattle.slot_plan.specs.Numbered.{numbered}
use Rattle.plan_page.specs.declared.plan_items.PlanItem.{PlanItem}
use Rattle.plan_page.specs.PlanItems.{table_item}

numbered_drop : {A B : Type 0} (part : ℕ → List B) (j k : ℕ) (xs : List A) → k < length xs →
    numbered (λ t _. part t) j (drop k xs) ≡ part j ++ numbered (λ t _. part t) (suc j) (drop (suc k) xs)
numbered_drop part j k [] few = absurd (omega (arith, few))
numbered_drop part j zero (x ∷ xs) few = refl
numbered_drop part j (suc k) (x ∷ xs) few = numbered_drop part j k xs (omega (arith, few))

abbrev tables_from : Described → ℕ → List PlanItem
tables_from d t = numbered (λ u _. table_item d u ∷ []) t (drop t (table_kinds d))

-- One more table adds its item.
pub one_more : (d : Described) (t : ℕ) (items more start : List PlanItem) (item : PlanItem) → t < table_count d → item ≡ table_item d t →
    more ≡ items ++ item ∷ [] →
    items ++ numbered (λ u _. table_item d u ∷ []) t (drop t (table_kinds d)) ≡ start →
    more ++ numbered (λ u _. table_item d u ∷ []) (t + 1) (drop (t + 1) (table_kinds d)) ≡ start
one_more d t items more start item there is pushed before =
    let next : t + 1 ≡ suc t = omega arith in
    let rest = tables_from d (suc t) in
    let moved : tables_from d (t + 1) ≡ rest = ap (tables_from d) next in
    let first : more ++ tables_from d (t + 1) ≡ (items ++ item ∷ []) ++ rest = ap (λ (l : List PlanItem). l ++ tables_from d (t + 1)) pushed
    ∙ ap (λ (l : List PlanItem). (items ++ item ∷ []) ++ l) moved in
    let named : items ++ (item ∷ rest) ≡ items ++ (table_item d t ∷ rest) = ap (λ (i : PlanItem). items ++ (i ∷ rest)) is in
    let whole : items ++ (table_item d t ∷ rest) ≡ items ++ tables_from d t =
    ap (λ (l : List PlanItem). items ++ l) (sym (numbered_drop (λ u. table_item d u ∷ []) t t (table_kinds d) there)) in
    first ∙ append_assoc items (item ∷ []) rest ∙ named ∙ whole ∙ before
