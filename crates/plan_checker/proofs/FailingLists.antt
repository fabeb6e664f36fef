-- The failing conditions, one window after another
use Rattle.std.specs.Prelude.{map, min, take}
use Rattle.std.proofs.Common.{◌≡◌, ℕ, ◌+◌, ◌-◌, ◌<◌, ◌≤◌, List, ◌++◌, drop, length, ap, sym, ◌∙◌, arith}
use Rattle.std.proofs.Math.Seq.{take-add}
use Rattle.std.proofs.lemmas.List.{length-append, length-drop, length-map, length-take, map-append, take-append-drop, take_all, take_min}
use Rattle.slot_plan.specs.Entries.{Entry}
use Rattle.plan_checker.specs.Refusals.{entry_of}
use Rattle.plan_checker.specs.declared.refusal.Refusal.{Refusal}

-- 1. The length of a part of a list

counted : (k : ℕ) (es : List Entry) (xs : List Refusal) → map entry_of xs ≡ take k es → length xs ≡ min k (length es)
counted k es xs so = sym (length-map xs entry_of) ∙ ap length so ∙ length-take k es

by_count : (k : ℕ) (es : List Entry) (xs : List Refusal) → map entry_of xs ≡ take k es → map entry_of xs ≡ take (length xs) es
by_count k es xs so = so ∙ sym (take_min k es) ∙ ap (λ (n : ℕ). take n es) (sym (counted k es xs so))

-- 2. A window of k conditions after the conditions found so far

module _ (all : List Entry) (xs more : List Refusal) (so : map entry_of xs ≡ take (length xs) all) (k : ℕ)
    (next : map entry_of more ≡ take k (drop (length xs) all)) where
  appended : (ys : List Entry) → map entry_of more ≡ ys → map entry_of (xs ++ more) ≡ take (length xs) all ++ ys
  appended ys is = map-append entry_of xs more ∙ ap (λ (es : List Entry). es ++ map entry_of more) so ∙ ap (λ (es : List Entry). take (length xs) all ++ es) is

  -- More conditions are found.
  pub more_found : map entry_of (xs ++ more) ≡ take (length (xs ++ more)) all
  more_found =
      appended (take (length more) (drop (length xs) all)) (by_count k (drop (length xs) all) more next)
      ∙ sym (take-add (length xs) (length more) all) ∙ ap (λ (n : ℕ). take n all) (sym (length-append xs more))

  left_over : length more ≡ min k (length all - length xs)
  left_over = counted k (drop (length xs) all) more next ∙ ap (min k) (length-drop (length xs) all)

  -- A full window leaves fewer conditions.
  pub fewer_left : length more ≡ k → 0 < k → length all - length (xs ++ more) < length all - length xs
  fewer_left full some = let n : length (xs ++ more) ≡ length xs + length more = length-append xs more in rw n (omega (arith, left_over, full, some))

  -- A window that is not full is the last.
  pub all_found : length more < k → map entry_of (xs ++ more) ≡ all
  all_found short =
      let fit : length (drop (length xs) all) ≤ k = omega (arith, counted k (drop (length xs) all) more next, short) in
      appended (drop (length xs) all) (next ∙ take_all k (drop (length xs) all) fit) ∙ take-append-drop (length xs) all
