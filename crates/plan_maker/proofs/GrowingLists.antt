-- Lists that grow by one element at a time.
use Rattle.std.proofs.Common.{◌≡◌, ℕ, ◌+◌, ◌<◌, ◌≤◌, ◌&&◌, Bool, true, List, [], ◌∷◌, ◌++◌, length, take, get_or, refl, ap, sym, ◌∙◌, append_assoc, arith}
use Rattle.std.proofs.lemmas.List.{take_all}
use Rattle.std.specs.List.{list_all}
use Rattle.std.proofs.lemmas.List.Folds.{list_all-append}
use Rattle.slot_plan.specs.Numbered.{numbered}
use Rattle.slot_plan.proofs.NumberedLists.{numbered-more}

module _ {A B : Type 0} (f : ℕ → A → B) (xs : List A) where
  -- The list with element number i after the earlier elements.
  pub pushed : (before now : List B) (i : ℕ) (x : A) → i < length xs → x ≡ get_or xs i x →
      now ≡ before ++ numbered (λ j y. f j y ∷ []) 0 (take i xs) → now ++ f i x ∷ [] ≡ before ++ numbered (λ j y. f j y ∷ []) 0 (take (i + 1) xs)
  pushed before now i x lt is e =
      ap (λ (ys : List B). ys ++ f i x ∷ []) e ∙ append_assoc before (numbered (λ j y. f j y ∷ []) 0 (take i xs)) (f i x ∷ [])
      ∙ ap (λ (ys : List B). before ++ ys)
      (ap (λ (y : A). numbered (λ j y. f j y ∷ []) 0 (take i xs) ++ f i y ∷ []) is ∙ sym (numbered-more (λ j y. f j y ∷ []) xs i x lt))

  -- The list is complete at the end.
  pub all_pushed : (before now : List B) (i : ℕ) → length xs ≤ i → now ≡ before ++ numbered (λ j y. f j y ∷ []) 0 (take i xs) →
      now ≡ before ++ numbered (λ j y. f j y ∷ []) 0 xs
  all_pushed before now i le e = e ∙ ap (λ (ys : List A). before ++ numbered (λ j y. f j y ∷ []) 0 ys) (take_all i xs le)

-- The element of a list at a number within the list.
element_at : {A : Type 0} (xs : List A) (i : ℕ) → i < length xs → A
element_at [] i lt = absurd (omega arith)
element_at (x ∷ xs) i lt = x

module _ {A B : Type 0} (f : ℕ → B) (xs : List A) where
  -- A list that depends on the numbers only.
  pub numbers_pushed : (before now : List B) (i : ℕ) → i < length xs →
      now ≡ before ++ numbered (λ j _. f j ∷ []) 0 (take i xs) → now ++ f i ∷ [] ≡ before ++ numbered (λ j _. f j ∷ []) 0 (take (i + 1) xs)
  numbers_pushed before now i lt e =
      ap (λ (ys : List B). ys ++ f i ∷ []) e ∙ append_assoc before (numbered (λ j _. f j ∷ []) 0 (take i xs)) (f i ∷ [])
      ∙ ap (λ (ys : List B). before ++ ys) (sym (numbered-more (λ j _. f j ∷ []) xs i (element_at xs i lt) lt))

-- If all elements and one more element pass a test, the longer list passes.
pub still_all : {A : Type 0} (p : A → Bool) (xs : List A) (y : A) → list_all p xs ≡ true → p y ≡ true → list_all p (xs ++ y ∷ []) ≡ true
still_all p xs y all here = list_all-append p xs (y ∷ []) ∙ both (list_all p xs) (p y) all here
  where
    both : (a b : Bool) → a ≡ true → b ≡ true → (a && (b && true)) ≡ true
    both a b x y = rw (x, y) refl

-- A list of parts; each part is a list.
module _ {A B : Type 0} (part : ℕ → A → List B) (xs : List A) where
  pub parts_pushed : (before now : List B) (i : ℕ) (x : A) → i < length xs → x ≡ get_or xs i x →
      now ≡ before ++ numbered part 0 (take i xs) → now ++ part i x ≡ before ++ numbered part 0 (take (i + 1) xs)
  parts_pushed before now i x lt is e =
      ap (λ (ys : List B). ys ++ part i x) e ∙ append_assoc before (numbered part 0 (take i xs)) (part i x)
      ∙ ap (λ (ys : List B). before ++ ys) (ap (λ (y : A). numbered part 0 (take i xs) ++ part i y) is ∙ sym (numbered-more part xs i x lt))

  pub all_parts_pushed : (before now : List B) (i : ℕ) → length xs ≤ i → now ≡ before ++ numbered part 0 (take i xs) → now ≡ before ++ numbered part 0 xs
  all_parts_pushed before now i le e = e ∙ ap (λ (ys : List A). before ++ numbered part 0 ys) (take_all i xs le)

module _ {A B : Type 0} (part : ℕ → List B) (xs : List A) where
  pub number_parts_pushed : (before now : List B) (i : ℕ) → i < length xs →
      now ≡ before ++ numbered (λ j _. part j) 0 (take i xs) → now ++ part i ≡ before ++ numbered (λ j _. part j) 0 (take (i + 1) xs)
  number_parts_pushed before now i lt e =
      ap (λ (ys : List B). ys ++ part i) e ∙ append_assoc before (numbered (λ j _. part j) 0 (take i xs)) (part i)
      ∙ ap (λ (ys : List B). before ++ ys) (sym (numbered-more (λ j _. part j) xs i (element_at xs i lt) lt))
