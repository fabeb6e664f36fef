-- The parts of numbered elements, one element at a time.
use Rattle.std.specs.Prelude.{ℕ, suc, ◌+◌, ◌<◌, List, [], ◌∷◌, ◌++◌, length, take, get_or}
use Rattle.std.proofs.Common.{◌≡◌, refl, append_assoc, add-zero, zero-add, arith}
use Rattle.std.proofs.lemmas.List.{append-nil, take_more, length-take-le}
use Rattle.slot_plan.specs.Numbered.{numbered}

-- The part of the last element is the last part.
pub numbered-last : {A B : Type 0} (part : ℕ → A → List B) (k : ℕ) (xs : List A) (x : A) →
    numbered part k (xs ++ x ∷ []) ≡ numbered part k xs ++ part (k + length xs) x
numbered-last part k [] x = rw (append-nil, add-zero) refl
numbered-last part k (y ∷ xs) x =
    let e : suc k + length xs ≡ k + suc (length xs) = omega arith in
    rw (numbered-last part (suc k) xs x, e, append_assoc) refl

-- One more element adds its part.
pub numbered-more : {A B : Type 0} (part : ℕ → A → List B) (xs : List A) (i : ℕ) (d : A) → i < length xs →
    numbered part 0 (take (i + 1) xs) ≡ numbered part 0 (take i xs) ++ part i (get_or xs i d)
numbered-more part xs i d lt =
    let n : 0 + length (take i xs) ≡ i = rw (zero-add, length-take-le i xs (omega arith)) refl in
    rw (take_more xs i d lt, numbered-last part 0 (take i xs) (get_or xs i d), n) refl

-- The part of one more element is written after the parts before it.
pub written_more : {A : Type 0} (part : ℕ → A → List ℕ) (xs : List A) (i : ℕ) (d : A) (new now old : List ℕ) → i < length xs →
    new ≡ now ++ part i (get_or xs i d) → now ≡ old ++ numbered part 0 (take i xs) → new ≡ old ++ numbered part 0 (take (i + 1) xs)
written_more part xs i d new now old lt e f = rw (e, f, numbered-more part xs i d lt, append_assoc) refl
