-- The texts of a list's elements, written from the last to the first.
use Rattle.std.proofs.Common.{◌≡◌, ◌∙◌, sym, ℕ, suc, ◌+◌, ◌-◌, ◌<◌, ◌≤◌, List, [], ◌∷◌, ◌++◌, drop, length, refl, ap, arith, append_assoc}
use Rattle.std.proofs.lemmas.List.{append-nil, drop_all}
use Rattle.page_curves.specs.Paths.{numbered_back}

-- No element is written yet.
pub back_none : {A : Type 0} (part : ℕ → A → List ℕ) (xs : List A) (text : List ℕ) (n : ℕ) → length xs ≤ n → text ≡ text ++ numbered_back part n (drop n xs)
unfolding numbered_back
back_none part xs text n all = rw (drop_all n xs all) (sym (append-nil text))

-- The text of one more element, which precedes the written elements in the list.
pub back_more : {A : Type 0} (part : ℕ → A → List ℕ) (xs : List A) (old text new : List ℕ) (n m : ℕ) (x : A) → m ≡ suc n → drop n xs ≡ x ∷ drop m xs →
    text ≡ old ++ numbered_back part m (drop m xs) → new ≡ text ++ part n x → new ≡ old ++ numbered_back part n (drop n xs)
unfolding numbered_back
back_more part xs old text new n m x next is before after =
    let one : numbered_back part n (x ∷ drop m xs) ≡ numbered_back part m (drop m xs) ++ part n x =
    ap (λ (k : ℕ). numbered_back part k (drop m xs) ++ part n x) (sym next) in
    after ∙ ap (λ (t : List ℕ). t ++ part n x) before ∙ append_assoc old (numbered_back part m (drop m xs)) (part n x)
    ∙ ap (λ (t : List ℕ). old ++ t) (sym one ∙ ap (λ (l : List _). numbered_back part n l) (sym is))
