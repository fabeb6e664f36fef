-- The values of a list, taken one after another.
use Rattle.std.proofs.Common.{◌≡◌, ◌∙◌, ◌<◌, ◌≤◌, ◌+◌, ℕ, List, [], ◌∷◌, ◌++◌, length, map, drop, slice_index_or, Option, None, Some, ap, sym, refl, add-one}
use Rattle.std.proofs.Common.{append_assoc, append-nil}
use Rattle.std.proofs.Math.Seq.{drop-cons}
use Rattle.std.proofs.lemmas.List.{drop_all}
use Rattle.std.specs.Prelude.{option_map}
use Rattle.word_faults.specs.Lists.{all_of}

-- The values that are taken, then the values from a place on.
abbrev pub with_rest : {A B T : Type 0} → (A → Option T) → (B → A) → List T → List B → ℕ → Option (List T)
with_rest f v taken ts i = option_map (λ rest. taken ++ rest) (all_of (map f (map v (drop i ts))))

first_some : {T : Type 0} (o : Option T) (values : List (Option T)) (x : T) → o ≡ Some x → all_of (o ∷ values) ≡ option_map (λ xs. x ∷ xs) (all_of values)
unfolding all_of
first_some o values x e = rw e refl

first_none : {T : Type 0} (o : Option T) (values : List (Option T)) → o ≡ None → all_of (o ∷ values) ≡ None
unfolding all_of
first_none o values e = rw e refl

fused : {T : Type 0} (taken : List T) (x : T) (o : Option (List T)) →
    option_map (λ rest. (taken ++ x ∷ []) ++ rest) o ≡ option_map (λ rest. taken ++ rest) (option_map (λ xs. x ∷ xs) o)
fused taken x None = refl
fused taken x (Some rest) = ap Some (append_assoc taken (x ∷ []) rest)

at : {A B T : Type 0} (f : A → Option T) (v : B → A) (ts : List B) (i : ℕ) (d : B) → i < length ts →
    all_of (map f (map v (drop i ts))) ≡ all_of (f (v (slice_index_or ts i d)) ∷ map f (map v (drop (i + 1) ts)))
at f v ts i d h = rw (add-one, drop-cons ts i d h) refl

pub more : {A B T : Type 0} (f : A → Option T) (v : B → A) (taken : List T) (ts : List B) (i : ℕ) (d : B) (x : T) (whole : Option (List T)) →
    i < length ts → f (v (slice_index_or ts i d)) ≡ Some x → with_rest f v taken ts i ≡ whole → with_rest f v (taken ++ x ∷ []) ts (i + 1) ≡ whole
more f v taken ts i d x whole h e w =
    fused taken x (all_of (map f (map v (drop (i + 1) ts))))
    ∙ ap (option_map (λ rest. taken ++ rest)) (sym (at f v ts i d h ∙ first_some (f (v (slice_index_or ts i d))) (map f (map v (drop (i + 1) ts))) x e))
    ∙ w

pub missing : {A B T : Type 0} (f : A → Option T) (v : B → A) (taken : List T) (ts : List B) (i : ℕ) (d : B) (whole : Option (List T)) →
    i < length ts → f (v (slice_index_or ts i d)) ≡ None → with_rest f v taken ts i ≡ whole → None ≡ whole
missing f v taken ts i d whole h e w =
    sym (ap (option_map (λ rest. taken ++ rest)) (at f v ts i d h ∙ first_none (f (v (slice_index_or ts i d))) (map f (map v (drop (i + 1) ts))) e)) ∙ w

none_left : {T : Type 0} (taken : List T) → option_map (λ rest. taken ++ rest) (all_of {T = T} []) ≡ Some taken
unfolding all_of
none_left taken = ap Some (append-nil taken)

pub all_taken : {A B T : Type 0} (f : A → Option T) (v : B → A) (taken : List T) (ts : List B) (i : ℕ) (whole : Option (List T)) →
    length ts ≤ i → with_rest f v taken ts i ≡ whole → Some taken ≡ whole
all_taken {B = B} f v taken ts i whole h w =
    sym (none_left taken) ∙ ap (λ (xs : List B). option_map (λ rest. taken ++ rest) (all_of (map f (map v xs)))) (sym (drop_all i ts h)) ∙ w
