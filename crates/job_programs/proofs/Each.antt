-- The results of a function on each element of a list.
use Rattle.std.proofs.Common.{◌≡◌, ◌∙◌, ◌++◌, refl, sym, ap, List, [], ◌∷◌, length, zip, Result, Ok, Err}
use Rattle.std.proofs.lemmas.List.{append_assoc, append-nil}
use Rattle.job_programs.specs.declared.refusal.JobRefusal.{JobRefusal}
use Rattle.job_programs.specs.declared.refusal.JobError.{JobError}
use Rattle.job_programs.specs.declared.refusal.JobError.TheVariants.{Memory, Refused}
use Rattle.job_programs.specs.Answers.{and_then, each, Refuses}

-- The result of the first element, then the results of the later elements.
joined : {B : Type 0} → Result B JobRefusal → Result (List B) JobRefusal → Result (List B) JobRefusal
joined first others = and_then (λ y. and_then (λ ys. Ok (y ∷ ys)) others) first

-- The results of some elements, then the results of further elements.
pub after : {B : Type 0} → List B → Result (List B) JobRefusal → Result (List B) JobRefusal
after ys more = and_then (λ zs. Ok (ys ++ zs)) more

after_none : {B : Type 0} (more : Result (List B) JobRefusal) → more ≡ after [] more
unfolding and_then after
after_none (Ok zs) = refl
after_none (Err refusal) = refl

after_more : {B : Type 0} (y : B) (ys : List B) (more : Result (List B) JobRefusal) → after ys (joined (Ok y) more) ≡ after (ys ++ y ∷ []) more
unfolding and_then after joined
after_more y ys (Ok zs) = ap Ok (sym (append_assoc ys (y ∷ []) zs))
after_more y ys (Err refusal) = refl

each_cons : {A B : Type 0} (f : A → Result B JobRefusal) (x : A) (xs : List A) → each f (x ∷ xs) ≡ joined (f x) (each f xs)
unfolding each joined
each_cons f x xs = refl

-- Lists that are taken from the front: the start, one more element, an element that is refused, and the end.
pub each_begins : {A B : Type 0} (f : A → Result B JobRefusal) (xs : List A) → each f xs ≡ after [] (each f xs)
each_begins f xs = after_none (each f xs)

pub each_goes_on : {A B : Type 0} (f : A → Result B JobRefusal) (x : A) (xs : List A) (ys : List B) (y : B) →
    f x ≡ Ok y → after ys (each f (x ∷ xs)) ≡ after (ys ++ y ∷ []) (each f xs)
each_goes_on f x xs ys y is = ap (after ys) (each_cons f x xs ∙ ap (λ (r : Result _ JobRefusal). joined r (each f xs)) is) ∙ after_more y ys (each f xs)

pub each_stops : {A B : Type 0} (f : A → Result B JobRefusal) (x : A) (xs : List A) (ys : List B) (refusal : JobRefusal) →
    f x ≡ Err refusal → after ys (each f (x ∷ xs)) ≡ Err refusal
unfolding and_then after each
each_stops f x xs ys refusal is = rw is refl

pub each_ends : {A B : Type 0} (f : A → Result B JobRefusal) (ys : List B) → after ys (each f []) ≡ Ok ys
unfolding and_then after each
each_ends f ys = ap Ok (append-nil ys)

-- One more element, in a loop over the remaining elements.
pub each_step : {A B : Type 0} (f : A → Result B JobRefusal) (all left later : List A) (x : A) (ys zs : List B) (y : B) →
    each f all ≡ after ys (each f left) → left ≡ x ∷ later → f x ≡ Ok y → zs ≡ ys ++ y ∷ [] → each f all ≡ after zs (each f later)
each_step f all left later x ys zs y so_far first is more =
    so_far
    ∙ ap (λ (l : List _). after ys (each f l)) first
    ∙ each_goes_on f x later ys y is
    ∙ ap (λ (l : List _). after l (each f later)) (sym more)

pub each_done : {A B : Type 0} (f : A → Result B JobRefusal) (all left : List A) (ys : List B) →
    each f all ≡ after ys (each f left) → length left ≡ 0 → each f all ≡ Ok ys
each_done f all [] ys so_far none = so_far ∙ each_ends f ys
each_done f all (x ∷ left) ys so_far none = absurd cc

pub each_refused : {A B : Type 0} (f : A → Result B JobRefusal) (all left later : List A) (x : A) (ys : List B) (error : JobError) →
    each f all ≡ after ys (each f left) → left ≡ x ∷ later → Refuses (f x) error → Refuses (each f all) error
unfolding Refuses
each_refused f all left later x ys Memory so_far first is = tt
each_refused f all left later x ys (Refused refusal) so_far first is =
    so_far ∙ ap (λ (l : List _). after ys (each f l)) first ∙ each_stops f x later ys refusal is

pub each_start : {A B : Type 0} (f : A → Result B JobRefusal) (all left : List A) (ys : List B) → left ≡ all → ys ≡ [] → each f all ≡ after ys (each f left)
each_start f all left ys whole none =
    ap (each f) (sym whole) ∙ each_begins f left ∙ ap (λ (l : List _). after l (each f left)) (sym none)

-- Pairs of two lists.
pub zip_first : {A B : Type 0} (xs later : List A) (ys more : List B) (x : A) (y : B) → xs ≡ x ∷ later → ys ≡ y ∷ more → zip xs ys ≡ (x, y) ∷ zip later more
zip_first xs later ys more x y first other = rw (first, other) refl

pub zip_no_first : {A B : Type 0} (xs : List A) (ys : List B) → length xs ≡ 0 → length (zip xs ys) ≡ 0
zip_no_first [] ys none = refl
zip_no_first (x ∷ xs) ys none = absurd cc

pub zip_no_other : {A B : Type 0} (xs : List A) (ys : List B) → length ys ≡ 0 → length (zip xs ys) ≡ 0
zip_no_other [] ys none = refl
zip_no_other (x ∷ xs) [] none = refl
zip_no_other (x ∷ xs) (y ∷ ys) none = absurd cc
