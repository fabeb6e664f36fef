-- Steps one after another; each step may be refused.
use Rattle.std.proofs.Common.{◌≡◌, List, [], ◌∷◌, Option, Some, None, Result, Ok, Err, All, refl, subst}
use Rattle.std.proofs.lemmas.List.Elements.{All-nil, All-cons, All-head, All-tail}
use Rattle.job_programs.specs.declared.refusal.JobRefusal.{JobRefusal}
use Rattle.job_programs.specs.Answers.{and_then, unless, each}

pub granted : {A : Type 0} (against : Option JobRefusal) (answer : Result A JobRefusal) (value : A) → unless against answer ≡ Ok value → answer ≡ Ok value
unfolding unless
granted None answer value is = is
granted (Some refusal) answer value is = absurd (let no : ⊥ = cc in no)

pub not_against : {A : Type 0} (against : Option JobRefusal) (answer : Result A JobRefusal) (value : A) → unless against answer ≡ Ok value → against ≡ None
unfolding unless
not_against None answer value is = refl
not_against (Some refusal) answer value is = absurd (let no : ⊥ = cc in no)

pub record Comes (A B : Type 0) (next : A → Result B JobRefusal) (first : Result A JobRefusal) (last : B) : Type 0 where
  pub value : A
  pub first_is : first ≡ Ok value
  pub last_is : next value ≡ Ok last

pub comes : {A B : Type 0} (next : A → Result B JobRefusal) (first : Result A JobRefusal) (last : B) → and_then next first ≡ Ok last → Comes A B next first last
unfolding and_then
comes next (Ok value) last is = record { value = value; first_is = refl; last_is = is }
comes next (Err refusal) last is = absurd (let no : ⊥ = cc in no)

pub same_value : {A : Type 0} (x y : A) → (let r : Result A JobRefusal = Ok x in r) ≡ Ok y → x ≡ y
same_value x y is = cc

-- If each result has a property, the list of all results has it.
pub each_all : {A B : Type 0} (f : A → Result B JobRefusal) (Q : A → Type 0) (P : B → Type 0) → ((x : A) (y : B) → Q x → f x ≡ Ok y → P y) →
    (xs : List A) (ys : List B) → All Q xs → each f xs ≡ Ok ys → All P ys
unfolding each
each_all {A} {B} f Q P holds [] ys all is = subst (λ (l : List B). All P l) (same_value [] ys is) (All-nil P)
each_all {A} {B} f Q P holds (x ∷ xs) ys all is =
    let first = comes (λ y. and_then (λ zs. Ok (y ∷ zs)) (each f xs)) (f x) ys is in
    let rest = comes (λ zs. Ok (first.value ∷ zs)) (each f xs) ys first.last_is in
    subst (λ (l : List B). All P l) (same_value (first.value ∷ rest.value) ys rest.last_is)
    (All-cons P first.value rest.value (holds x first.value (All-head Q x xs all) first.first_is)
    (each_all f Q P holds xs rest.value (All-tail Q x xs all) rest.first_is))
