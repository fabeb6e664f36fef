-- Lines that do not begin a plan: the description of a job ends after them.
use Rattle.std.proofs.Common.{◌≡◌, ℕ, ◌+◌, ◌==◌, Bool, true, false, not, List, [], ◌∷◌, ◌++◌, length, refl, sym, ap, ◌∙◌, arith, append_assoc, length-append}
use Rattle.std.proofs.Common.{inl, inr, ne_eqb, if◌then◌else◌, Some}
use Rattle.std.specs.Prelude.{nat_eq}
use Rattle.std.specs.List.{list_all, starts_with}
use Rattle.std.proofs.lemmas.Bool.{and_parts, and_from, cases_Bool, eqb-true, false≢true, not_from_false}
use Rattle.job_parts.specs.Parts.{first_plan_line, plan_offset}

-- 1. Bytes within a line

-- A byte that is no newline; a text is flat if each of its bytes is no newline.
abbrev pub is_inside : ℕ → Bool
is_inside b = not (b == 10)

abbrev pub is_flat : List ℕ → Bool
is_flat xs = list_all is_inside xs

-- A byte within a line is not 10.
pub not_end : (b : ℕ) → is_inside b ≡ true → (b == 10) ≡ false
not_end b e = by (b == 10) e
  where
    by : (t : Bool) → not t ≡ true → t ≡ false
    by true e = absurd (false≢true e)
    by false e = refl

pub inside_ne : (b : ℕ) → (b ≡ 10 → ⊥) → is_inside b ≡ true
inside_ne b ne = not_from_false (b == 10) (ne_eqb b 10 ne)

pub flat_both : (xs ys : List ℕ) → is_flat xs ≡ true → is_flat ys ≡ true → is_flat (xs ++ ys) ≡ true
flat_both [] ys a b = b
flat_both (x ∷ xs) ys a b =
    let parts = and_parts (is_inside x) (is_flat xs) a in
    and_from (is_inside x) (is_flat (xs ++ ys)) parts.0 (flat_both xs ys parts.1 b)

pub flat_more : (x : ℕ) (xs : List ℕ) → is_inside x ≡ true → is_flat xs ≡ true → is_flat (x ∷ xs) ≡ true
flat_more x xs a b = and_from (is_inside x) (is_flat xs) a b

-- A byte is no newline if it passes a test that a newline fails.
pub inside_if : (p : ℕ → Bool) (b : ℕ) → p 10 ≡ false → p b ≡ true → is_inside b ≡ true
inside_if p b none e = elim (cases_Bool (b == 10)) [
  | inl end ↦ absurd (false≢true (sym none ∙ ap p (sym (eqb-true b 10 end)) ∙ e))
  | inr other ↦ not_from_false (b == 10) other
]

pub flat_if : (p : ℕ → Bool) (xs : List ℕ) → p 10 ≡ false → list_all p xs ≡ true → is_flat xs ≡ true
flat_if p [] none e = refl
flat_if p (x ∷ xs) none e =
    let parts = and_parts (p x) (list_all p xs) e in
    flat_more x xs (inside_if p x none parts.0) (flat_if p xs none parts.1)

-- 2. Whole lines

-- The search for a plan continues after these bytes, which are whole lines.
abbrev pub Passes : List ℕ → Type 0
Passes xs = (i : ℕ) (rest : List ℕ) → plan_offset i true (xs ++ rest) ≡ plan_offset (i + length xs) true rest

pub none_passes : Passes []
none_passes i rest = let same : i ≡ i + 0 = omega arith in ap (λ (n : ℕ). plan_offset n true rest) same

pub both_pass : (xs ys : List ℕ) → Passes xs → Passes ys → Passes (xs ++ ys)
both_pass xs ys a b i rest =
    let size : i + length xs + length ys ≡ i + length (xs ++ ys) = omega (arith, length-append xs ys) in
    ap (plan_offset i true) (append_assoc xs ys rest) ∙ a i (ys ++ rest) ∙ b (i + length xs) rest ∙ ap (λ (n : ℕ). plan_offset n true rest) size

past_line : (i : ℕ) (xs rest : List ℕ) → is_flat xs ≡ true → plan_offset i false (xs ++ 10 ∷ rest) ≡ plan_offset (i + length xs + 1) true rest
past_line i [] rest e = let same : i + 1 ≡ i + 0 + 1 = omega arith in ap (λ (n : ℕ). plan_offset n true rest) same
past_line i (x ∷ xs) rest e =
    let parts = and_parts (is_inside x) (is_flat xs) e in
    let next : i + 1 + length xs + 1 ≡ i + length (x ∷ xs) + 1 = omega arith in
    ap (λ (b : Bool). plan_offset (i + 1) b (xs ++ 10 ∷ rest)) (not_end x parts.0) ∙ past_line (i + 1) xs rest parts.1
    ∙ ap (λ (n : ℕ). plan_offset n true rest) next

-- The search at the beginning of a line that is not the first line of a plan
other_line : (i x : ℕ) (xs : List ℕ) (b : Bool) → starts_with nat_eq (x ∷ xs) first_plan_line ≡ false → (x == 10) ≡ b →
    plan_offset i true (x ∷ xs) ≡ plan_offset (i + 1) b xs
other_line i x xs b other end =
    by (starts_with nat_eq (x ∷ xs) first_plan_line) other ∙ ap (λ (t : Bool). plan_offset (i + 1) t xs) end
  where
    by : (t : Bool) → t ≡ false → (if t then Some i else plan_offset (i + 1) (x == 10) xs) ≡ plan_offset (i + 1) (x == 10) xs
    by true e = absurd cc
    by false e = refl

pub line_passes : (xs : List ℕ) → is_flat xs ≡ true → ((rest : List ℕ) → starts_with nat_eq (xs ++ 10 ∷ rest) first_plan_line ≡ false) → Passes (xs ++ 10 ∷ [])
line_passes [] e other i rest = other_line i 10 rest true (other rest) refl
line_passes (x ∷ xs) e other i rest =
    let parts = and_parts (is_inside x) (is_flat xs) e in
    let size : i + 1 + length xs + 1 ≡ i + length (x ∷ (xs ++ 10 ∷ [])) = omega (arith, length-append xs (10 ∷ [])) in
    ap (λ (l : List ℕ). plan_offset i true (x ∷ l)) (append_assoc xs (10 ∷ []) rest)
    ∙ other_line i x (xs ++ 10 ∷ rest) false (other rest) (not_end x parts.0)
    ∙ past_line (i + 1) xs rest parts.1 ∙ ap (λ (n : ℕ). plan_offset n true rest) size
