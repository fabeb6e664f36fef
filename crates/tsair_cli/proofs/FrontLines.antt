-- A text of whole lines, and the lines after it: the number of plans that end in both
use Rattle.std.proofs.Common.{◌≡◌, inl, inr, ◌<◌, ◌≤◌, ◌-◌, ℕ, zero, suc, ◌+◌, ◌==◌, Bool, true, false, not, List, [], ◌∷◌, ◌++◌, take, drop, length, Option}
use Rattle.std.proofs.Common.{Some, None, if◌then◌else◌, refl, sym, ap, ap₂, ◌∙◌, arith, length-append}
use Rattle.std.specs.Prelude.{◌&&◌, IfSome, codes, nat_eq, option_map}
use Rattle.std.specs.List.{list_all, starts_with}
use Rattle.std.proofs.lemmas.Bool.{and_parts, eqb-true, false≢true, leb-false}
use Rattle.std.proofs.Math.Seq.{drop-append_seam, take-length}
use Rattle.job_parts.specs.Parts.{first_plan_line, parts_of, plan_offset}
use Rattle.tsair_cli.specs.Fronts.{IsLined, end_lines, ended_after, ended_plans, ends_a_line, have_ended, have_ends, max_front, plan_count, plans_end}

-- 1. Whole lines

line_ended : (b : Bool) (xs : List ℕ) → ends_a_line b (xs ++ 10 ∷ []) ≡ true
line_ended b [] = refl
line_ended b (x ∷ xs) = line_ended (x == 10) xs

pub whole_line : (now new : List ℕ) (x : ℕ) → new ≡ now ++ (x ∷ []) → x ≡ 10 → ends_a_line true new ≡ true
whole_line now new x is end = ap (ends_a_line true) is ∙ ap (λ (n : ℕ). ends_a_line true (now ++ n ∷ [])) end ∙ line_ended true now

-- The bytes lie within one line; the end of the line follows them.
abbrev is_inside : List ℕ → Bool
is_inside line = list_all (λ q. not (nat_eq q 10)) line

other_byte : (q x : ℕ) (b : Bool) → not (nat_eq q 10) ≡ true → (x == 10) ≡ true → (nat_eq q x && b) ≡ false
other_byte q x b inside end = ap (λ (n : ℕ). nat_eq q n && b) (eqb-true x 10 end) ∙ by (nat_eq q 10) inside
  where
    by : (t : Bool) → not t ≡ true → (t && b) ≡ false
    by true other = absurd (false≢true other)
    by false other = refl

-- Whether whole lines begin with a line does not depend on the lines after them.
begins_alike : (line xs ys : List ℕ) → is_inside line ≡ true → ends_a_line false xs ≡ true →
    starts_with nat_eq (xs ++ ys) (line ++ 10 ∷ []) ≡ starts_with nat_eq xs (line ++ 10 ∷ [])
begins_alike line [] ys inside e = absurd (false≢true e)
begins_alike [] (x ∷ xs) ys inside e = refl
begins_alike (q ∷ line) (x ∷ []) ys inside e =
    let parts = and_parts (not (nat_eq q 10)) (is_inside line) inside in
    other_byte q x _ parts.0 e ∙ sym (other_byte q x _ parts.0 e)
begins_alike (q ∷ line) (x ∷ (y ∷ xs)) ys inside e =
    let parts = and_parts (not (nat_eq q 10)) (is_inside line) inside in
    ap (λ (b : Bool). nat_eq q x && b) (begins_alike line (y ∷ xs) ys parts.1 e)

-- 2. Lines `end`

regrouped : (a b c : ℕ) → a + (b + c) ≡ a + b + c
regrouped a b c = omega arith

end_lines_on : (b : Bool) (xs ys : List ℕ) → ends_a_line b xs ≡ true → end_lines b (xs ++ ys) ≡ end_lines b xs + end_lines true ys
end_lines_on b [] ys e =
    let none : end_lines true ys ≡ 0 + end_lines true ys = omega arith in
    ap (λ (t : Bool). end_lines t ys) e ∙ none
end_lines_on b (x ∷ xs) ys e =
    let here : starts_with nat_eq (x ∷ (xs ++ ys)) (codes "end\n") ≡ starts_with nat_eq (x ∷ xs) (codes "end\n") =
    begins_alike (codes "end") (x ∷ xs) ys refl e in
    ap₂ (λ (t : Bool) (n : ℕ). (if b && t then 1 else 0) + n) here (end_lines_on (x == 10) xs ys e)
    ∙ regrouped (if b && starts_with nat_eq (x ∷ xs) (codes "end\n") then 1 else 0) (end_lines (x == 10) xs) (end_lines true ys)

-- 3. The plans that end

-- The same number, by one recursion
abbrev ends_from : Bool → List ℕ → Option ℕ
ends_from b [] = None
ends_from b (x ∷ xs) = if b && starts_with nat_eq (x ∷ xs) first_plan_line then Some (end_lines true (x ∷ xs)) else ends_from (x == 10) xs

drop_one_more : (i x : ℕ) (zs xs : List ℕ) → drop i zs ≡ x ∷ xs → drop (i + 1) zs ≡ xs
drop_one_more zero x zs xs e = ap (drop 1) e
drop_one_more (suc i) x [] xs e = absurd cc
drop_one_more (suc i) x (z ∷ zs) xs e =
    let next : suc i + 1 ≡ suc (i + 1) = omega arith in
    ap (λ (n : ℕ). drop n (z ∷ zs)) next ∙ drop_one_more i x zs xs e

from_place : (i : ℕ) (b : Bool) (xs zs : List ℕ) → drop i zs ≡ xs → option_map (λ n. end_lines true (drop n zs)) (plan_offset i b xs) ≡ ends_from b xs
from_place i b [] zs e = refl
from_place i b (x ∷ xs) zs e = by (b && starts_with nat_eq (x ∷ xs) first_plan_line) (from_place (i + 1) (x == 10) xs zs (drop_one_more i x zs xs e))
  where
    by : (t : Bool) → option_map (λ n. end_lines true (drop n zs)) (plan_offset (i + 1) (x == 10) xs) ≡ ends_from (x == 10) xs →
        option_map (λ n. end_lines true (drop n zs)) (if t then Some i else plan_offset (i + 1) (x == 10) xs)
        ≡ (if t then Some (end_lines true (x ∷ xs)) else ends_from (x == 10) xs)
    by true later = ap (λ (l : List ℕ). Some (end_lines true l)) e
    by false later = later

in_parts : (xs : List ℕ) (place : Option ℕ) →
    option_map (λ (p : List ℕ × List ℕ). end_lines true p.1) (option_map (λ i. (take i xs, drop i xs)) place) ≡ option_map (λ n. end_lines true (drop n xs))
    place
in_parts xs None = refl
in_parts xs (Some n) = refl

as_recursion : (xs : List ℕ) → ended_plans xs ≡ ends_from true xs
as_recursion xs = in_parts xs (plan_offset 0 true xs) ∙ from_place 0 true xs xs refl

ends_on : (b : Bool) (xs ys : List ℕ) → ends_a_line b xs ≡ true → ends_from b (xs ++ ys) ≡ ended_after (ends_from b xs) ys
ends_on b [] ys e = ap (λ (t : Bool). ends_from t ys) e ∙ sym (as_recursion ys)
ends_on b (x ∷ xs) ys e =
    let here : starts_with nat_eq (x ∷ (xs ++ ys)) first_plan_line ≡ starts_with nat_eq (x ∷ xs) first_plan_line =
    begins_alike (codes "tsplan 1") (x ∷ xs) ys refl e in
    ap (λ (t : Bool). if b && t then Some (end_lines true (x ∷ (xs ++ ys))) else ends_from (x == 10) (xs ++ ys)) here
    ∙ by (b && starts_with nat_eq (x ∷ xs) first_plan_line) (end_lines_on true (x ∷ xs) ys e) (ends_on (x == 10) xs ys e)
  where
    by : (t : Bool) → end_lines true (x ∷ (xs ++ ys)) ≡ end_lines true (x ∷ xs) + end_lines true ys →
        ends_from (x == 10) (xs ++ ys) ≡ ended_after (ends_from (x == 10) xs) ys →
        (if t then Some (end_lines true (x ∷ (xs ++ ys))) else ends_from (x == 10) (xs ++ ys))
        ≡ ended_after (if t then Some (end_lines true (x ∷ xs)) else ends_from (x == 10) xs) ys
    by true here later = ap Some here
    by false here later = later

pub ended_on : (xs ys : List ℕ) → ends_a_line true xs ≡ true → ended_plans (xs ++ ys) ≡ ended_after (ended_plans xs) ys
ended_on xs ys e = as_recursion (xs ++ ys) ∙ ends_on true xs ys e ∙ ap (λ (o : Option ℕ). ended_after o ys) (sym (as_recursion xs))

-- 4. What the lines of a front say

-- The lines that were added to a text
lines_read : (now new lines got : List ℕ) (from : ℕ) → new ≡ now ++ lines → got ≡ new → from ≡ length now → take (length got - from) (drop from got) ≡ lines
lines_read now new lines got from grown same at =
    let whole : got ≡ now ++ lines = same ∙ grown in
    let size : length got ≡ length (now ++ lines) = ap length whole in
    let left : length got - from ≡ length lines = omega (arith, size, at, length-append now lines) in
    ap₂ take left (ap₂ drop at whole ∙ drop-append_seam now lines) ∙ take-length lines

short_whole : (text : List ℕ) → length text ≤ max_front → IsLined text → ends_a_line true text ≡ true
short_whole text short (inl long) = absurd (omega (arith, short, long))
short_whole text short (inr whole) = whole

pub ended_more : (now new lines got : List ℕ) (ended after : Option ℕ) (from : ℕ) → new ≡ now ++ lines → length now ≤ max_front → IsLined now →
    ended ≡ ended_plans now →
    got ≡ new → from ≡ length now → after ≡ ended_after ended (take (length got - from) (drop from got)) → after ≡ ended_plans new
ended_more now new lines got ended after from grown short lined before same at is =
    is ∙ ap₂ ended_after before (lines_read now new lines got from grown same at)
    ∙ sym (ended_on now lines (short_whole now short lined)) ∙ ap ended_plans (sym grown)

pub few_ended : (switch : Bool) (ended : Option ℕ) (all : Bool) → all ≡ have_ended (plan_count switch) ended → all ≡ false → IfSome ended (λ n. n < 2)
few_ended switch None all is not_all = tt
few_ended true (Some n) all is not_all = leb-false 2 n (sym is ∙ not_all)
few_ended false (Some n) all is not_all = let less : n < 1 = leb-false 1 n (sym is ∙ not_all) in omega (arith, less)

pub all_ended : (switch : Bool) (text : List ℕ) (ended : Option ℕ) (all : Bool) → ended ≡ ended_plans text → all ≡ have_ended (plan_count switch) ended →
    all ≡ true →
    plans_end switch text ≡ true
all_ended switch text ended all is e every =
    sym (by (parts_of text)) ∙ ap (have_ended (plan_count switch)) (sym is) ∙ sym e ∙ every
  where
    by : (parts : Option (List ℕ × List ℕ)) →
        have_ended (plan_count switch) (option_map (λ (p : List ℕ × List ℕ). end_lines true p.1) parts) ≡ have_ends (plan_count switch) parts
    by None = refl
    by (Some parts) = refl
