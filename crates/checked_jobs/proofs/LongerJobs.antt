-- A job with more bytes after it: its plans stay the same, and the bytes after the plans grow.
use Rattle.std.proofs.Common.{◌≡◌, ℕ, suc, ◌+◌, ◌-◌, ◌≤◌, Bool, true, false, List, [], ◌∷◌, ◌++◌, length, take, drop, min, refl, sym, ap, ap₂, subst, ◌∙◌}
use Rattle.std.proofs.Common.{arith, append_assoc, length-append, Option, Some, None, Result, Ok, Err}
use Rattle.std.specs.Prelude.{◌&&◌, ◌==◌, if◌then◌else◌, nat_eq, option_map}
use Rattle.std.specs.List.{starts_with}
use Rattle.std.specs.Cmp.Lexicographic.{pointwise}
use Rattle.std.proofs.lemmas.Bool.{false≢true}
use Rattle.std.proofs.lemmas.List.{drop-append-le, length-take, take-append-drop, take-append-le}
use Rattle.std.proofs.Math.Seq.{drop-append_seam}
use Rattle.description_parts.specs.Described.{Described}
use Rattle.description_keys.specs.declared.fault.DescError.{DescError}
use Rattle.description_keys.specs.declared.fault.DescError.TheVariants as refused_by
use Rattle.slot_plan.specs.Entries.{Entry}
use Rattle.slot_plan.specs.Planned.{Planned}
use Rattle.slot_plan.specs.Readers.{plan_at}
use Rattle.slot_plan.specs.Text.{plan_text}
use Rattle.slot_plan.proofs.TextPlans.{plan-complete, plan-sound}
use Rattle.checked_jobs.specs.Jobs.{BadLine, BadSecondLine, Fails, HasNoPlan, JobFaultView, JobView, SecondFails, described, job, job_of, of_parts}
use Rattle.checked_jobs.specs.Jobs.{second_fault_of, unless_failed, with_description, with_plan, with_rest, with_second}
use Rattle.job_parts.specs.Parts.{fault_of, first_plan_line, plan_offset, planned}
use Rattle.checked_jobs.specs.JobFaults.{IsJobAtFront, is_final, plans_view}
use Rattle.checked_jobs.specs.declared.jobs.JobPlans.{JobPlans}
use Rattle.checked_jobs.specs.declared.jobs.JobPlans.TheVariants.{One, Two}

-- The job with more bytes after the plans
abbrev pub longer : JobView → List ℕ → JobView
longer j more = record j { rest = j.rest ++ more }

-- 1. The plans

planned_more : (text more rest : List ℕ) (p : Planned) → planned text ≡ Ok (p, rest) → planned (text ++ more) ≡ Ok (p, rest ++ more)
unfolding planned
planned_more text more rest p e =
    let s = plan-sound text p rest e in
    ap (λ (x : List ℕ). plan_at (x ++ more)) s.1 ∙ ap plan_at (append_assoc (plan_text p) rest more) ∙ plan-complete p (rest ++ more) s.0

planned_after : (text rest : List ℕ) (p : Planned) → planned text ≡ Ok (p, rest) → text ≡ plan_text p ++ rest
unfolding planned
planned_after text rest p e = (plan-sound text p rest e).1

same_job : (a b : JobView) → ◌≡◌ {A = Result JobView JobFaultView} (Ok a) (Ok b) → a ≡ b
same_job a b e = cc

-- The result with more bytes is the longer job, and the bytes after the plans are the end of the given bytes.
pub record Keeps (given : List ℕ) (after : List ℕ → Result JobView JobFaultView) (j : JobView) : Type 0 where
  pub more : (more : List ℕ) → after more ≡ Ok (longer j more)
  pub front : List ℕ
  pub joined : given ≡ front ++ j.rest

unless_kept : (named : Entry → JobFaultView) (o : Option Entry) (now : Result JobView JobFaultView) (given : List ℕ)
    (after : List ℕ → Result JobView JobFaultView) (j : JobView) →
    (now ≡ Ok j → Keeps given after j) → unless_failed named o now ≡ Ok j → Keeps given (λ more. unless_failed named o (after more)) j
unless_kept named None now given after j k e = k e
unless_kept named (Some fault) now given after j k e = absurd cc

-- If bytes are read first, the result for the rest of the bytes is kept.
kept_before : (front given : List ℕ) (before after : List ℕ → Result JobView JobFaultView) (j : JobView) → Keeps given after j →
    ((more : List ℕ) → before more ≡ after more) → Keeps (front ++ given) before j
kept_before front given before after j k s = record {
  more = λ more. s more ∙ k.more more;
  front = front ++ k.front;
  joined = ap (λ (x : List ℕ). front ++ x) k.joined ∙ sym (append_assoc front k.front j.rest);
}

last_kept : (d : Described) (p : Planned) (second : Option Planned) (rest : List ℕ) (j : JobView) →
    ◌≡◌ {A = Result JobView JobFaultView} (Ok (job d p second rest)) (Ok j) → Keeps rest (λ more. Ok (job d p second (rest ++ more))) j
last_kept d p second rest j e =
    subst (λ (x : JobView). Keeps rest (λ more. Ok (job d p second (rest ++ more))) x) (same_job (job d p second rest) j e)
    (record { more = λ more. refl; front = []; joined = refl })

second_kept : (d : Described) (p : Planned) (text : List ℕ) (j : JobView) (r : Result (Planned × List ℕ) ℕ) → planned text ≡ r →
    with_second d p r ≡ Ok j → Keeps text (λ more. with_second d p (planned (text ++ more))) j
second_kept d p text j (Err line) r e = absurd cc
second_kept d p text j (Ok s) r e =
    subst (λ (x : List ℕ). Keeps x (λ more. with_second d p (planned (text ++ more))) j) (sym (planned_after text s.1 s.0 r))
    (kept_before (plan_text s.0) s.1 (λ more. with_second d p (planned (text ++ more))) (λ more. with_second d p (Ok (s.0, s.1 ++ more))) j
    (unless_kept SecondFails (second_fault_of d p s.0) (Ok (job d p (Some s.0) s.1)) s.1 (λ more. Ok (job d p (Some s.0) (s.1 ++ more))) j
    (last_kept d p (Some s.0) s.1 j) e)
    (λ more. ap (with_second d p) (planned_more text more s.1 s.0 r)))

rest_kept : (switch : Bool) (d : Described) (p : Planned) (rest : List ℕ) (j : JobView) → with_rest switch d p rest ≡ Ok j →
    Keeps rest (λ more. with_rest switch d p (rest ++ more)) j
rest_kept false d p rest j e = last_kept d p None rest j e
rest_kept true d p rest j e = second_kept d p rest j (planned rest) refl e

plan_kept : (switch : Bool) (d : Described) (text : List ℕ) (j : JobView) (r : Result (Planned × List ℕ) ℕ) → planned text ≡ r →
    with_plan switch d r ≡ Ok j → Keeps text (λ more. with_plan switch d (planned (text ++ more))) j
plan_kept switch d text j (Err line) r e = absurd cc
plan_kept switch d text j (Ok s) r e =
    subst (λ (x : List ℕ). Keeps x (λ more. with_plan switch d (planned (text ++ more))) j) (sym (planned_after text s.1 s.0 r))
    (kept_before (plan_text s.0) s.1 (λ more. with_plan switch d (planned (text ++ more))) (λ more. with_plan switch d (Ok (s.0, s.1 ++ more))) j
    (unless_kept Fails (fault_of d s.0) (with_rest switch d s.0 s.1) s.1 (λ more. with_rest switch d s.0 (s.1 ++ more)) j
    (rest_kept switch d s.0 s.1 j) e)
    (λ more. ap (with_plan switch d) (planned_more text more s.1 s.0 r)))

-- 2. The description

described_kept : (switch : Bool) (text : List ℕ) (j : JobView) (r : Result Described DescError) → with_description switch text r ≡ Ok j →
    Keeps text (λ more. with_description switch (text ++ more) r) j
described_kept switch text j (Err (refused_by.Refused f)) e = absurd cc
described_kept switch text j (Err refused_by.Memory) e = absurd cc
described_kept switch text j (Ok d) e = plan_kept switch d text j (planned text) refl e

-- 3. The start of the plans

same_size : (xs ys : List ℕ) → pointwise nat_eq xs ys ≡ true → length xs ≡ length ys
same_size [] [] e = refl
same_size [] (y ∷ ys) e = absurd cc
same_size (x ∷ xs) [] e = absurd cc
same_size (x ∷ xs) (y ∷ ys) e = ap suc (same_size xs ys (second_of (nat_eq x y) (pointwise nat_eq xs ys) e))
  where
    second_of : (a b : Bool) → (a && b) ≡ true → b ≡ true
    second_of true b e = e
    second_of false b e = absurd cc

line_size : length first_plan_line ≡ 9
line_size = refl

line_long : (xs : List ℕ) (b : Bool) → (b && starts_with nat_eq xs first_plan_line) ≡ true → 9 ≤ length xs
line_long xs false e = absurd cc
line_long xs true e =
    let same : length first_plan_line ≡ length (take 9 xs) = same_size first_plan_line (take 9 xs) e in
    let cut : length (take 9 xs) ≡ min 9 (length xs) = length-take 9 xs in
    let nine : length first_plan_line ≡ 9 = line_size in
    omega (arith, same, cut, nine)

abbrev IsFar : ℕ → List ℕ → ℕ → Type 0
IsFar i xs n = (9 ≤ length xs) × (n + 9 ≤ i + length xs)

far_if : (i x n : ℕ) (xs : List ℕ) (b : Bool) → (b ≡ true → 9 ≤ length (x ∷ xs)) → (plan_offset (i + 1) (x == 10) xs ≡ Some n → IsFar (i + 1) xs n) →
    (if b then Some i else plan_offset (i + 1) (x == 10) xs) ≡ Some n → IsFar i (x ∷ xs) n
far_if i x n xs true h next e =
    let same : i ≡ n = cc in
    let long : 9 ≤ length (x ∷ xs) = h refl in
    (long, omega (arith, long, same))
far_if i x n xs false h next e =
    let k = next e in
    let long : 9 ≤ length xs = k.0 in
    let far : n + 9 ≤ i + 1 + length xs = k.1 in
    (omega (arith, long), omega (arith, far))

place_far : (i n : ℕ) (b : Bool) (xs : List ℕ) → plan_offset i b xs ≡ Some n → IsFar i xs n
place_far i n b [] e = absurd cc
place_far i n b (x ∷ xs) e =
    far_if i x n xs (b && starts_with nat_eq (x ∷ xs) first_plan_line) (line_long (x ∷ xs) b) (place_far (i + 1) n (x == 10) xs) e

more_if : (i x n : ℕ) (xs more : List ℕ) (a b : Bool) → a ≡ b →
    (plan_offset (i + 1) (x == 10) xs ≡ Some n → plan_offset (i + 1) (x == 10) (xs ++ more) ≡ Some n) →
    (if b then Some i else plan_offset (i + 1) (x == 10) xs) ≡ Some n → (if a then Some i else plan_offset (i + 1) (x == 10) (xs ++ more)) ≡ Some n
more_if i x n xs more true true s next e = e
more_if i x n xs more false false s next e = next e
more_if i x n xs more true false s next e = absurd cc
more_if i x n xs more false true s next e = absurd cc

place_more : (i n : ℕ) (b : Bool) (xs more : List ℕ) → plan_offset i b xs ≡ Some n → plan_offset i b (xs ++ more) ≡ Some n
place_more i n b [] more e = absurd cc
place_more i n b (x ∷ xs) more e =
    let far : IsFar i (x ∷ xs) n = place_far i n b (x ∷ xs) e in
    more_if i x n xs more (b && starts_with nat_eq (x ∷ (xs ++ more)) first_plan_line) (b && starts_with nat_eq (x ∷ xs) first_plan_line)
    (ap (λ (ys : List ℕ). b && pointwise nat_eq first_plan_line ys) (take-append-le 9 (x ∷ xs) more far.0)) (place_more (i + 1) n (x == 10) xs more) e

-- 4. The job

job_by : (switch : Bool) (xs : List ℕ) (j : JobView) (place : Option ℕ) → plan_offset 0 true xs ≡ place →
    of_parts switch (option_map (λ i. (take i xs, drop i xs)) place) ≡ Ok j → Keeps xs (λ more. job_of switch (xs ++ more)) j
unfolding job_of
job_by switch xs j None p e = absurd cc
job_by switch xs j (Some n) p e =
    let far : IsFar 0 xs n = place_far 0 n true xs p in
    let within : n ≤ length xs = omega (arith, far.1) in
    subst (λ (x : List ℕ). Keeps x (λ more. job_of switch (xs ++ more)) j) (take-append-drop n xs)
    (kept_before (take n xs) (drop n xs) (λ more. job_of switch (xs ++ more)) (λ more. with_description switch (drop n xs ++ more) (described (take n xs))) j
    (described_kept switch (drop n xs) j (described (take n xs)) e)
    (λ more. ap (λ (o : Option ℕ). of_parts switch (option_map (λ i. (take i (xs ++ more), drop i (xs ++ more))) o)) (place_more 0 n true xs more p)
    ∙ ap₂ (λ (rest front : List ℕ). with_description switch rest (described front)) (drop-append-le n xs more within) (take-append-le n xs more within)))

pub job_kept : (switch : Bool) (xs : List ℕ) (j : JobView) → job_of switch xs ≡ Ok j → Keeps xs (λ more. job_of switch (xs ++ more)) j
unfolding job_of
job_kept switch xs j e = job_by switch xs j (plan_offset 0 true xs) refl e

-- 5. A fault that more bytes can't change

abbrev Stays : (List ℕ → Result JobView JobFaultView) → JobFaultView → Type 0
Stays after f = (more : List ℕ) → after more ≡ Err f

same_fault : (a b : JobFaultView) → ◌≡◌ {A = Result JobView JobFaultView} (Err a) (Err b) → a ≡ b
same_fault a b e = cc

-- A fault that more bytes may change is not a final fault.
changes : (a b : JobFaultView) → is_final a ≡ false → ◌≡◌ {A = Result JobView JobFaultView} (Err a) (Err b) → is_final b ≡ true → ⊥
changes a b n e f = false≢true (sym n ∙ ap is_final (same_fault a b e) ∙ f)

unless_stays : (named : Entry → JobFaultView) (o : Option Entry) (now : Result JobView JobFaultView) (after : List ℕ → Result JobView JobFaultView)
    (f : JobFaultView) →
    (now ≡ Err f → Stays after f) → unless_failed named o now ≡ Err f → Stays (λ more. unless_failed named o (after more)) f
unless_stays named None now after f s e = s e
unless_stays named (Some fault) now after f s e = λ more. e

stays_before : (before after : List ℕ → Result JobView JobFaultView) (f : JobFaultView) → Stays after f → ((more : List ℕ) → before more ≡ after more) →
    Stays before f
stays_before before after f s h = λ more. h more ∙ s more

second_stays : (d : Described) (p : Planned) (text : List ℕ) (f : JobFaultView) (r : Result (Planned × List ℕ) ℕ) → planned text ≡ r → is_final f ≡ true →
    with_second d p r ≡ Err f → Stays (λ more. with_second d p (planned (text ++ more))) f
second_stays d p text f (Err line) r n e = absurd (changes (BadSecondLine line) f refl e n)
second_stays d p text f (Ok s) r n e =
    stays_before (λ more. with_second d p (planned (text ++ more))) (λ more. with_second d p (Ok (s.0, s.1 ++ more))) f
    (unless_stays SecondFails (second_fault_of d p s.0) (Ok (job d p (Some s.0) s.1)) (λ more. Ok (job d p (Some s.0) (s.1 ++ more))) f (λ x. absurd cc) e)
    (λ more. ap (with_second d p) (planned_more text more s.1 s.0 r))

rest_stays : (switch : Bool) (d : Described) (p : Planned) (rest : List ℕ) (f : JobFaultView) → is_final f ≡ true → with_rest switch d p rest ≡ Err f →
    Stays (λ more. with_rest switch d p (rest ++ more)) f
rest_stays false d p rest f n e = absurd cc
rest_stays true d p rest f n e = second_stays d p rest f (planned rest) refl n e

plan_stays : (switch : Bool) (d : Described) (text : List ℕ) (f : JobFaultView) (r : Result (Planned × List ℕ) ℕ) → planned text ≡ r → is_final f ≡ true →
    with_plan switch d r ≡ Err f → Stays (λ more. with_plan switch d (planned (text ++ more))) f
plan_stays switch d text f (Err line) r n e = absurd (changes (BadLine line) f refl e n)
plan_stays switch d text f (Ok s) r n e =
    stays_before (λ more. with_plan switch d (planned (text ++ more))) (λ more. with_plan switch d (Ok (s.0, s.1 ++ more))) f
    (unless_stays Fails (fault_of d s.0) (with_rest switch d s.0 s.1) (λ more. with_rest switch d s.0 (s.1 ++ more)) f (rest_stays switch d s.0 s.1 f n) e)
    (λ more. ap (with_plan switch d) (planned_more text more s.1 s.0 r))

described_stays : (switch : Bool) (text : List ℕ) (f : JobFaultView) (r : Result Described DescError) → is_final f ≡ true →
    with_description switch text r ≡ Err f →
    Stays (λ more. with_description switch (text ++ more) r) f
described_stays switch text f (Err (refused_by.Refused fault)) n e = λ more. e
described_stays switch text f (Err refused_by.Memory) n e = λ more. e
described_stays switch text f (Ok d) n e = plan_stays switch d text f (planned text) refl n e

stays_by : (switch : Bool) (xs : List ℕ) (f : JobFaultView) (place : Option ℕ) → plan_offset 0 true xs ≡ place → is_final f ≡ true →
    of_parts switch (option_map (λ i. (take i xs, drop i xs)) place) ≡ Err f → Stays (λ more. job_of switch (xs ++ more)) f
unfolding job_of
stays_by switch xs f None p n e = absurd (changes HasNoPlan f refl e n)
stays_by switch xs f (Some i) p n e =
    let far : IsFar 0 xs i = place_far 0 i true xs p in
    let within : i ≤ length xs = omega (arith, far.1) in
    stays_before (λ more. job_of switch (xs ++ more)) (λ more. with_description switch (drop i xs ++ more) (described (take i xs))) f
    (described_stays switch (drop i xs) f (described (take i xs)) n e)
    (λ more. ap (λ (o : Option ℕ). of_parts switch (option_map (λ j. (take j (xs ++ more), drop j (xs ++ more))) o)) (place_more 0 i true xs more p)
    ∙ ap₂ (λ (rest front : List ℕ). with_description switch rest (described front)) (drop-append-le i xs more within) (take-append-le i xs more within))

pub fault_stays : (switch : Bool) (xs more : List ℕ) (f : JobFaultView) → is_final f ≡ true → Err f ≡ job_of switch xs → Err f ≡ job_of switch (xs ++ more)
unfolding job_of
fault_stays switch xs more f n e = sym (stays_by switch xs f (plan_offset 0 true xs) refl n (sym e) more)

-- 6. Plans at the front of bytes

view_longer : (plans : JobPlans) (rest more : List ℕ) → longer (plans_view plans rest) more ≡ plans_view plans (rest ++ more)
view_longer (One c) rest more = refl
view_longer (Two c) rest more = refl

view_rest : (plans : JobPlans) (rest : List ℕ) → (plans_view plans rest).rest ≡ rest
view_rest (One c) rest = refl
view_rest (Two c) rest = refl

-- The bytes after the plans are the end of the given bytes.
rest_ends : (switch : Bool) (xs rest : List ℕ) (plans : JobPlans) → Ok (plans_view plans rest) ≡ job_of switch xs → (front : List ℕ) × (xs ≡ front ++ rest)
rest_ends switch xs rest plans e =
    let k = job_kept switch xs (plans_view plans rest) (sym e) in
    (k.front, k.joined ∙ ap (λ (x : List ℕ). k.front ++ x) (view_rest plans rest))

pub rest_within : (switch : Bool) (xs rest : List ℕ) (plans : JobPlans) → Ok (plans_view plans rest) ≡ job_of switch xs → length rest ≤ length xs
rest_within switch xs rest plans e =
    let k = rest_ends switch xs rest plans e in
    let size : length xs ≡ length (k.0 ++ rest) = ap length k.1 in
    let both : length (k.0 ++ rest) ≡ length k.0 + length rest = length-append k.0 rest in
    omega (arith, size, both)

pub job_at_front : (switch : Bool) (xs rest : List ℕ) (plans : JobPlans) (place : ℕ) → place ≡ length xs - length rest →
    Ok (plans_view plans rest) ≡ job_of switch xs →
    IsJobAtFront (job_of switch xs) xs (Ok (plans, place))
job_at_front switch xs rest plans place p e =
    let k = rest_ends switch xs rest plans e in
    let size : length xs ≡ length (k.0 ++ rest) = ap length k.1 in
    let both : length (k.0 ++ rest) ≡ length k.0 + length rest = length-append k.0 rest in
    let at : place ≡ length k.0 = omega (arith, p, size, both) in
    let left : drop place xs ≡ rest = ap₂ (λ (n : ℕ) (x : List ℕ). drop n x) at k.1 ∙ drop-append_seam k.0 rest in
    (omega (arith, at, size, both), ap (λ (x : List ℕ). Ok (plans_view plans x)) left ∙ e)

-- The plans stay the same if more bytes follow them.
pub plans_stay : (switch : Bool) (xs more : List ℕ) (plans : JobPlans) (place : ℕ) → IsJobAtFront (job_of switch xs) xs (Ok (plans, place)) →
    Ok (plans_view plans (drop place xs ++ more)) ≡ job_of switch (xs ++ more)
plans_stay switch xs more plans place p =
    let k = job_kept switch xs (plans_view plans (drop place xs)) (sym p.1) in
    ap Ok (sym (view_longer plans (drop place xs) more)) ∙ sym (k.more more)
