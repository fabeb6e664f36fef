-- Rates that are tried one after another
use Rattle.std.proofs.Common.{◌≡◌, ◌≤◌, ◌<◌, ℕ, zero, suc, ◌+◌, ◌-◌, true, false, nat_le, List, [], ◌∷◌, ◌++◌, map, All, refl, sym, subst, ap, ◌∙◌, arith}
use Rattle.std.proofs.Common.{append_assoc, append-nil}
use Rattle.std.proofs.lemmas.Bool.Decides.{nat_tests}
use Rattle.std.proofs.lemmas.List.Elements.{All-nil, All-cons, All-append}
use Rattle.std.proofs.lemmas.List.FromFn.{map-range_with_len_more}
use Rattle.std.specs.List.{range_with_len}
use Rattle.job_inputs.specs.JobInput.{JobInputView}
use Rattle.stream_jobs.specs.Rates.{IsTriedFrom, IsUnserved, next_rate, rates_from, tried_rates}
use Rattle.job_programs.specs.JobOptions.{JobOptionsView}

low : (rate : ℕ) → rate ≤ 100_000_000 → nat_le rate 100_000_000 ≡ true
low rate h = grind (arith, nat_tests)

high : (rate : ℕ) → 100_000_000 < rate → nat_le rate 100_000_000 ≡ false
high rate h = grind (arith, nat_tests)

one_more : (n k rate : ℕ) → rate ≤ 100_000_000 → rates_from (suc n) k rate ≡ rate ∷ rates_from n (k + 1) (next_rate k rate)
unfolding rates_from
one_more n k rate h = rw (low rate h) refl

-- The rate that is tried now, and the rates after it
tried_now : (k rate : ℕ) → k < 96 → rate ≤ 100_000_000 → rates_from (96 - k) k rate ≡ rate ∷ rates_from (96 - (k + 1)) (k + 1) (next_rate k rate)
tried_now k rate within h =
    let e : 96 - k ≡ suc (96 - (k + 1)) = omega (arith, within) in
    ap (λ n. rates_from n k rate) e ∙ one_more (96 - (k + 1)) k rate h

-- No rate above the greatest is tried.
over : (n k rate : ℕ) → 100_000_000 < rate → rates_from n k rate ≡ []
unfolding rates_from
over zero k rate h = refl
over (suc n) k rate h = rw (high rate h) refl

-- No rate after the last is tried.
spent : (k rate : ℕ) → 96 ≤ k → rates_from (96 - k) k rate ≡ []
unfolding rates_from
spent k rate h = let e : 96 - k ≡ 0 = omega (arith, h) in rw e refl

-- The rates before `rate`, all unserved, and the rates that are left from it on
pub record ArePassed (P : ℕ → Type 0) (first k rate : ℕ) : Type 0 where
  pub before : List ℕ
  pub split : tried_rates first ≡ before ++ rates_from (96 - k) k rate
  pub none_before : All P before

pub none_passed : (P : ℕ → Type 0) (first : ℕ) → ArePassed P first 0 first
none_passed P first = record { before = []; split = refl; none_before = All-nil P }

-- No rate is left.
ended : (P : ℕ → Type 0) (k first rate : ℕ) → rates_from (96 - k) k rate ≡ [] → ArePassed P first k rate → All P (tried_rates first)
ended P k first rate e passed =
    let whole : tried_rates first ≡ passed.before = passed.split ∙ (ap (λ rs. passed.before ++ rs) e ∙ append-nil passed.before) in
    subst (All P) (sym whole) passed.none_before

pub all_over : (P : ℕ → Type 0) (k first rate : ℕ) → ArePassed P first k rate → 100_000_000 < rate → All P (tried_rates first)
all_over P k first rate passed h = ended P k first rate (over (96 - k) k rate h) passed

pub all_spent : (P : ℕ → Type 0) (k first rate : ℕ) → ArePassed P first k rate → 96 ≤ k → All P (tried_rates first)
all_spent P k first rate passed h = ended P k first rate (spent k rate h) passed

-- This rate is tried.
pub tried_after : (options : JobOptionsView) (input : JobInputView) (k first rate : ℕ) → ArePassed (IsUnserved options input) first k rate → k < 96 →
    rate ≤ 100_000_000 →
    IsTriedFrom options input first rate
tried_after options input k first rate passed within h = record {
  before = passed.before;
  after = rates_from (96 - (k + 1)) (k + 1) (next_rate k rate);
  among = passed.split ∙ ap (λ rs. passed.before ++ rs) (tried_now k rate within h);
  none_before = passed.none_before;
}

-- This rate is passed too.
pub one_passed : (P : ℕ → Type 0) (k first rate : ℕ) → ArePassed P first k rate → k < 96 → rate ≤ 100_000_000 → P rate →
    ArePassed P first (k + 1) (next_rate k rate)
one_passed P k first rate passed within h one =
    let rest = rates_from (96 - (k + 1)) (k + 1) (next_rate k rate) in
    record {
      before = passed.before ++ rate ∷ [];
      split = passed.split ∙ (ap (λ rs. passed.before ++ rs) (tried_now k rate within h) ∙ sym (append_assoc passed.before (rate ∷ []) rest));
      none_before = All-append P passed.before (rate ∷ []) passed.none_before (All-cons P rate [] one (All-nil P));
    }

-- One more table
pub tables_more : {X : Type 0} (f : ℕ → X) (n : ℕ) → map f (range_with_len 0 (n + 1)) ≡ map f (range_with_len 0 n) ++ f n ∷ []
tables_more f n = map-range_with_len_more f 0 n n (omega arith)

pub pushed_table : {X : Type 0} (f : ℕ → X) (old : List X) (now : List X) (n : ℕ) → now ≡ old ++ map f (range_with_len 0 n) →
    now ++ f n ∷ [] ≡ old ++ map f (range_with_len 0 (n + 1))
pushed_table f old now n so_far = rw (so_far, tables_more f n) (append_assoc old (map f (range_with_len 0 n)) (f n ∷ []))

pub all_tables : {X : Type 0} (f : ℕ → X) (old : List X) (now : List X) (n count : ℕ) → now ≡ old ++ map f (range_with_len 0 n) → n ≡ count →
    now ≡ old ++ map f (range_with_len 0 count)
all_tables f old now n count so_far same = so_far ∙ ap (λ k. old ++ map f (range_with_len 0 k)) same
