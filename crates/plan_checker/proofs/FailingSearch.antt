-- The search for failing conditions, through the conditions of a plan in their order
use Rattle.std.specs.Prelude.{is_none, is_some, nat_le, not, take}
use Rattle.std.proofs.Common.{◌≡◌, ℕ, zero, suc, ◌+◌, ◌-◌, ◌<◌, ◌≤◌, ◌==◌, Bool, true, false, cond, List, [], ◌∷◌, ◌++◌, length, drop, get_or, slice_get}
use Rattle.std.proofs.Common.{Option, Some, None, refl, ap, sym, ◌∙◌, add-one, arith}
use Rattle.std.proofs.Math.Seq.{drop-cons}
use Rattle.std.specs.Option.{unwrap_or}
use Rattle.std.proofs.lemmas.Bool.Decides.{nat_tests}
use Rattle.std.proofs.lemmas.List.{append-nil, append_assoc, drop_all, length-append}
use Rattle.std.proofs.lemmas.List.Elements.{filter-append}
use Rattle.std.proofs.lemmas.Option.{slice_get-get_or, unwrap_or-slice_get}
use Rattle.description_parts.specs.Described.{Described}
use Rattle.slot_plan.specs.Entries.{Entry, entry_holds, first_failing}
use Rattle.slot_plan.specs.Numbered.{numbered}
use Rattle.slot_plan.specs.Planned.{Planned}
use Rattle.slot_plan.specs.Conditions.{entries_from, shape_entries, timing_entries}
use Rattle.plan_checker.specs.Failing.{Search, after, after_failure, after_one, asked_entries, failing, failing_of, fails, is_full, search_of, start}
use Rattle.plan_checker.specs.declared.failure_search.FailureSearch.{FailureSearch}

-- 1. Conditions one after another

pub after_both : (s : Search) (es fs : List Entry) → after s (es ++ fs) ≡ after (after s es) fs
after_both s [] fs = refl
after_both s (e ∷ es) fs = after_both (after_one s e) es fs

pub then_next : (r s t : Search) (es fs : List Entry) → s ≡ after r es → t ≡ after s fs → t ≡ after r (es ++ fs)
then_next r s t es fs e f = f ∙ ap (λ (u : Search). after u fs) e ∙ sym (after_both r es fs)

module _ {A : Type 0} (part : ℕ → A → List Entry) (xs : List A) where
  -- The conditions of the elements from number i on
  abbrev pub from_number : ℕ → List Entry
  from_number i = numbered part i (drop i xs)

  -- The conditions of element number i come first.
  pub from_next : (i : ℕ) (d : A) → i < length xs → from_number i ≡ part i (get_or xs i d) ++ from_number (i + 1)
  from_next i d lt = ap (numbered part i) (drop-cons xs i d lt) ∙ one_on
    where
      one_on : numbered part i (get_or xs i d ∷ drop (suc i) xs) ≡ part i (get_or xs i d) ++ from_number (i + 1)
      one_on = rw (add-one i) refl

-- Some element of a list with more than i elements
element_at : {A : Type 0} (xs : List A) (i : ℕ) → i < length xs → A
element_at [] i lt = absurd (omega arith)
element_at (x ∷ xs) i lt = x

module _ {A : Type 0} (part : ℕ → A → List Entry) (xs : List A) where
  -- One step of a loop over the numbers of a list
  pub goes_on : (i : ℕ) (whole s t : Search) → whole ≡ after s (from_number part xs i) → i < length xs →
      ((x : A) → slice_get xs i ≡ Some x → t ≡ after s (part i x)) → whole ≡ after t (from_number part xs (i + 1))
  goes_on i whole s t e lt next = let d : A = element_at xs i lt in
      e ∙ ap (after s) (from_next part xs i d lt) ∙ after_both s (part i (get_or xs i d)) (from_number part xs (i + 1))
      ∙ ap (λ (u : Search). after u (from_number part xs (i + 1))) (sym (next (get_or xs i d) (slice_get-get_or xs i d lt)))

  -- The end of the loop
  pub all_gone : (i : ℕ) (whole s : Search) → whole ≡ after s (from_number part xs i) → length xs ≤ i → s ≡ whole
  all_gone i whole s e le = sym (e ∙ ap (λ (ys : List A). after s (numbered part i ys)) (drop_all i xs le))

-- Two ways to find the element at a number give equal elements.
pub the_item : {A : Type 0} (xs : List A) (i : ℕ) (x y : A) → slice_get xs i ≡ Some x → y ≡ get_or xs i y → y ≡ x
the_item {A = A} xs i x y at is = is ∙ sym (unwrap_or-slice_get xs i y) ∙ ap (λ (o : Option A). unwrap_or o y) at

-- In the conditions on one, two, up to n units in a row, the condition on i + 1 units comes before the later conditions.
counting_next : (f : ℕ → Entry) (i n : ℕ) → i < n → entries_from f (i + 1) (n - i) ≡ f (i + 1) ∷ entries_from f (i + 1 + 1) (n - (i + 1))
counting_next f i n lt = let e : n - i ≡ suc (n - (i + 1)) = omega arith in ap (entries_from f (i + 1)) e ∙ rest
  where
    rest : entries_from f (i + 1) (suc (n - (i + 1))) ≡ f (i + 1) ∷ entries_from f (i + 1 + 1) (n - (i + 1))
    rest = rw (add-one (i + 1)) refl

pub counts_on : (f : ℕ → Entry) (i n : ℕ) (whole s t : Search) → whole ≡ after s (entries_from f (i + 1) (n - i)) → i < n → t ≡ after s (f (i + 1) ∷ []) →
    whole ≡ after t (entries_from f (i + 1 + 1) (n - (i + 1)))
counts_on f i n whole s t e lt next =
    e ∙ ap (after s) (counting_next f i n lt) ∙ ap (λ (u : Search). after u (entries_from f (i + 1 + 1) (n - (i + 1)))) (sym next)

pub counts_done : (f : ℕ → Entry) (i n : ℕ) (whole s : Search) → whole ≡ after s (entries_from f (i + 1) (n - i)) → n ≤ i → s ≡ whole
counts_done f i n whole s e le = let none : n - i ≡ 0 = omega arith in sym (e ∙ ap (λ (k : ℕ). after s (entries_from f (i + 1) k)) none)

-- 2. A search that is full

full_step : (b f : Bool) (s t : Search) → f ≡ true → cond b s (cond f s t) ≡ s
full_step true f s t full = refl
full_step false f s t full = rw full refl

one_stays : (s : Search) (e : Entry) → is_full s ≡ true → after_one s e ≡ s
unfolding after_failure
one_stays s e full = full_step (entry_holds e) (is_full s) s _ full

full_stays : (s : Search) (es : List Entry) → is_full s ≡ true → after s es ≡ s
full_stays s [] full = refl
full_stays s (e ∷ es) full = ap (λ (u : Search). after u es) (one_stays s e full) ∙ full_stays s es full

pub ends_here : (s : FailureSearch) (whole : Search) (es : List Entry) → whole ≡ after (search_of s) es → is_full (search_of s) ≡ true → search_of s ≡ whole
ends_here s whole es e full = sym (e ∙ full_stays (search_of s) es full)

-- The number of conditions that a search may keep never changes.
most_step : (b f z : Bool) (s t u : Search) → t.most ≡ s.most → u.most ≡ s.most → (cond b s (cond f s (cond z t u))).most ≡ s.most
most_step true f z s t u kept passed = refl
most_step false true z s t u kept passed = refl
most_step false false true s t u kept passed = kept
most_step false false false s t u kept passed = passed

most_of_one : (s : Search) (e : Entry) → (after_one s e).most ≡ s.most
unfolding after_failure
most_of_one s e = most_step (entry_holds e) (is_full s) (s.left == 0) s _ _ refl refl

most_stays : (s : Search) (es : List Entry) → (after s es).most ≡ s.most
most_stays s [] = refl
most_stays s (e ∷ es) = most_stays (after_one s e) es ∙ most_of_one s e

-- 3. The conditions that are found

-- The conditions that a search keeps, if it has n conditions left to pass and keeps at most m
abbrev kept_after : (m : ℕ) → List Entry → ℕ → List Entry → List Entry
kept_after m es n kept = (after (record { left = n; most = m; found = kept }) es).found

nothing_from : (n k : ℕ) → take k (drop n (failing_of [])) ≡ []
nothing_from zero zero = refl
nothing_from zero (suc k) = refl
nothing_from (suc n) zero = refl
nothing_from (suc n) (suc k) = refl

module _ (m : ℕ) (e : Entry) (es : List Entry)
    (later : (n : ℕ) (kept : List Entry) → kept_after m es n kept ≡ kept ++ take (m - length kept) (drop n (failing_of es))) where
  -- One more condition is kept.
  one_kept : (kept : List Entry) → length kept < m → kept_after m es 0 (kept ++ e ∷ []) ≡ kept ++ take (m - length kept) (e ∷ failing_of es)
  one_kept kept lt =
      let rest : ℕ = m - length (kept ++ e ∷ []) in
      let room : m - length kept ≡ suc rest = rw (length-append kept (e ∷ [])) (omega arith) in
      later 0 (kept ++ e ∷ []) ∙ append_assoc kept (e ∷ []) (take rest (failing_of es)) ∙ ap (λ (k : ℕ). kept ++ take k (e ∷ failing_of es)) (sym room)

  fails_within : (n : ℕ) (kept : List Entry) → length kept < m →
      (after (cond (n == 0) (record { left = n; most = m; found = kept ++ e ∷ [] }) (record { left = n - 1; most = m; found = kept })) es).found
      ≡ kept ++ take (m - length kept) (drop n (e ∷ failing_of es))
  fails_within zero kept lt = one_kept kept lt
  fails_within (suc n) kept lt =
      let some : (suc n == 0) ≡ false = grind (arith, nat_tests) in
      let one : suc n - 1 ≡ n = omega arith in
      ap (λ (b : Bool).
      (after (cond b (record { left = suc n; most = m; found = kept ++ e ∷ [] }) (record { left = suc n - 1; most = m; found = kept })) es).found) some
      ∙ ap (λ (k : ℕ). kept_after m es k kept) one ∙ later n kept

  fails_step : (f : Bool) (n : ℕ) (kept : List Entry) → nat_le m (length kept) ≡ f →
      (after (cond f (record { left = n; most = m; found = kept })
      (cond (n == 0) (record { left = n; most = m; found = kept ++ e ∷ [] }) (record { left = n - 1; most = m; found = kept }))) es).found
      ≡ kept ++ take (m - length kept) (drop n (e ∷ failing_of es))
  fails_step true n kept full =
      let le : m ≤ length kept = grind (arith, nat_tests) in
      let none : m - length kept ≡ 0 = omega arith in
      ap (λ (u : Search). u.found) (full_stays (record { left = n; most = m; found = kept }) es full) ∙ sym (append-nil kept)
      ∙ ap (λ (k : ℕ). kept ++ take k (drop n (e ∷ failing_of es))) (sym none)
  fails_step false n kept room = let lt : length kept < m = grind (arith, nat_tests) in fails_within n kept lt

  number_step : (b : Bool) (n : ℕ) (kept : List Entry) →
      (after (cond b (record { left = n; most = m; found = kept }) (after_failure (record { left = n; most = m; found = kept }) e)) es).found
      ≡ kept ++ take (m - length kept) (drop n (cond (not b) (e ∷ failing_of es) (failing_of es)))
  unfolding after_failure
  number_step true n kept = later n kept
  number_step false n kept = fails_step (nat_le m (length kept)) n kept refl

found_more : (m : ℕ) (es : List Entry) (n : ℕ) (kept : List Entry) → kept_after m es n kept ≡ kept ++ take (m - length kept) (drop n (failing_of es))
found_more m [] n kept = sym (ap (λ (es : List Entry). kept ++ es) (nothing_from n (m - length kept)) ∙ append-nil kept)
found_more m (e ∷ es) n kept = number_step m e es (found_more m es) (entry_holds e) n kept

pub found_from : (es : List Entry) (n m : ℕ) → (after (start n m) es).found ≡ take m (drop n (failing_of es))
found_from es n m = let all : m - 0 ≡ m = omega arith in found_more m es n [] ∙ ap (λ (k : ℕ). take k (drop n (failing_of es))) all

-- The first failing condition is the condition that refuses the plan.
first_step : (b : Bool) (e : Entry) (es : List Entry) → slice_get (failing_of es) 0 ≡ first_failing es →
    slice_get (cond (not b) (e ∷ failing_of es) (failing_of es)) 0 ≡ cond b (first_failing es) (Some e)
first_step true e es same = same
first_step false e es same = refl

pub first_is : (es : List Entry) → slice_get (failing_of es) 0 ≡ first_failing es
first_is [] = refl
first_is (e ∷ es) = first_step (entry_holds e) e es (first_is es)

-- A search for one condition

one_of : (es : List Entry) → slice_get (take 1 es) 0 ≡ slice_get es 0
one_of [] = refl
one_of (e ∷ es) = refl

pub found_first : (es : List Entry) → slice_get (after (start 0 1) es).found 0 ≡ first_failing es
found_first es = ap (λ (fs : List Entry). slice_get fs 0) (found_from es 0 1) ∙ one_of (failing_of es) ∙ first_is es

one_or_none : (es : List Entry) → nat_le 1 (length (take 1 es)) ≡ is_some (slice_get es 0)
one_or_none [] = refl
one_or_none (e ∷ es) = refl

pub done_if_one_fails : (es : List Entry) → is_full (after (start 0 1) es) ≡ is_some (first_failing es)
done_if_one_fails es =
    ap (λ (m : ℕ). nat_le m (length (after (start 0 1) es).found)) (most_stays (start 0 1) es)
    ∙ ap (λ (fs : List Entry). nat_le 1 (length fs)) (found_from es 0 1) ∙ one_or_none (failing_of es) ∙ ap is_some (first_is es)

-- 4. The shape, and the timing after it

pub is_missing : (o : Option Entry) → is_none o ≡ true → o ≡ None
is_missing None none = refl
is_missing (Some e) none = absurd cc

pub none_is : (o : Option Entry) → not (is_some o) ≡ is_none o
none_is None = refl
none_is (Some e) = refl

none_step : (b : Bool) (e : Entry) (es : List Entry) → cond b (first_failing es) (Some e) ≡ None → (first_failing es ≡ None → failing_of es ≡ []) →
    cond (not b) (e ∷ failing_of es) (failing_of es) ≡ []
none_step true e es none later = later none
none_step false e es none later = absurd cc

none_fails : (es : List Entry) → first_failing es ≡ None → failing_of es ≡ []
none_fails [] none = refl
none_fails (e ∷ es) none = none_step (entry_holds e) e es none (none_fails es)

asked_step : (b : Bool) (shape timing : List Entry) → (b ≡ true → failing_of shape ≡ []) →
    failing_of (cond b timing shape) ≡ failing_of (cond b (shape ++ timing) shape)
asked_step true shape timing none = sym (filter-append fails shape timing ∙ ap (λ (es : List Entry). es ++ failing_of timing) (none refl))
asked_step false shape timing none = refl

pub asked_fail : (d : Described) (p : Planned) → failing_of (asked_entries d p) ≡ failing d p
asked_fail d p =
    asked_step (is_none (first_failing (shape_entries d p))) (shape_entries d p) (timing_entries d p)
    (λ none. none_fails (shape_entries d p) (is_missing (first_failing (shape_entries d p)) none))

-- 5. Conditions that hold before further conditions

held_step : (b : Bool) (e : Entry) (es fs : List Entry) → cond b (first_failing es) (Some e) ≡ None →
    (first_failing es ≡ None → first_failing (es ++ fs) ≡ first_failing fs) → cond b (first_failing (es ++ fs)) (Some e) ≡ first_failing fs
held_step true e es fs none later = later none
held_step false e es fs none later = absurd cc

failing_after : (es fs : List Entry) → first_failing es ≡ None → first_failing (es ++ fs) ≡ first_failing fs
failing_after [] fs none = refl
failing_after (e ∷ es) fs none = held_step (entry_holds e) e es fs none (failing_after es fs)

pub then_after : (xs ys : List Entry) (r : Option Entry) → None ≡ first_failing xs → r ≡ first_failing ys → r ≡ first_failing (xs ++ ys)
then_after xs ys r none e = e ∙ sym (failing_after xs ys (sym none))
