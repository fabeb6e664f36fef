-- Elements that were exchanged up to a place.
use Rattle.std.proofs.Common.{◌≡◌, ◌≢◌, ℕ, suc, ◌+◌, ◌<◌, ◌≤◌, slice_get, get_or, set, length, nat_lt, cond, Bool, List, [], ◌∷◌, ◌++◌, take, length-take, take_all, option_map, Option, Some, None, refl, sym, ap, ◌∙◌, arith, inl, inr}
use Rattle.std.specs.Option.{option_or}
use Rattle.std.proofs.lemmas.Bool.{cases_eq, cases_lt, lt-ltb, le-ltb}
use Rattle.std.proofs.lemmas.List.{length-set, get_or_past}
use Rattle.std.proofs.lemmas.Option.{slice_get-get_or, slice_get_past, slice_get_within}
use Rattle.circular_buffer.proofs.Places.{slice_get-set_same, slice_get-set_other, slice_get-last, slice_get-push, slice_get-take}
use Rattle.mux_core.specs.Exchanges.{taken_by, exchanged, IsOnce, IsEach, AreTaken}

over : (j k : ℕ) → k ≤ j → j ≢ k → k + 1 ≤ j
over j k le ne = elim (cases_lt k j) [ inl lt ↦ omega (arith, lt) | inr ge ↦ let e : j ≡ k = omega (arith, ge, le) in absurd (ne e) ]

pub record Exchanging {X : Type 0} (numbers : List (Option ℕ)) (to0 from0 : List X) (k : ℕ) (to from : List X) : Type 0 where
  pub size : length to ≡ length to0
  pub done : (j : ℕ) → slice_get to j ≡ cond (nat_lt j k) (exchanged to0 from0 numbers j) (slice_get to0 j)
  pub left : (i : ℕ) → ((j : ℕ) → j < k → slice_get numbers j ≡ Some (Some i) → ⊥) → slice_get from i ≡ slice_get from0 i

module _ {X : Type 0} (numbers : List (Option ℕ)) (to0 from0 : List X) where
  pub none_yet : Exchanging numbers to0 from0 0 to0 from0
  none_yet = record {
    size = refl;
    done = λ j. sym (ap (λ (b : Bool). cond b (exchanged to0 from0 numbers j) (slice_get to0 j)) (le-ltb j 0 (omega arith)));
    left = λ i free. refl;
  }

  -- what is done up to a place, and one more
  later : (k j : ℕ) → j ≢ k → nat_lt j (k + 1) ≡ nat_lt j k
  later k j ne = elim (cases_lt j k) [
    | inl lt ↦ lt-ltb j (k + 1) (omega (arith, lt)) ∙ sym (lt-ltb j k lt)
    | inr le ↦ elim (cases_eq j k) [
      | inl e ↦ absurd (ne e)
      | inr other ↦ le-ltb j (k + 1) (over j k le other) ∙ sym (le-ltb j k le)
    ]
  ]

  here : (k : ℕ) (to from : List X) → Exchanging numbers to0 from0 k to from → slice_get to k ≡ slice_get to0 k
  here k to from h = h.done k ∙ ap (λ (b : Bool). cond b (exchanged to0 from0 numbers k) (slice_get to0 k)) (le-ltb k k (omega arith))

  now : (k : ℕ) → cond (nat_lt k (k + 1)) (exchanged to0 from0 numbers k) (slice_get to0 k) ≡ exchanged to0 from0 numbers k
  now k = ap (λ (b : Bool). cond b (exchanged to0 from0 numbers k) (slice_get to0 k)) (lt-ltb k (k + 1) (omega arith))

  abbrev by_number : ℕ → Option (Option ℕ) → Option X
  by_number k o = elim o [ None ↦ slice_get to0 k | Some number ↦ taken_by to0 from0 k number ]

  -- an element without a number
  pub one_stays : (k : ℕ) (to from : List X) → slice_get numbers k ≡ Some None → Exchanging numbers to0 from0 k to from →
      Exchanging numbers to0 from0 (k + 1) to from
  one_stays k to from none h = record {
    size = h.size;
    done = λ j. elim (cases_eq j k) [
      | inl e ↦ rw e (here k to from h ∙ sym (ap (by_number k) none) ∙ sym (now k))
      | inr ne ↦ h.done j ∙ sym (ap (λ (b : Bool). cond b (exchanged to0 from0 numbers j) (slice_get to0 j)) (later k j ne))
    ];
    left = λ i free. h.left i (λ j lt is. free j (omega (arith, lt)) is);
  }

  -- an element with a number
  taken : (from : List X) (i : ℕ) (x : X) → option_or (slice_get from i) (Some x) ≡ Some (get_or from i x)
  taken from i x = elim (cases_lt i (length from)) [
    | inl lt ↦ ap (λ (o : Option X). option_or o (Some x)) (slice_get-get_or from i x lt)
    | inr le ↦ ap (λ (o : Option X). option_or o (Some x)) (slice_get_past from i le) ∙ sym (ap Some (get_or_past from i x le))
  ]

  pub one_moves : (k i : ℕ) (x : X) (to from : List X) → IsOnce numbers → slice_get numbers k ≡ Some (Some i) → k < length to → x ≡ get_or to k x →
      Exchanging numbers to0 from0 k to from → Exchanging numbers to0 from0 (k + 1) (set to k (get_or from i x)) (set from i x)
  one_moves k i x to from once is lt at h = record {
    size = length-set to k (get_or from i x) ∙ h.size;
    done = λ j. elim (cases_eq j k) [
      | inl e ↦ rw e (moved ∙ sym (now k))
      | inr ne ↦ slice_get-set_other to k j (get_or from i x) ne ∙ h.done j
          ∙ sym (ap (λ (b : Bool). cond b (exchanged to0 from0 numbers j) (slice_get to0 j)) (later k j ne))
    ];
    left = λ n free. elim (cases_eq n i) [
      | inl e ↦ absurd (free k (omega arith) (is ∙ ap (λ (m : ℕ). Some (Some m)) (sym e)))
      | inr ne ↦ slice_get-set_other from i n x ne ∙ h.left n (λ j less at. free j (omega (arith, less)) at)
    ];
  }
    where
      still : slice_get from i ≡ slice_get from0 i
      still = h.left i (λ j less at. let same : j ≡ k = once j k i at is in absurd (omega (arith, less, same)))

      there : slice_get to0 k ≡ Some x
      there = sym (here k to from h) ∙ slice_get-get_or to k x lt ∙ ap Some (sym at)

      moved : slice_get (set to k (get_or from i x)) k ≡ exchanged to0 from0 numbers k
      moved =
          slice_get-set_same to k (get_or from i x) lt ∙ sym (taken from i x)
          ∙ ap (λ (o : Option X). option_or o (Some x)) still
          ∙ ap (λ (o : Option X). option_or (slice_get from0 i) o) (sym there)
          ∙ sym (ap (by_number k) is)

  pub all_moved : (k : ℕ) (to from : List X) → length numbers ≤ k → Exchanging numbers to0 from0 k to from → (j : ℕ) →
      slice_get to j ≡ exchanged to0 from0 numbers j
  all_moved k to from le h j = elim (cases_lt j k) [
    | inl lt ↦ h.done j ∙ ap (λ (b : Bool). cond b (exchanged to0 from0 numbers j) (slice_get to0 j)) (lt-ltb j k lt)
    | inr ge ↦ h.done j ∙ ap (λ (b : Bool). cond b (exchanged to0 from0 numbers j) (slice_get to0 j)) (le-ltb j k ge)
        ∙ sym (ap (by_number j) (slice_get_past numbers j (omega (arith, le, ge))))
  ]

-- What a function of each element says, the numbers that it gives say.

pub all_taken : {X Y : Type 0} (before : ℕ → Y → Option ℕ) (ys : List Y) (numbers : List (Option ℕ)) (to from xs : List X) → IsEach before ys numbers →
    ((k : ℕ) → slice_get xs k ≡ exchanged to from numbers k) → AreTaken before ys to from xs
all_taken {X = X} {Y = Y} before ys numbers to from xs each is k =
    is k ∙ ap (λ (o : Option (Option ℕ)). elim o [ None ↦ slice_get to k | Some number ↦ taken_by to from k number ]) (each k)
    ∙ by (slice_get ys k)
  where
    by : (o : Option Y) → ◌≡◌ {A = Option X}
        (elim (option_map (before k) o) [ None ↦ slice_get to k | Some number ↦ taken_by to from k number ])
        (elim o [ None ↦ slice_get to k | Some y ↦ taken_by to from k (before k y) ])
    by None = refl
    by (Some y) = refl

pub each_length : {X Y : Type 0} (f : ℕ → Y → X) (ys : List Y) (xs : List X) → IsEach f ys xs → length xs ≡ length ys
each_length f [] [] each = refl
each_length f [] (x ∷ xs) each = let none : Some x ≡ None = each 0 in absurd (cc)
each_length f (y ∷ ys) [] each = let some : None ≡ Some (f 0 y) = each 0 in absurd (cc)
each_length f (y ∷ ys) (x ∷ xs) each = ap suc (each_length (λ k. f (suc k)) ys xs (λ k. each (suc k)))

-- Numbers that a function gives once
pub once_each : {Y : Type 0} (before : ℕ → Y → Option ℕ) (ys : List Y) (numbers : List (Option ℕ)) → IsEach before ys numbers →
    ((j k i : ℕ) (x y : Y) → before j x ≡ Some i → before k y ≡ Some i → j ≡ k) → IsOnce numbers
once_each {Y = Y} before ys numbers each law j k i first second = by (slice_get ys j) (slice_get ys k) (sym (each j) ∙ first) (sym (each k) ∙ second)
  where
    by : (o p : Option Y) → option_map (before j) o ≡ Some (Some i) → option_map (before k) p ≡ Some (Some i) → j ≡ k
    by (Some x) (Some y) a b = law j k i x y (cc) (cc)
    by None p a b = absurd (cc)
    by (Some x) None a b = absurd (cc)

-- One more

pub each_count : {X Y : Type 0} (f : ℕ → Y → X) (ys : List Y) (xs : List X) (n : ℕ) → n ≤ length ys → IsEach f (take n ys) xs → length xs ≡ n
each_count f ys xs n le each = each_length f (take n ys) xs each ∙ length-take n ys ∙ omega (arith, le)

pub none_each : {X Y : Type 0} (f : ℕ → Y → X) (ys : List Y) → IsEach f (take 0 ys) []
none_each f ys k = refl

pub one_each : {X Y : Type 0} (f : ℕ → Y → X) (ys : List Y) (xs : List X) (n : ℕ) (y : Y) (x : X) → IsEach f (take n ys) xs → slice_get ys n ≡ Some y →
    x ≡ f n y → IsEach f (take (n + 1) ys) (xs ++ (x ∷ []))
one_each f ys xs n y x each is at k =
    let within : n < length ys = slice_get_within ys n y is in
    let size : length xs ≡ n = each_length f (take n ys) xs each ∙ length-take n ys ∙ omega (arith, within) in
    elim (cases_eq k n) [
      | inl e ↦ rw e (slice_get-last xs x n (sym size) ∙ ap Some at
          ∙ sym (ap (option_map (f n)) (slice_get-take (n + 1) ys n (omega arith) ∙ is)))
      | inr ne ↦ slice_get-push xs x k (λ e. ne (e ∙ size)) ∙ each k ∙ sym (ap (option_map (f k)) (before k ne))
    ]
  where
    before : (k : ℕ) → k ≢ n → slice_get (take (n + 1) ys) k ≡ slice_get (take n ys) k
    before k ne = elim (cases_lt k n) [
      | inl lt ↦ slice_get-take (n + 1) ys k (omega (arith, lt)) ∙ sym (slice_get-take n ys k lt)
      | inr le ↦ slice_get_past (take (n + 1) ys) k (omega (arith, length-take (n + 1) ys, over k n le ne))
          ∙ sym (slice_get_past (take n ys) k (omega (arith, length-take n ys, le)))
    ]

pub each_at_end : {X Y : Type 0} (f : ℕ → Y → X) (ys : List Y) (xs : List X) (n : ℕ) → length ys ≤ n → IsEach f (take n ys) xs → IsEach f ys xs
each_at_end f ys xs n le each = rw (sym (take_all n ys le)) each
