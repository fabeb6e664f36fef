-- The readers of words and numbers accept exactly the texts of their results.
use Rattle.std.specs.Prelude.{ℕ, ◌+◌, ◌-◌, ◌*◌, ◌/◌, ◌%◌, ◌^◌, ◌<◌, ◌≤◌, ◌==◌, ◌&&◌, true, false, List, [], ◌∷◌, ◌++◌, Option, None, Some, nat_eq, nat_lt}
use Rattle.std.specs.Prelude.{nat_le, length, drop, decimal}
use Rattle.std.proofs.Common.{◌≡◌, refl, ap, sym, ◌∙◌, append_assoc, arith, inl, inr, if◌then◌else◌}
use Rattle.std.specs.List.{starts_with}
use Rattle.std.proofs.lemmas.Bool.{cases_Bool}
use Rattle.std.proofs.lemmas.Bool.Decides.{Decides-eqb, nat_tests}
use Rattle.std.proofs.lemmas.Slice.Eq.{starts_is}
use Rattle.std.proofs.lemmas.Fmt.{decimal_by_steps, decimal_digit, decimal_step}
use Rattle.std.proofs.Math.Seq.{drop-append_seam}
use Rattle.slot_plan.specs.Words.{number_limit, field, after_word, more_digits, number_before, field_at, after_number, ◌>>=◌}

-- A reader accepts exactly the texts of its results, followed by any text.
pub record Exact {A : Type 0} (read : List ℕ → Option (A × List ℕ)) (text : A → List ℕ) (Valid : A → Type 0) : Type 0 where
  pub sound : (xs : List ℕ) (x : A) (rest : List ℕ) → read xs ≡ Some (x, rest) → Valid x × (xs ≡ text x ++ rest)
  pub complete : (x : A) (rest : List ℕ) → Valid x → read (text x ++ rest) ≡ Some (x, rest)

-- The reader of a word
pub word-complete : (word rest : List ℕ) → after_word word (word ++ rest) ≡ Some rest
word-complete word rest =
    let begins : starts_with nat_eq (word ++ rest) word ≡ true = (starts_is Decides-eqb (word ++ rest) word _ refl).1 rest refl in
    rw (begins, drop-append_seam) refl

pub word-sound : (word xs rest : List ℕ) → after_word word xs ≡ Some rest → xs ≡ word ++ rest
word-sound word xs rest e = elim (cases_Bool (starts_with nat_eq xs word)) [
  | inl begins ↦ (let f : drop (length word) xs ≡ rest = (let h = rw begins at e in cc) in
      (starts_is Decides-eqb xs word _ refl).0 begins ∙ ap (λ t. word ++ t) f)
  | inr other ↦ absurd (let h = rw other at e in cc)
]

pub some_same : {X : Type 0} (x y : X) → Some x ≡ Some y → x ≡ y
some_same x y e = cc

-- One more digit
digit-more : (n b : ℕ) → 0 < n → 48 ≤ b → b ≤ 57 → n * 10 + (b - 48) < 10 ^ 18 → decimal (n * 10 + (b - 48)) ≡ decimal n ++ b ∷ []
digit-more n b some low high fits =
    let step = decimal_step (n * 10 + (b - 48)) (omega arith) (omega arith) in
    let q : (n * 10 + (b - 48)) / 10 ≡ n = omega arith in
    let r : 48 + (n * 10 + (b - 48)) % 10 ≡ b = omega arith in
    rw (q, r) at step

-- The digits of a number, and its ending
on-sound : (ending limit n : ℕ) (xs : List ℕ) (m : ℕ) (rest : List ℕ) → limit ≤ 10 ^ 18 → n < limit → more_digits ending limit n xs ≡ Some (m, rest) →
    (m < limit) × (decimal n ++ xs ≡ decimal m ++ ending ∷ rest)
on-sound ending limit n [] m rest small below e = absurd (cc)
on-sound ending limit n (b ∷ bs) m rest small below e = elim (cases_Bool (nat_le 48 b && nat_le b 57)) [
  | inl digit ↦ elim (cases_Bool (nat_lt 0 n && nat_lt (n * 10 + (b - 48)) limit)) [
    | inl more ↦ (let h = rw (digit, more) at e in
        let d : (48 ≤ b) × (b ≤ 57) = grind (arith, nat_tests) in
        let f : (0 < n) × (n * 10 + (b - 48) < limit) = grind (arith, nat_tests) in
        let rest_read = on-sound ending limit (n * 10 + (b - 48)) bs m rest small f.1 h in
        let one : decimal n ++ b ∷ bs ≡ (decimal n ++ b ∷ []) ++ bs = sym (append_assoc (decimal n) (b ∷ []) bs) in
        (rest_read.0, one ∙ ap (λ t. t ++ bs) (sym (digit-more n b f.0 d.0 d.1 (omega arith))) ∙ rest_read.1))
    | inr bad ↦ absurd (let h = rw (digit, bad) at e in cc)
  ]
  | inr other ↦ elim (cases_Bool (b == ending)) [
    | inl ends ↦ (let h = rw (other, ends) at e in
        let same : b ≡ ending = grind (arith, nat_tests) in
        let number : n ≡ m = ap (λ (p : ℕ × List ℕ). p.0) (some_same (n, bs) (m, rest) h) in
        let tail : bs ≡ rest = ap (λ (p : ℕ × List ℕ). p.1) (some_same (n, bs) (m, rest) h) in
        (rw (← number) below, rw (number, same, tail) refl))
    | inr bad ↦ absurd (let h = rw (other, bad) at e in cc)
  ]
]

-- A number is read from its first digits on.
on-complete : (ending limit n : ℕ) → limit ≤ 10 ^ 18 → ending < 48 → n < limit → (rest : List ℕ) →
    number_before ending limit (decimal n ++ ending ∷ rest) ≡ more_digits ending limit n (ending ∷ rest)
on-complete ending limit n small ends below rest = decimal_by_steps
    (λ m ds. (ys : List ℕ) → m < limit → number_before ending limit (ds ++ ys) ≡ more_digits ending limit m ys)
    (λ m one ys fits.
    let t : nat_le 48 (48 + m) && nat_le (48 + m) 57 && nat_lt (48 + m - 48) limit ≡ true = grind (arith, nat_tests) in
    let v : 48 + m - 48 ≡ m = omega arith in rw (t, v) refl)
    (λ m ds ten ih ys fits.
    let t : nat_le 48 (48 + m % 10) && nat_le (48 + m % 10) 57 ≡ true = grind (arith, nat_tests) in
    let v : m / 10 * 10 + (48 + m % 10 - 48) ≡ m = omega arith in
    let u : nat_lt 0 (m / 10) && nat_lt m limit ≡ true = grind (arith, nat_tests) in
    rw (append_assoc, ih ((48 + m % 10) ∷ ys) (omega arith), t, v, u) refl)
    n (omega arith) (ending ∷ rest) below

pub number-exact : (ending limit : ℕ) → limit ≤ 10 ^ 18 → ending < 48 →
    Exact (number_before ending limit) (λ n. decimal n ++ ending ∷ []) (λ n. n < limit)
number-exact ending limit small ends = record {
  sound = sound;
  complete = complete;
}
  where
    complete : (n : ℕ) (rest : List ℕ) → n < limit → number_before ending limit ((decimal n ++ ending ∷ []) ++ rest) ≡ Some (n, rest)
    complete n rest below =
        let other : nat_le 48 ending && nat_le ending 57 ≡ false = grind (arith, nat_tests) in
        let same : (ending == ending) ≡ true = grind (arith, nat_tests) in
        rw (append_assoc, on-complete ending limit n small ends below rest, other, same) refl

    sound : (xs : List ℕ) (n : ℕ) (rest : List ℕ) → number_before ending limit xs ≡ Some (n, rest) → (n < limit) × (xs ≡ (decimal n ++ ending ∷ []) ++ rest)
    sound [] n rest e = absurd (cc)
    sound (b ∷ bs) n rest e = elim (cases_Bool (nat_le 48 b && nat_le b 57 && nat_lt (b - 48) limit)) [
      | inl digit ↦ (let h = rw digit at e in
          let d : (48 ≤ b) × (b ≤ 57) × (b - 48 < limit) = grind (arith, nat_tests) in
          let all = on-sound ending limit (b - 48) bs n rest small d.2 h in
          let one : decimal (b - 48) ≡ b ∷ [] = (let v : 48 + (b - 48) ≡ b = omega arith in rw v at (decimal_digit (b - 48) (omega arith))) in
          (all.0, (rw one at all.1) ∙ sym (append_assoc (decimal n) (ending ∷ []) rest)))
      | inr other ↦ absurd (let h = rw other at e in cc)
    ]

-- A reader that follows another reader
pub then-some : {A B : Type 0} (o : Option A) (f : A → Option B) (x : A) → o ≡ Some x → (o >>= f) ≡ f x
then-some o f x e = rw e refl

pub then-read : {A B : Type 0} (o : Option A) (f : A → Option B) (y : B) → (o >>= f) ≡ Some y → (x : A) × (o ≡ Some x) × (f x ≡ Some y)
then-read None f y e = absurd (cc)
then-read (Some x) f y e = (x, refl, e)

-- The reader of a word, a number and its ending
pub field-exact : (word : List ℕ) (ending : ℕ) → ending < 48 → Exact (field_at word ending) (λ n. field word n ending) (λ n. n < number_limit)
field-exact word ending ends = record { sound = sound; complete = complete }
  where
    numbers : Exact (number_before ending number_limit) (λ n. decimal n ++ ending ∷ []) (λ n. n < number_limit)
    numbers = number-exact ending number_limit (omega arith) ends

    complete : (n : ℕ) (rest : List ℕ) → n < number_limit → field_at word ending (field word n ending ++ rest) ≡ Some (n, rest)
    complete n rest below =
        rw (append_assoc word (decimal n) (ending ∷ []), append_assoc word (decimal n ++ ending ∷ []) rest)
        (then-some _ (number_before ending number_limit) _ (word-complete word ((decimal n ++ ending ∷ []) ++ rest)) ∙ numbers.complete n rest below)

    sound : (xs : List ℕ) (n : ℕ) (rest : List ℕ) → field_at word ending xs ≡ Some (n, rest) → (n < number_limit) × (xs ≡ field word n ending ++ rest)
    sound xs n rest e =
        let w = then-read (after_word word xs) (number_before ending number_limit) (n, rest) e in
        let v = numbers.sound w.0 n rest w.2 in (
          v.0,
          word-sound word xs w.0 w.1 ∙ ap (λ t. word ++ t) v.1 ∙ sym (append_assoc word (decimal n ++ ending ∷ []) rest)
              ∙ ap (λ t. t ++ rest) (sym (append_assoc word (decimal n) (ending ∷ []))),
        )

-- The reader of a word and one number
pub after-complete : (word : List ℕ) (k : ℕ) (rest : List ℕ) → k < number_limit → after_number word k (field word k 32 ++ rest) ≡ Some rest
after-complete word k rest below =
    let same : (k == k) ≡ true = grind (arith, nat_tests) in
    then-some _ (λ (n : ℕ × List ℕ). if n.0 == k then Some n.1 else None) (k, rest) ((field-exact word 32 (omega arith)).complete k rest below) ∙ (rw same refl)

pub after-sound : (word : List ℕ) (k : ℕ) (xs rest : List ℕ) → after_number word k xs ≡ Some rest → xs ≡ field word k 32 ++ rest
after-sound word k xs rest e =
    let w = then-read (field_at word 32 xs) (λ (n : ℕ × List ℕ). if n.0 == k then Some n.1 else None) rest e in
    let v = (field-exact word 32 (omega arith)).sound xs w.0.0 w.0.1 w.1 in
    elim (cases_Bool (w.0.0 == k)) [
      | inl same ↦ (let number : w.0.0 ≡ k = grind (arith, nat_tests) in
          let tail : w.0.1 ≡ rest = some_same w.0.1 rest (rw same at w.2) in
          rw (number, tail) at v.1)
      | inr other ↦ absurd (let h = rw other at w.2 in cc)
    ]
