-- The least free PID as a function.
use Rattle.std.proofs.Common.{◌≡◌, ◌≤◌, ◌<◌, ℕ, zero, suc, ◌+◌, ◌-◌, not, true, false, List, Option, Some, None, refl, sym, subst, ◌∙◌, inl, inr, arith}
use Rattle.std.proofs.Math.Nat.{eq-or-lt_of_le}
use Rattle.std.proofs.lemmas.Bool.{cases_Bool}
use Rattle.std.specs.List.{find, range_with_len}
use Rattle.stream_programs.specs.FreePids.{is_taken, AreTaken, IsLeastFree, least_free}

-- 1. The first of n PIDs that is not taken

abbrev first_free : List ℕ → ℕ → ℕ → Option ℕ
first_free taken from n = find (λ pid. not (is_taken pid taken)) (range_with_len from n)

past : (taken : List ℕ) (from n : ℕ) → is_taken from taken ≡ true → first_free taken from (suc n) ≡ first_free taken (from + 1) n
past taken from n held = rw held refl

here : (taken : List ℕ) (from n : ℕ) → is_taken from taken ≡ false → first_free taken from (suc n) ≡ Some from
here taken from n free = rw free refl

found : (taken : List ℕ) (pid n from : ℕ) → from ≤ pid → pid < from + n → is_taken pid taken ≡ false → AreTaken from pid taken →
    first_free taken from n ≡ Some pid
found taken pid zero from after below free least = absurd (let no : ⊥ = omega (arith, after, below) in no)
found taken pid (suc n) from after below free least = elim (eq-or-lt_of_le after) [
  | inl same ↦ subst (λ (f : ℕ). first_free taken f (suc n) ≡ Some pid) (sym same) (here taken pid n free)
  | inr more ↦ past taken from n (least from (omega arith) more)
      ∙ found taken pid n (from + 1) (omega (arith, more)) (omega (arith, below)) free (λ p a b. least p (omega (arith, a)) b)
]

none : (taken : List ℕ) (n from : ℕ) → AreTaken from (from + n) taken → first_free taken from n ≡ None
none taken zero from all = refl
none taken (suc n) from all = past taken from n (all from (omega arith) (omega arith))
    ∙ none taken n (from + 1) (λ p a b. all p (omega (arith, a)) (omega (arith, b)))

-- The PID is the first of n PIDs that is not taken.
record IsFirst (taken : List ℕ) (from n pid : ℕ) : Type 0 where
  after : from ≤ pid
  below : pid < from + n
  free : is_taken pid taken ≡ false
  least : AreTaken from pid taken

held_too : (taken : List ℕ) (from pid : ℕ) → is_taken from taken ≡ true → AreTaken (from + 1) pid taken → AreTaken from pid taken
held_too taken from pid held more p after below = elim (eq-or-lt_of_le after) [
  | inl same ↦ subst (λ (q : ℕ). is_taken q taken ≡ true) same held
  | inr later ↦ more p (omega (arith, later)) below
]

first_is : (taken : List ℕ) (n from pid : ℕ) → first_free taken from n ≡ Some pid → IsFirst taken from n pid
first_is taken zero from pid is = absurd (let no : ⊥ = cc in no)
first_is taken (suc n) from pid is = elim (cases_Bool (is_taken from taken)) [
  | inl held ↦
      let later = first_is taken n (from + 1) pid (sym (past taken from n held) ∙ is) in
      let after = later.after in
      let below = later.below in
      record { after = omega (arith, after); below = omega (arith, below); free = later.free; least = held_too taken from pid held later.least }
  | inr free ↦
      let own = sym (here taken from n free) ∙ is in
      let same : from ≡ pid = cc in
      subst (λ (p : ℕ). IsFirst taken from (suc n) p) same
      (record { after = omega arith; below = omega arith; free = free; least = λ p after below. absurd (let no : ⊥ = omega (arith, after, below) in no) })
]

-- 2. The relation and the function agree

pub least_is : (from : ℕ) (taken : List ℕ) (pid : ℕ) → IsLeastFree from taken pid → Some pid ≡ least_free from taken
unfolding least_free
least_is from taken pid is = sym (found taken pid (8191 - from) from is.after (omega (arith, is.after, is.below)) is.free is.least)

pub none_is : (from : ℕ) (taken : List ℕ) → AreTaken from 8191 taken → None ≡ least_free from taken
unfolding least_free
none_is from taken all = sym (none taken (8191 - from) from (λ pid after below. all pid after (omega (arith, after, below))))

pub free_is : (from : ℕ) (taken : List ℕ) (pid : ℕ) → least_free from taken ≡ Some pid → IsLeastFree from taken pid
unfolding least_free
free_is from taken pid is =
    let first = first_is taken (8191 - from) from pid is in
    let after = first.after in
    let below = first.below in
    record { after = after; below = omega (arith, after, below); free = first.free; least = first.least }
