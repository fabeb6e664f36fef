-- Numbers that are found by halving
use Rattle.std.proofs.Common.{◌≡◌, ℕ, zero, suc, ◌+◌, ◌-◌, ◌*◌, ◌/◌, ◌^◌, ◌<◌, ◌≤◌, Bool, true, false, Option, Some, None, nat_lt, refl, sym, ◌∙◌, ap, subst}
use Rattle.std.proofs.Common.{arith}
use Rattle.std.specs.Prelude.{if◌then◌else◌}
use Rattle.std.proofs.Math.Nat.{div-div-eq-div-mul}
use Rattle.std.proofs.lemmas.Bool.Decides.{nat_tests}
use Rattle.stream_choice.specs.Paces.{first_half, halved}

twice : (n : ℕ) → 2 ^ suc n ≡ 2 * 2 ^ n
twice n = omega arith

some_power : (n : ℕ) → 1 ≤ 2 ^ n
some_power zero = omega arith
some_power (suc n) = omega (arith, some_power n, twice n)

-- The first number that passes

pub half_passes : (n : ℕ) (f : ℕ → Bool) (p q : ℕ) → first_half n f p ≡ Some q → (f q ≡ true) × (q ≤ p)
unfolding first_half
half_passes zero f p q e = absurd (nothing e)
  where
    nothing : ◌≡◌ {A = Option ℕ} None (Some q) → ⊥
    nothing e = cc
half_passes (suc n) f p q e = step (f p) refl e (λ later. half_passes n f (p / 2) q later)
  where
    same : (x y : ℕ) → Some x ≡ Some y → x ≡ y
    same x y e = cc

    step : (b : Bool) → f p ≡ b → ◌≡◌ {A = Option ℕ} (if b then Some p else first_half n f (p / 2)) (Some q) →
        (first_half n f (p / 2) ≡ Some q → (f q ≡ true) × (q ≤ p / 2)) → (f q ≡ true) × (q ≤ p)
    step true is e rest = (subst (λ (x : ℕ). f x ≡ true) (same p q e) is, omega (arith, same p q e))
    step false is e rest = let later = rest e in (later.0, omega (arith, later.1))

pub none_passes : (n : ℕ) (f : ℕ → Bool) (p : ℕ) → first_half n f p ≡ None → (k : ℕ) → k < n → f (p / 2 ^ k) ≡ false
unfolding first_half
none_passes zero f p e k lt = absurd (omega (arith, lt))
none_passes (suc n) f p e k lt = step (f p) refl e (λ rest k lt. none_passes n f (p / 2) rest k lt)
  where
    something : (x : ℕ) → ◌≡◌ {A = Option ℕ} (Some x) None → ⊥
    something x e = cc

    at : (k : ℕ) → k < suc n → f p ≡ false → ((k : ℕ) → k < n → f (p / 2 / 2 ^ k) ≡ false) → f (p / 2 ^ k) ≡ false
    at zero lt is rest = subst (λ (x : ℕ). f x ≡ false) whole is
      where
        whole : p ≡ p / 2 ^ 0
        whole = omega arith
    at (suc k) lt is rest = subst (λ (x : ℕ). f x ≡ false) (div-div-eq-div-mul p 2 (2 ^ k) ∙ ap (λ (x : ℕ). p / x) (sym (twice k))) (rest k (omega (arith, lt)))

    step : (b : Bool) → f p ≡ b → ◌≡◌ {A = Option ℕ} (if b then Some p else first_half n f (p / 2)) None →
        (first_half n f (p / 2) ≡ None → (k : ℕ) → k < n → f (p / 2 / 2 ^ k) ≡ false) → f (p / 2 ^ k) ≡ false
    step true is e rest = absurd (something p e)
    step false is e rest = at k lt is (rest e)

-- An edge between a number that fails and a number that passes

-- The number p passes, and the number below it fails.
pub record Edge (f : ℕ → Bool) (low high p : ℕ) : Type 0 where
  pub passes : f p ≡ true
  pub fails : f (p - 1) ≡ false
  pub above : low < p
  pub most : p ≤ high

widened : (f : ℕ → Bool) (low high low' high' p : ℕ) → low' ≤ low → high ≤ high' → Edge f low high p → Edge f low' high' p
widened f low high low' high' p le ge e = record { passes = e.passes; fails = e.fails; above = omega (arith, le, e.above); most = omega (arith, ge, e.most) }

pub edge : (n : ℕ) (f : ℕ → Bool) (low high : ℕ) → f low ≡ false → f high ≡ true → low < high → high ≤ low + 2 ^ n → Edge f low high (halved n f low high)
unfolding halved
edge zero f low high fails passes lt few = record {
  passes = passes;
  fails = subst (λ (x : ℕ). f x ≡ false) below fails;
  above = lt;
  most = omega arith;
}
  where
    below : low ≡ high - 1
    below = omega (arith, lt, few)
edge (suc n) f low high fails passes lt few =
    step (nat_lt (low + 1) high) refl
    (λ is wide. widened f low middle low high (halved n f low middle) (omega arith) (omega (arith, wide))
    (edge n f low middle fails is (omega (arith, wide)) (omega (arith, few, twice n))))
    (λ is wide. widened f middle high low high (halved n f middle high) (omega (arith, wide)) (omega arith)
    (edge n f middle high is passes (omega (arith, wide)) (omega (arith, few, twice n))))
    (λ narrow. edge n f low high fails passes lt (omega (arith, narrow, some_power n)))
  where
    middle : ℕ
    middle = (low + high) / 2

    wide_of : (a b : ℕ) → nat_lt a b ≡ true → a < b
    wide_of a b e = grind (arith, nat_tests)

    narrow_of : (a b : ℕ) → nat_lt a b ≡ false → b ≤ a
    narrow_of a b e = grind (arith, nat_tests)

    half : (b : Bool) → f middle ≡ b → (f middle ≡ true → Edge f low high (halved n f low middle)) →
        (f middle ≡ false → Edge f low high (halved n f middle high)) →
        Edge f low high (if b then halved n f low middle else halved n f middle high)
    half true is below above = below is
    half false is below above = above is

    step : (b : Bool) → nat_lt (low + 1) high ≡ b → (f middle ≡ true → low + 1 < high → Edge f low high (halved n f low middle)) →
        (f middle ≡ false → low + 1 < high → Edge f low high (halved n f middle high)) → (high ≤ low + 1 → Edge f low high (halved n f low high)) →
        Edge f low high
        (if b then (if f ((low + high) / 2) then halved n f low ((low + high) / 2) else halved n f ((low + high) / 2) high) else halved n f low high)
    step true e below above here = let wide = wide_of (low + 1) high e in half (f middle) refl (λ is. below is wide) (λ is. above is wide)
    step false e below above here = here (narrow_of (low + 1) high e)

-- The search step by step, of n steps

half_next : (n : ℕ) (f : ℕ → Bool) (p : ℕ) → first_half (suc n) f p ≡ (if f p then Some p else first_half n f (p / 2))
unfolding first_half
half_next n f p = refl

halved_next : (n : ℕ) (f : ℕ → Bool) (low high : ℕ) →
    halved (suc n) f low high ≡
    (if nat_lt (low + 1) high then (if f ((low + high) / 2) then halved n f low ((low + high) / 2) else halved n f ((low + high) / 2) high) else halved n f
    low high)
unfolding halved
halved_next n f low high = refl

one_less : (n done : ℕ) → done < n → n - done ≡ suc (n - (done + 1))
one_less n done lt = omega (arith, lt)

none_left : (n done : ℕ) → n ≤ done → n - done ≡ 0
none_left n done le = omega (arith, le)

pub half_stops : (n done : ℕ) (f : ℕ → Bool) (p : ℕ) → done < n → f p ≡ true → first_half (n - done) f p ≡ Some p
half_stops n done f p lt passes =
    ap (λ (k : ℕ). first_half k f p) (one_less n done lt) ∙ half_next (n - (done + 1)) f p
    ∙ ap (λ (b : Bool). if b then Some p else first_half (n - (done + 1)) f (p / 2)) passes

pub half_goes_on : (n done : ℕ) (f : ℕ → Bool) (p : ℕ) → done < n → f p ≡ false → first_half (n - done) f p ≡ first_half (n - (done + 1)) f (p / 2)
half_goes_on n done f p lt fails =
    ap (λ (k : ℕ). first_half k f p) (one_less n done lt) ∙ half_next (n - (done + 1)) f p
    ∙ ap (λ (b : Bool). if b then Some p else first_half (n - (done + 1)) f (p / 2)) fails

half_end : (f : ℕ → Bool) (p : ℕ) → first_half 0 f p ≡ None
unfolding first_half
half_end f p = refl

pub half_ends : (n done : ℕ) (f : ℕ → Bool) (p : ℕ) → n ≤ done → first_half (n - done) f p ≡ None
half_ends n done f p le = ap (λ (k : ℕ). first_half k f p) (none_left n done le) ∙ half_end f p

is_lt : (a b : ℕ) → a < b → nat_lt a b ≡ true
is_lt a b lt = grind (arith, nat_tests)

not_lt : (a b : ℕ) → b ≤ a → nat_lt a b ≡ false
not_lt a b le = grind (arith, nat_tests)

halved_on : (n done : ℕ) (f : ℕ → Bool) (low high : ℕ) → done < n →
    halved (n - done) f low high ≡
    (if nat_lt (low + 1)
    high then (if f ((low + high) / 2) then halved (n - (done + 1)) f low ((low + high) / 2) else halved (n - (done + 1)) f ((low + high) / 2) high)
    else halved (n - (done + 1)) f low high)
halved_on n done f low high lt = ap (λ (k : ℕ). halved k f low high) (one_less n done lt) ∙ halved_next (n - (done + 1)) f low high

pub halved_below : (n done : ℕ) (f : ℕ → Bool) (low high : ℕ) → done < n → low + 1 < high → f ((low + high) / 2) ≡ true →
    halved (n - done) f low high ≡ halved (n - (done + 1)) f low ((low + high) / 2)
halved_below n done f low high lt wide passes = halved_on n done f low high lt ∙ rw (is_lt (low + 1) high wide, passes) refl

pub halved_above : (n done : ℕ) (f : ℕ → Bool) (low high : ℕ) → done < n → low + 1 < high → f ((low + high) / 2) ≡ false →
    halved (n - done) f low high ≡ halved (n - (done + 1)) f ((low + high) / 2) high
halved_above n done f low high lt wide fails = halved_on n done f low high lt ∙ rw (is_lt (low + 1) high wide, fails) refl

pub halved_here : (n done : ℕ) (f : ℕ → Bool) (low high : ℕ) → done < n → high ≤ low + 1 → halved (n - done) f low high ≡ halved (n - (done + 1)) f low high
halved_here n done f low high lt narrow = halved_on n done f low high lt ∙ rw (not_lt (low + 1) high narrow) refl

halved_end : (f : ℕ → Bool) (low high : ℕ) → halved 0 f low high ≡ high
unfolding halved
halved_end f low high = refl

pub halved_ends : (n done : ℕ) (f : ℕ → Bool) (low high : ℕ) → n ≤ done → halved (n - done) f low high ≡ high
halved_ends n done f low high le = ap (λ (k : ℕ). halved k f low high) (none_left n done le) ∙ halved_end f low high
