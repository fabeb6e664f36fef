-- A queue after a queue that is no slower
use Rattle.std.proofs.Common.{◌≡◌, ℕ, ◌+◌, ◌-◌, ◌≤◌, max, List, [], ◌∷◌, map, refl, arith, cond}
use Rattle.std.proofs.lemmas.Bool.Decides.{nat_tests}
use Rattle.clock27.specs.Departure.{departures}
use Rattle.clock27.specs.Fullness.{is_in_buffer, fullness}
use Rattle.clock27.specs.Laws.{TandemLaw, SecondLaw}

-- p, e and f are the last departures from the first queue, from the second queue, and from the second queue alone.
later : (first second p e f : ℕ) (ts : List ℕ) → first ≤ second → p ≤ f → max e first ≡ f + first →
    departures second e (departures first p ts) ≡ map (λ d. d + first) (departures second f ts)
unfolding departures
later first second p e f [] le pf ef = refl
later first second p e f (t ∷ ts) le pf ef =
    let same : max (max t p + first) e + second ≡ max t f + second + first = omega arith in
    let lower : max t p + first ≤ max t f + second = omega arith in
    let higher : max (max t f + second + first) first ≡ max t f + second + first = omega arith in
    let rest = later first second (max t p + first) (max t f + second + first) (max t f + second) ts le lower higher in
    rw (same, rest) refl

pub tandem_law : TandemLaw
tandem_law first second ts le =
    let nothing : 0 ≤ 0 = omega arith in
    let start : max 0 first ≡ 0 + first = omega arith in
    later first second 0 0 0 ts le nothing start

-- A byte that is in the second queue at x would, without the first queue, be in it at x - first.
one_earlier : (x first prev t f : ℕ) →
    (let n : ℕ = cond (is_in_buffer x (max t prev + first) (f + first)) 1 0 in n) ≤ (let n : ℕ = cond (is_in_buffer (x - first) t f) 1 0 in n)
one_earlier x first prev t f = grind (arith, nat_tests)

fullness_earlier : (x first prev : ℕ) (ts fs : List ℕ) →
    fullness x (departures first prev ts) (map (λ d. d + first) fs) ≤ fullness (x - first) ts fs
unfolding departures fullness
fullness_earlier x first prev [] fs = omega arith
fullness_earlier x first prev (t ∷ ts) [] = omega arith
fullness_earlier x first prev (t ∷ ts) (f ∷ fs) = omega (arith, one_earlier x first prev t f, fullness_earlier x first (max t prev + first) ts fs)

pub second_law : SecondLaw
second_law x first second ts le = rw (tandem_law first second ts le) (fullness_earlier x first 0 ts (departures second 0 ts))
