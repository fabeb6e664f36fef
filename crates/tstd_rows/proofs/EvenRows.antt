-- Bytes that arrive at an even pace leave at one pace, or first at the pace of the buffer and then at the pace of their arrival.
use Rattle.std.proofs.Common.{◌≡◌, ◌∙◌, sym, ℕ, zero, suc, ◌+◌, ◌-◌, ◌*◌, ◌/◌, ◌<◌, ◌≤◌, max, List, [], ◌∷◌, ◌++◌, length, refl, ap, arith}
use Rattle.std.proofs.Math.Nat.{div-one, add-mul-div_right, div-mul-le_self, div-lt_iff_lt-mul, div-le_of_le-mul, mul-le-mul_left}
use Rattle.std.proofs.lemmas.Nat.{le-div}
use Rattle.std.proofs.lemmas.List.{append-nil}
use Rattle.clock27.specs.Departure.{departures, last_left}
use Rattle.clock27.proofs.Departures.{departures-append, last_left-append}
use Rattle.arrival.specs.Rows.{times_in_row}
use Rattle.arrival.proofs.Rows.{row-append}

pub div_le : (a b k : ℕ) → 0 < k → a ≤ b → a / k ≤ b / k
div_le a b k some le = le-div (a / k) b k some (omega (arith, div-mul-le_self a k, le))

-- If bytes arrive no slower than they leave, n bytes arrive within n steps.
pub soon : (from pace parts step n : ℕ) → 0 < parts → pace ≤ step * parts → (from + n * pace) / parts ≤ from / parts + n * step
soon from pace parts step n some fast =
    let le : from + n * pace ≤ from + n * step * parts = omega (arith, mul-le-mul_left n fast) in
    omega (arith, div_le (from + n * pace) (from + n * step * parts) parts some le, add-mul-div_right from (n * step) some)

-- If bytes arrive no faster than they leave, n bytes take at least n steps to arrive.
pub apart : (from pace parts step n : ℕ) → 0 < parts → step * parts ≤ pace → from / parts + n * step ≤ (from + n * pace) / parts
apart from pace parts step n some slow =
    let le : from + n * step * parts ≤ from + n * pace = omega (arith, mul-le-mul_left n slow) in
    omega (arith, div_le (from + n * step * parts) (from + n * pace) parts some le, add-mul-div_right from (n * step) some)

pub soon_one : (from pace parts step : ℕ) → 0 < parts → pace ≤ step * parts → (from + pace) / parts ≤ from / parts + step
soon_one from pace parts step some fast =
    let e : from + 1 * pace ≡ from + pace = omega arith in
    let le : (from + 1 * pace) / parts ≤ from / parts + step = omega (arith, soon from pace parts step 1 some fast) in
    rw e at le

pub apart_one : (from pace parts step : ℕ) → 0 < parts → step * parts ≤ pace → from / parts + step ≤ (from + pace) / parts
apart_one from pace parts step some slow =
    let e : from + 1 * pace ≡ from + pace = omega arith in
    let le : from / parts + step ≤ (from + 1 * pace) / parts = omega (arith, apart from pace parts step 1 some slow) in
    rw e at le

-- Whether each of n bytes arrives before the byte before it has left
abbrev pub Waits : ℕ → ℕ → ℕ → ℕ → ℕ → ℕ → Type 0
Waits step prev from pace parts n = (j : ℕ) → j < n → (from + j * pace) / parts ≤ prev + j * step

waits_first : (step prev from pace parts n : ℕ) → Waits step prev from pace parts (suc n) → from / parts ≤ prev
waits_first step prev from pace parts n waits =
    let e : from + 0 * pace ≡ from = omega arith in
    let f : prev + 0 * step ≡ prev = omega arith in
    let some : 0 < suc n = omega arith in
    let here : (from + 0 * pace) / parts ≤ prev + 0 * step = waits 0 some in
    rw (e, f) at here

waits_next : (step prev from pace parts n : ℕ) → Waits step prev from pace parts (suc n) → Waits step (prev + step) (from + pace) pace parts n
waits_next step prev from pace parts n waits j below =
    let e : from + suc j * pace ≡ from + pace + j * pace = omega arith in
    let f : prev + suc j * step ≡ prev + step + j * step = omega arith in
    let some : suc j < suc n = omega (arith, below) in
    let there : (from + suc j * pace) / parts ≤ prev + suc j * step = waits (suc j) some in
    rw (e, f) at there

-- Bytes that wait leave a step apart.
pub waits_left : (step prev from pace parts n : ℕ) → Waits step prev from pace parts n →
    departures step prev (times_in_row from pace parts n) ≡ times_in_row (prev + step) step 1 n
unfolding departures times_in_row
waits_left step prev from pace parts zero waits = refl
waits_left step prev from pace parts (suc n) waits =
    let e : max (from / parts) prev ≡ prev = omega (arith, waits_first step prev from pace parts n waits) in
    rw (e, div-one (prev + step))
    (ap (λ (ts : List ℕ). (prev + step) ∷ ts) (waits_left step (prev + step) (from + pace) pace parts n (waits_next step prev from pace parts n waits)))

pub waits_last : (step prev from pace parts n : ℕ) → Waits step prev from pace parts n →
    last_left step prev (times_in_row from pace parts n) ≡ prev + n * step
unfolding last_left times_in_row
waits_last step prev from pace parts zero waits = omega arith
waits_last step prev from pace parts (suc n) waits =
    let e : max (from / parts) prev ≡ prev = omega (arith, waits_first step prev from pace parts n waits) in
    let rest = waits_last step (prev + step) (from + pace) pace parts n (waits_next step prev from pace parts n waits) in
    let sum : prev + step + n * step ≡ prev + suc n * step = omega arith in
    ap (λ (m : ℕ). last_left step (m + step) (times_in_row (from + pace) pace parts n)) e ∙ rest ∙ sum

-- If bytes arrive no slower than they leave and the first waits, all wait.
pub waits_fast : (step prev from pace parts n : ℕ) → 0 < parts → pace ≤ step * parts → from / parts ≤ prev → Waits step prev from pace parts n
waits_fast step prev from pace parts n some fast first j below = omega (arith, soon from pace parts step j some fast, first)

-- Bytes that arrive slower than they leave wait until they have made up for the wait of the first byte.
pub waits_slow : (step prev from gain parts n : ℕ) → 0 < parts → ((j : ℕ) → j < n → j * gain < (prev + 1) * parts - from) →
    Waits step prev from (step * parts + gain) parts n
waits_slow step prev from gain parts n some room j below =
    let in_room = room j below in
    let less : from + j * (step * parts + gain) < (prev + j * step + 1) * parts = omega (arith, in_room) in
    omega (arith, div_below (from + j * (step * parts + gain)) parts (prev + j * step + 1) some less)
  where
    div_below : (a k b : ℕ) → 0 < k → a < b * k → a / k < b
    div_below a k b some less = (div-lt_iff_lt-mul some).1 less

-- If no byte waits, each leaves a step after it arrives.
pub frees_left : (step prev from pace parts n : ℕ) → 0 < parts → step * parts ≤ pace → prev ≤ from / parts →
    departures step prev (times_in_row from pace parts n) ≡ times_in_row (from + step * parts) pace parts n
unfolding departures times_in_row
frees_left step prev from pace parts zero some slow free = refl
frees_left step prev from pace parts (suc n) some slow free =
    let e : max (from / parts) prev ≡ from / parts = omega (arith, free) in
    let f : (from + step * parts) / parts ≡ from / parts + step = add-mul-div_right from step some in
    let g : from + step * parts + pace ≡ from + pace + step * parts = omega arith in
    let next = apart_one from pace parts step some slow in
    rw (e, f, g) (ap (λ (ts : List ℕ). (from / parts + step) ∷ ts) (frees_left step (from / parts + step) (from + pace) pace parts n some slow next))

pub frees_last : (step prev from pace parts n : ℕ) → 0 < parts → step * parts ≤ pace → prev ≤ from / parts →
    last_left step prev (times_in_row from pace parts (suc n)) ≡ (from + n * pace) / parts + step
unfolding last_left times_in_row
frees_last step prev from pace parts zero some slow free =
    let e : from + 0 * pace ≡ from = omega arith in
    rw e (omega (arith, free))
frees_last step prev from pace parts (suc n) some slow free =
    let e : max (from / parts) prev ≡ from / parts = omega (arith, free) in
    let g : from + suc n * pace ≡ from + pace + n * pace = omega arith in
    let next = apart_one from pace parts step some slow in
    let rest = frees_last step (from / parts + step) (from + pace) pace parts n some slow next in
    rw g (ap (λ (m : ℕ). last_left step (m + step) (times_in_row (from + pace) pace parts (suc n))) e ∙ rest)

-- A row that may be empty leaves in this way too.
frees_rest : (step prev from pace parts n : ℕ) → 0 < parts → step * parts ≤ pace → (0 < n → prev ≤ from / parts) →
    departures step prev (times_in_row from pace parts n) ≡ times_in_row (from + step * parts) pace parts n
unfolding departures times_in_row
frees_rest step prev from pace parts zero some slow free = refl
frees_rest step prev from pace parts (suc n) some slow free = frees_left step prev from pace parts (suc n) some slow (free (omega arith))

-- The first `a` bytes wait, and the rest of the bytes do not.
pub in_two_left : (step prev from pace parts a b : ℕ) → 0 < parts → step * parts ≤ pace → Waits step prev from pace parts a →
    (0 < b → prev + a * step ≤ (from + a * pace) / parts) →
    departures step prev (times_in_row from pace parts (a + b)) ≡ times_in_row (prev + step) step 1 a
    ++ times_in_row (from + a * pace + step * parts) pace parts b
in_two_left step prev from pace parts a b some slow waits free =
    rw (
      row-append from pace parts a b,
      departures-append step prev (times_in_row from pace parts a) (times_in_row (from + a * pace) pace parts b),
      waits_left step prev from pace parts a waits,
      waits_last step prev from pace parts a waits,
    )
    (ap (λ (ts : List ℕ). times_in_row (prev + step) step 1 a ++ ts) (frees_rest step (prev + a * step) (from + a * pace) pace parts b some slow free))

pub in_two_last : (step prev from pace parts a b : ℕ) → 0 < parts → step * parts ≤ pace → Waits step prev from pace parts a →
    prev + a * step ≤ (from + a * pace) / parts →
    last_left step prev (times_in_row from pace parts (a + suc b)) ≡ (from + (a + b) * pace) / parts + step
in_two_last step prev from pace parts a b some slow waits free =
    let e : from + (a + b) * pace ≡ from + a * pace + b * pace = omega arith in
    rw (
      e,
      row-append from pace parts a (suc b),
      last_left-append step prev (times_in_row from pace parts a) (times_in_row (from + a * pace) pace parts (suc b)),
      waits_last step prev from pace parts a waits,
    )
    (frees_last step (prev + a * step) (from + a * pace) pace parts b some slow free)

-- A row that is not empty leaves as it would after a byte that leaves no later than the first byte of the row arrives.
from_first : (step prev from pace parts n : ℕ) →
    departures step prev (times_in_row from pace parts (suc n)) ≡ departures step (max (from / parts) prev) (times_in_row from pace parts (suc n))
unfolding departures times_in_row
from_first step prev from pace parts n = let e : max (from / parts) (max (from / parts) prev) ≡ max (from / parts) prev = omega arith in rw e refl

last_from_first : (step prev from pace parts n : ℕ) →
    last_left step prev (times_in_row from pace parts (suc n)) ≡ last_left step (max (from / parts) prev) (times_in_row from pace parts (suc n))
unfolding last_left times_in_row
last_from_first step prev from pace parts n =
    let e : max (from / parts) (max (from / parts) prev) ≡ max (from / parts) prev = omega arith in
    ap (λ (m : ℕ). last_left step (m + step) (times_in_row (from + pace) pace parts n)) (sym e)

pub no_bytes : (from pace parts n : ℕ) → times_in_row from pace parts (n - n) ≡ []
unfolding times_in_row
no_bytes from pace parts n = let e : n - n ≡ 0 = omega arith in rw e refl

-- A row that arrives no slower than it leaves, leaves a step apart.
pub fast_left : (step prev from pace parts n first : ℕ) (none : List ℕ) → 0 < n → 0 < parts → pace ≤ step * parts → first ≡ max (from / parts) prev →
    none ≡ [] →
    times_in_row (first + step) step 1 n ++ none ≡ departures step prev (times_in_row from pace parts n)
fast_left step prev from pace parts zero first none pos some fast e f = absurd (omega (arith, pos))
fast_left step prev from pace parts (suc n) first none pos some fast e f =
    let here : from / parts ≤ max (from / parts) prev = omega arith in
    rw (e, f, append-nil (times_in_row (max (from / parts) prev + step) step 1 (suc n)))
    (sym (from_first step prev from pace parts n
    ∙ waits_left step (max (from / parts) prev) from pace parts (suc n) (waits_fast step (max (from / parts) prev) from pace parts (suc n) some fast here)))

pub fast_last : (step prev from pace parts n first : ℕ) → 0 < n → 0 < parts → pace ≤ step * parts → first ≡ max (from / parts) prev →
    first + n * step ≡ last_left step prev (times_in_row from pace parts n)
fast_last step prev from pace parts zero first pos some fast e = absurd (omega (arith, pos))
fast_last step prev from pace parts (suc n) first pos some fast e =
    let here : from / parts ≤ max (from / parts) prev = omega arith in
    rw e (sym (last_from_first step prev from pace parts n
    ∙ waits_last step (max (from / parts) prev) from pace parts (suc n) (waits_fast step (max (from / parts) prev) from pace parts (suc n) some fast here)))

-- In a row that arrives no faster than it leaves, bytes wait until they have made up for the wait of the first byte.
gained : (step prev from pace parts a : ℕ) → 0 < parts → step * parts ≤ pace → (prev + 1) * parts - from ≤ a * (pace - step * parts) →
    prev + a * step ≤ (from + a * pace) / parts
gained step prev from pace parts a some slow enough =
    let e : a * (pace - step * parts) + a * (step * parts) ≡ a * pace = gain_sum a (pace - step * parts) (step * parts) pace (omega (arith, slow)) in
    let less : (prev + a * step) * parts ≤ from + a * pace = omega (arith, enough, e) in
    le-div (prev + a * step) (from + a * pace) parts some less
  where
    gain_sum : (a g s p : ℕ) → g + s ≡ p → a * g + a * s ≡ a * p
    gain_sum a g s p e = rw (sym e) (omega arith)

waits_gain : (step prev from pace parts a : ℕ) → 0 < parts → step * parts ≤ pace → ((j : ℕ) → j < a → j * (pace - step * parts) < (prev + 1) * parts - from) →
    Waits step prev from pace parts a
waits_gain step prev from pace parts a some slow room =
    let e : step * parts + (pace - step * parts) ≡ pace = omega (arith, slow) in
    rw e at (waits_slow step prev from (pace - step * parts) parts a some room)

pub slow_left : (step prev from pace parts n a : ℕ) → 0 < parts → step * parts ≤ pace → a ≤ n →
    ((j : ℕ) → j < a → j * (pace - step * parts) < (prev + 1) * parts - from) → (a < n → (prev + 1) * parts - from ≤ a * (pace - step * parts)) →
    times_in_row (prev + step) step 1 a ++ times_in_row (from + a * pace + step * parts) pace parts (n - a) ≡ departures step prev
    (times_in_row from pace parts n)
slow_left step prev from pace parts n a some slow le room enough =
    let e : a + (n - a) ≡ n = omega (arith, le) in
    let two = in_two_left step prev from pace parts a (n - a) some slow (waits_gain step prev from pace parts a some slow room)
    (λ more. gained step prev from pace parts a some slow (enough (omega (arith, more)))) in
    sym (rw e at two)

pub slow_last : (step prev from pace parts n a : ℕ) → 0 < parts → step * parts ≤ pace → a < n →
    ((j : ℕ) → j < a → j * (pace - step * parts) < (prev + 1) * parts - from) → (prev + 1) * parts - from ≤ a * (pace - step * parts) →
    (from + (n - 1) * pace) / parts + step ≡ last_left step prev (times_in_row from pace parts n)
slow_last step prev from pace parts n a some slow below room enough =
    let e : a + suc (n - 1 - a) ≡ n = omega (arith, below) in
    let f : a + (n - 1 - a) ≡ n - 1 = omega (arith, below) in
    let two = in_two_last step prev from pace parts a (n - 1 - a) some slow (waits_gain step prev from pace parts a some slow room)
    (gained step prev from pace parts a some slow enough) in
    sym (rw (e, f) at two)

pub slow_wait_last : (step prev from pace parts n : ℕ) → 0 < parts → step * parts ≤ pace →
    ((j : ℕ) → j < n → j * (pace - step * parts) < (prev + 1) * parts - from) →
    prev + n * step ≡ last_left step prev (times_in_row from pace parts n)
slow_wait_last step prev from pace parts n some slow room = sym (waits_last step prev from pace parts n (waits_gain step prev from pace parts n some slow room))

-- The last byte of a row leaves no later than if all had arrived at the end of the row.
pub last_soon : (step prev from pace parts n latest : ℕ) → 0 < parts → from + n * pace ≤ latest * parts →
    last_left step prev (times_in_row from pace parts n) ≤ max latest prev + n * step
unfolding last_left times_in_row
last_soon step prev from pace parts zero latest some early = omega arith
last_soon step prev from pace parts (suc n) latest some early =
    let here : from / parts ≤ latest = div-le_of_le-mul parts (omega (arith, early)) in
    let rest : last_left step (max (from / parts) prev + step) (times_in_row (from + pace) pace parts n) ≤ max latest (max (from / parts) prev + step)
    + n * step =
    last_soon step (max (from / parts) prev + step) (from + pace) pace parts n latest some (omega (arith, early)) in
    within rest (omega (arith, here))
  where
    within : {x y z : ℕ} → x ≤ y → y ≤ z → x ≤ z
    within le le' = omega (arith, le, le')

pub length-row : (from pace parts n : ℕ) → length (times_in_row from pace parts n) ≡ n
unfolding times_in_row
length-row from pace parts zero = refl
length-row from pace parts (suc n) = ap suc (length-row (from + pace) pace parts n)

pub no_row_last : (step prev from pace parts n : ℕ) → n ≡ 0 → prev ≡ last_left step prev (times_in_row from pace parts n)
unfolding last_left times_in_row
no_row_last step prev from pace parts n e = rw e refl
