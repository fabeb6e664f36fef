-- Which bytes of a row find no room
use Rattle.std.proofs.Common.{◌≡◌, ◌∙◌, sym, ℕ, zero, suc, ◌+◌, ◌-◌, ◌*◌, ◌/◌, ◌<◌, ◌≤◌, max, true, false, List, [], ◌∷◌, refl, arith}
use Rattle.std.proofs.Math.Nat.{add-mul-div_right, div-lt_iff_lt-mul, mul-le-mul_left}
use Rattle.std.proofs.lemmas.Nat.{le-div}
use Rattle.std.proofs.lemmas.Bool.{lt-ltb, le-ltb}
use Rattle.clock27.specs.Departure.{last_left}
use Rattle.clock27.specs.Peak.{found, most_found}
use Rattle.arrival.specs.Rows.{times_in_row}
use Rattle.tstd_rows.specs.Excesses.{AreOver}
use Rattle.tstd_rows.proofs.EvenRows.{Waits, waits_last, fast_last}
use Rattle.tstd_rows.proofs.MostFound.{row_most_fast, row_most_slow}

-- A byte finds room if it arrives at most `size - 1` steps before the byte before it leaves.
room_found : (step size prev t : ℕ) → 0 < step → 0 < size → prev ≤ t + (size - 1) * step → found step prev t ≤ size
room_found step size prev t pos some le =
    let e : (size - 1) * step + step ≡ size * step = omega (arith, one_more (size - 1) step, sum) in
    let less : (prev - t) + (step - 1) < size * step = omega (arith, le, e, pos) in
    omega (arith, (div-lt_iff_lt-mul pos).1 less)
  where
    one_more : (n step : ℕ) → (n + 1) * step ≡ n * step + step
    one_more n step = omega arith

    sum : (size - 1 + 1) * step ≡ size * step
    sum = let f : size - 1 + 1 ≡ size = omega (arith, some) in rw f refl

no_room_found : (step size prev t : ℕ) → 0 < step → 0 < size → t + (size - 1) * step < prev → size < found step prev t
no_room_found step size prev t pos some less =
    let e : (size - 1) * step + step ≡ size * step = omega (arith, one_more (size - 1) step, sum) in
    let more : size * step ≤ (prev - t) + (step - 1) = omega (arith, less, e, pos) in
    omega (arith, le-div size ((prev - t) + (step - 1)) step pos more)
  where
    one_more : (n step : ℕ) → (n + 1) * step ≡ n * step + step
    one_more n step = omega arith

    sum : (size - 1 + 1) * step ≡ size * step
    sum = let f : size - 1 + 1 ≡ size = omega (arith, some) in rw f refl

pub none_over : (step size prev : ℕ) (ts : List ℕ) → most_found step prev ts ≤ size → AreOver false step size prev ts
unfolding most_found AreOver
none_over step size prev [] le = tt
none_over step size prev (t ∷ ts) le =
    let here : found step prev t ≤ size = omega (arith, le) in
    (le-ltb size (found step prev t) here, none_over step size (max t prev + step) ts (omega (arith, le)))

-- Whether each of n bytes arrives more than `size - 1` steps before the byte before it leaves
abbrev pub Overtakes : ℕ → ℕ → ℕ → ℕ → ℕ → ℕ → ℕ → Type 0
Overtakes step size prev from pace parts n = (j : ℕ) → j < n → (from + j * pace) / parts + (size - 1) * step < prev + j * step

pub all_over : (step size prev from pace parts n : ℕ) → 0 < step → 0 < size → Overtakes step size prev from pace parts n →
    AreOver true step size prev (times_in_row from pace parts n)
unfolding AreOver times_in_row
all_over step size prev from pace parts zero pos some over = tt
all_over step size prev from pace parts (suc n) pos some over =
    let e : from + 0 * pace ≡ from = omega arith in
    let f : prev + 0 * step ≡ prev = omega arith in
    let first : (from + 0 * pace) / parts + (size - 1) * step < prev + 0 * step = over 0 (omega arith) in
    let here : from / parts + (size - 1) * step < prev = rw (e, f) at first in
    let m : max (from / parts) prev ≡ prev = omega (arith, here) in (
      lt-ltb size (found step prev (from / parts)) (no_room_found step size prev (from / parts) pos some here),
      rw m (all_over step size (prev + step) (from + pace) pace parts n pos some (later over)),
    )
  where
    later : Overtakes step size prev from pace parts (suc n) → Overtakes step size (prev + step) (from + pace) pace parts n
    later over j below =
        let e : from + suc j * pace ≡ from + pace + j * pace = omega arith in
        let f : prev + suc j * step ≡ prev + step + j * step = omega arith in
        let there : (from + suc j * pace) / parts + (size - 1) * step < prev + suc j * step = over (suc j) (omega (arith, below)) in
        rw (e, f) at there

-- A time in parts is rounded down to whole units.
parts_less : (a b parts steps : ℕ) → 0 < parts → a + steps * parts < b * parts → a / parts + steps < b
parts_less a b parts steps some less =
    let below : (a + steps * parts) / parts < b = (div-lt_iff_lt-mul some).1 less in
    omega (arith, below, add-mul-div_right a steps some)

parts_more : (a b parts steps : ℕ) → 0 < parts → b * parts ≤ a + steps * parts → b ≤ a / parts + steps
parts_more a b parts steps some le =
    omega (arith, le-div b (a + steps * parts) parts some le, add-mul-div_right a steps some)

-- The gain of j bytes and the time between their arrivals add up to j steps.
gain_fast : (step pace parts j : ℕ) → pace ≤ step * parts → j * (step * parts - pace) + j * pace ≡ j * step * parts
gain_fast step pace parts j fast =
    let e : step * parts - pace + pace ≡ step * parts = omega (arith, fast) in
    let f : j * (step * parts - pace) + j * pace ≡ j * (step * parts - pace + pace) = omega arith in
    f ∙ rw e (omega arith)

gain_slow : (step pace parts j : ℕ) → step * parts ≤ pace → j * (pace - step * parts) + j * step * parts ≡ j * pace
gain_slow step pace parts j slow =
    let e : pace - step * parts + step * parts ≡ pace = omega (arith, slow) in
    let f : j * (pace - step * parts) + j * step * parts ≡ j * (pace - step * parts + step * parts) = omega arith in
    f ∙ rw e refl

-- If the bytes of a row arrive no slower than they leave, the first `a` bytes find room.
pub fast_room : (step size prev from pace parts a first : ℕ) → 0 < step → 0 < size → 0 < parts → pace ≤ step * parts → first ≡ max (from / parts) prev →
    ((j : ℕ) → j < a → j * (step * parts - pace) < from + (size - 1) * step * parts + 1 - first * parts) →
    AreOver false step size prev (times_in_row from pace parts a)
fast_room step size prev from pace parts zero first pos some part fast e room = unfold AreOver times_in_row in tt
fast_room step size prev from pace parts (suc a) first pos some part fast e room =
    let last : a * (step * parts - pace) < from + (size - 1) * step * parts + 1 - first * parts = room a (omega arith) in
    let sum = gain_fast step pace parts a fast in
    let le : (first + a * step) * parts ≤ from + a * pace + (size - 1) * step * parts = omega (arith, last, sum) in
    let near : first + a * step ≤ (from + a * pace) / parts + (size - 1) * step =
    parts_more (from + a * pace) (first + a * step) parts ((size - 1) * step) part le in
    let few = room_found step size (first + a * step) ((from + a * pace) / parts) pos some near in
    let k : suc a - 1 ≡ a = omega arith in
    let most = row_most_fast step prev from pace parts (suc a) first pos part fast (omega arith) e in
    let most' : found step (first + a * step) ((from + a * pace) / parts) ≡ most_found step prev (times_in_row from pace parts (suc a)) = rw k at most in
    none_over step size prev (times_in_row from pace parts (suc a)) (omega (arith, few, most'))

-- If more bytes follow, the first `a` bytes leave a step apart.
fast_prev : (step size prev from pace parts a first : ℕ) → 0 < size → 0 < parts → pace ≤ step * parts → first ≡ max (from / parts) prev →
    from + (size - 1) * step * parts + 1 - first * parts ≤ a * (step * parts - pace) →
    last_left step prev (times_in_row from pace parts a) ≡ first + a * step
unfolding last_left times_in_row
fast_prev step size prev from pace parts zero first some part fast e enough =
    let less : from + (size - 1) * step * parts < first * parts = omega (arith, enough) in
    let late = parts_less from first parts ((size - 1) * step) part less in
    omega (arith, late, e)
fast_prev step size prev from pace parts (suc a) first some part fast e enough =
    sym (fast_last step prev from pace parts (suc a) first (omega arith) part fast e)

-- The later bytes find no room.
pub fast_over : (step size prev from pace parts a n first last : ℕ) → 0 < step → 0 < size → 0 < parts → pace ≤ step * parts → first ≡ max (from / parts) prev →
    (a < n → from + (size - 1) * step * parts + 1 - first * parts ≤ a * (step * parts - pace)) →
    last ≡ last_left step prev (times_in_row from pace parts a) →
    AreOver true step size last (times_in_row (from + a * pace) pace parts (n - a))
fast_over step size prev from pace parts a n first last pos some part fast e enough is =
    all_over step size last (from + a * pace) pace parts (n - a) pos some over
  where
    over : Overtakes step size last (from + a * pace) pace parts (n - a)
    over j below =
        let rest = enough (omega (arith, below)) in
        let at : last ≡ first + a * step = is ∙ fast_prev step size prev from pace parts a first some part fast e rest in
        let sum = gain_fast step pace parts a fast in
        let more = mul-le-mul_left j fast in
        let less : from + a * pace + j * pace + (size - 1) * step * parts < (last + j * step) * parts = rw at (omega (arith, rest, sum, more)) in
        parts_less (from + a * pace + j * pace) (last + j * step) parts ((size - 1) * step) part less

-- If the bytes of a row arrive no faster than they leave, the first `a` bytes find no room.
slow_overtakes : (step size prev from pace parts a : ℕ) → 0 < parts → step * parts ≤ pace →
    ((j : ℕ) → j < a → j * (pace - step * parts) < prev * parts - (from + (size - 1) * step * parts)) → Overtakes step size prev from pace parts a
slow_overtakes step size prev from pace parts a part slow room j below =
    let here = room j below in
    let sum = gain_slow step pace parts j slow in
    let less : from + j * pace + (size - 1) * step * parts < (prev + j * step) * parts = omega (arith, here, sum) in
    parts_less (from + j * pace) (prev + j * step) parts ((size - 1) * step) part less

pub slow_over : (step size prev from pace parts a : ℕ) → 0 < step → 0 < size → 0 < parts → step * parts ≤ pace →
    ((j : ℕ) → j < a → j * (pace - step * parts) < prev * parts - (from + (size - 1) * step * parts)) →
    AreOver true step size prev (times_in_row from pace parts a)
slow_over step size prev from pace parts a pos some part slow room =
    all_over step size prev from pace parts a pos some (slow_overtakes step size prev from pace parts a part slow room)

-- The later bytes find room.
pub slow_room : (step size prev from pace parts a n last : ℕ) → 0 < step → 0 < size → 0 < parts → step * parts ≤ pace →
    ((j : ℕ) → j < a → j * (pace - step * parts) < prev * parts - (from + (size - 1) * step * parts)) →
    (a < n → prev * parts - (from + (size - 1) * step * parts) ≤ a * (pace - step * parts)) →
    last ≡ last_left step prev (times_in_row from pace parts a) →
    AreOver false step size last (times_in_row (from + a * pace) pace parts (n - a))
slow_room step size prev from pace parts a n last pos some part slow room enough is = some_or_none (n - a) refl
  where
    waits : Waits step prev from pace parts a
    waits j below = omega (arith, slow_overtakes step size prev from pace parts a part slow room j below)

    some_or_none : (m : ℕ) → n - a ≡ m → AreOver false step size last (times_in_row (from + a * pace) pace parts m)
    some_or_none zero e = unfold AreOver times_in_row in tt
    some_or_none (suc m) e =
        let rest = enough (omega (arith, e)) in
        let at : last ≡ prev + a * step = is ∙ waits_last step prev from pace parts a waits in
        let sum = gain_slow step pace parts a slow in
        let le : last * parts ≤ from + a * pace + (size - 1) * step * parts = rw at (omega (arith, rest, sum)) in
        let near : last ≤ (from + a * pace) / parts + (size - 1) * step = parts_more (from + a * pace) last parts ((size - 1) * step) part le in
        let few = room_found step size last ((from + a * pace) / parts) pos some near in
        let most = row_most_slow step last (from + a * pace) pace parts (suc m) pos part slow (omega arith) in
        none_over step size last (times_in_row (from + a * pace) pace parts (suc m)) (omega (arith, few, most))
