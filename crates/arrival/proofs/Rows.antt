-- Bytes in a row, at whole units
use Rattle.std.proofs.Common.{◌≡◌, sym, ℕ, zero, suc, ◌+◌, ◌-◌, ◌*◌, ◌/◌, ◌≤◌, List, ◌∷◌, ◌++◌, refl, ap, arith, zero-add, ◌<◌, All}
use Rattle.std.proofs.Math.Nat.{div-one, div-lt_iff_lt-mul, mul-lt-mul_of_pos_right}
use Rattle.std.proofs.lemmas.Nat.{le-div}
use Rattle.std.proofs.lemmas.List.Elements.{All-nil, All-cons}
use Rattle.clock27.specs.Arrival.{bytes_from}
use Rattle.arrival.specs.Rows.{times_in_row, times_of, first_bytes, other_bytes}
use Rattle.arrival.specs.declared.row.Row.{Row}
use Rattle.arrival.specs.Laws.{ConstantRow}

-- If a multiple is at most a number, all smaller multiples are below that number.
pub all_below : (room gain count j : ℕ) → 0 < gain → count * gain ≤ room → j < count → j * gain < room
all_below room gain count j some next before = omega (arith, next, mul-lt-mul_of_pos_right {m = j} {n = count} {k = gain} before some)

pub constant_row : ConstantRow
unfolding times_in_row bytes_from
constant_row drain i zero = refl
constant_row drain i (suc n) =
    let next : i * drain + drain ≡ suc i * drain = omega arith in
    rw (div-one (i * drain), next) (ap (λ (ts : List ℕ). i * drain ∷ ts) (constant_row drain (suc i) n))

-- A row of a + b bytes is a row of a bytes, then a row of b bytes.
pub row-append : (from pace parts a b : ℕ) → times_in_row from pace parts (a + b) ≡ times_in_row from pace parts a
    ++ times_in_row (from + a * pace) pace parts b
unfolding times_in_row
row-append from pace parts zero b = let e : from + 0 * pace ≡ from = omega arith in rw (zero-add b, e) refl
row-append from pace parts (suc a) b =
    let e : suc a + b ≡ suc (a + b) = omega arith in
    let f : from + suc a * pace ≡ from + pace + a * pace = omega arith in
    rw (e, f) (ap (λ (ts : List ℕ). from / parts ∷ ts) (row-append (from + pace) pace parts a b))

pub split_rows : (row : Row) (count : ℕ) → count ≤ row.bytes → times_of (first_bytes row count) ++ times_of (other_bytes row count) ≡ times_of row
split_rows row count le =
    let e : count + (row.bytes - count) ≡ row.bytes = omega (arith, le) in
    sym (rw e at (row-append row.from row.pace row.parts count (row.bytes - count)))

-- If each byte is less far from the row's begin than a moment is, all bytes arrive before the moment.
pub all_before : (moment from pace parts n : ℕ) → 0 < parts → ((j : ℕ) → j < n → j * pace < moment * parts - from) →
    All (λ t. t < moment) (times_in_row from pace parts n)
unfolding times_in_row
all_before moment from pace parts zero some room = All-nil (λ t. t < moment)
all_before moment from pace parts (suc n) some room =
    let first : 0 * pace < moment * parts - from = room 0 (omega arith) in
    let here : from < moment * parts = omega (arith, first) in
    All-cons (λ t. t < moment) (from / parts) (times_in_row (from + pace) pace parts n) ((div-lt_iff_lt-mul some).1 here)
    (all_before moment (from + pace) pace parts n some (later room))
  where
    later : ((j : ℕ) → j < suc n → j * pace < moment * parts - from) → (j : ℕ) → j < n → j * pace < moment * parts - (from + pace)
    later room j below =
        let next : suc j * pace < moment * parts - from = room (suc j) (omega (arith, below)) in
        omega (arith, next)

-- If a row begins no earlier than a moment, no byte of it arrives earlier.
pub all_after : (moment from pace parts n : ℕ) → 0 < parts → (0 < n → moment * parts ≤ from) → All (λ t. moment ≤ t) (times_in_row from pace parts n)
unfolding times_in_row
all_after moment from pace parts zero some after = All-nil (λ t. moment ≤ t)
all_after moment from pace parts (suc n) some after =
    let here : moment * parts ≤ from = after (omega arith) in
    All-cons (λ t. moment ≤ t) (from / parts) (times_in_row (from + pace) pace parts n) (le-div moment from parts some here)
    (all_after moment (from + pace) pace parts n some (λ more. omega (arith, here)))
