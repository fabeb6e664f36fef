-- Bytes of a row that enter a main buffer one after another
use Rattle.std.proofs.Common.{◌≡◌, ◌∙◌, ℕ, zero, suc, ◌+◌, ◌-◌, ◌*◌, ◌/◌, ◌≤◌, ◌<◌, max, cond, List, [], ◌∷◌, refl, inl, inr, arith, All, zero-add}
use Rattle.std.proofs.lemmas.Bool.{cases_lt, le-leb, lt-leb}
use Rattle.std.proofs.lemmas.List.Elements.{All-head, All-tail}
use Rattle.std.proofs.lemmas.List.Sums.{sum_by-cons}
use Rattle.clock27.specs.Peak.{greatest_at}
use Rattle.arrival.specs.Rows.{times_in_row}
use Rattle.tstd_rows.specs.TransportLaws.{Rises}
use Rattle.tstd_rows.proofs.EvenRows.{div_le}
use Rattle.tstd.specs.BufferedUnits.{one_buffered}
use Rattle.tstd_rows.specs.RowEntry.{has_entered, entered}

-- The rest of a row from byte j is byte j, followed by the rest from byte j + 1.
pub row_next : (from pace parts n j : ℕ) → j < n →
    times_in_row (from + j * pace) pace parts (n - j) ≡ (from + j * pace) / parts ∷ times_in_row (from + (j + 1) * pace) pace parts (n - (j + 1))
unfolding times_in_row
row_next from pace parts n j below =
    let e : n - j ≡ suc (n - (j + 1)) = omega (arith, below) in
    let f : from + (j + 1) * pace ≡ from + j * pace + pace = omega arith in
    rw (e, f) refl

pub row_end : (from pace parts n j : ℕ) → n ≤ j → times_in_row (from + j * pace) pace parts (n - j) ≡ []
unfolding times_in_row
row_end from pace parts n j over = let e : n - j ≡ 0 = omega (arith, over) in rw e refl

-- A byte that has entered is in the buffer until its unit is removed.
pub one_entered : (until x t : ℕ) (ts : List ℕ) → t ≤ x → entered until x (t ∷ ts) ≡ one_buffered until x + entered until x ts
one_entered until x t ts le =
    rw (sum_by-cons (λ s. cond (has_entered until x s) 1 0) t ts) (rw (le-leb t x le) refl)

pub none_entered : (until x : ℕ) (ts : List ℕ) (from : ℕ) → x < from → Rises from ts → entered until x ts ≡ 0
unfolding Rises
none_entered until x [] from lt rises = refl
none_entered until x (t ∷ ts) from lt rises =
    let later : x < t = omega (arith, rises.0) in
    rw (sum_by-cons (λ s. cond (has_entered until x s) 1 0) t ts, lt-leb t x later) (zero-add (entered until x ts) ∙ none_entered until x ts t later rises.1)

-- If two functions agree from `from` on, their greatest values at later times are equal.
greatest_from : (f g : ℕ → ℕ) (from : ℕ) (ts : List ℕ) → Rises from ts → ((x : ℕ) → from ≤ x → f x ≡ g x) → greatest_at f ts ≡ greatest_at g ts
unfolding Rises greatest_at
greatest_from f g from [] rises same = refl
greatest_from f g from (t ∷ ts) rises same =
    omega (arith, same t rises.0, greatest_from f g t ts rises.1 (λ x le. same x (omega (arith, le, rises.0))))

-- At the entries of bytes that share a moment, the buffer holds the same number of bytes.
shared : (f : ℕ → ℕ) (until before t : ℕ) (ts : List ℕ) → Rises t ts → f t ≡ before + entered until t ts →
    max before (greatest_at f ts) ≡ max (f t) (greatest_at f ts)
unfolding Rises greatest_at
shared f until before t [] rises is = omega (arith, is)
shared f until before t (u ∷ ts) rises is = elim (cases_lt t u) [
  | inl later ↦
      let none : entered until t (u ∷ ts) ≡ 0 = none_entered until t (u ∷ ts) u later (unfold Rises in (omega arith, rises.1)) in
      omega (arith, is, none)
  | inr same ↦
      let e : u ≡ t = omega (arith, same, rises.0) in
      let f_same : f u ≡ f t = rw e refl in
      omega (arith, is, f_same)
]

-- One byte enters, then the rest of the bytes.
pub entered_one : (before after : ℕ → ℕ) (until peak peak' t : ℕ) (ts : List ℕ) → Rises t ts →
    ((x : ℕ) → t ≤ x → after x ≡ before x + one_buffered until x) → peak' ≡ max peak (before t + one_buffered until t) →
    max peak' (greatest_at (λ x. after x + entered until x ts) ts) ≡ max peak (greatest_at (λ x. before x + entered until x (t ∷ ts)) (t ∷ ts))
unfolding greatest_at
entered_one before after until peak peak' t ts rises counted is =
    let f : ℕ → ℕ = λ x. before x + entered until x (t ∷ ts) in
    let same = greatest_from (λ x. after x + entered until x ts) f t ts rises
    (λ x le. omega (arith, counted x le, one_entered until x t ts le)) in
    let now : f t ≡ before t + one_buffered until t + entered until t ts = omega (arith, one_entered until t t ts (omega arith)) in
    let both = shared f until (before t + one_buffered until t) t ts rises now in
    omega (arith, same, is, both)

-- The bytes of a row after byte j arrive no earlier than byte j.
pub rest_rises : (from pace parts m j : ℕ) → 0 < parts → Rises ((from + j * pace) / parts) (times_in_row (from + (j + 1) * pace) pace parts m)
unfolding Rises times_in_row
rest_rises from pace parts zero j some = tt
rest_rises from pace parts (suc m) j some =
    let le : from + j * pace ≤ from + (j + 1) * pace = omega arith in
    let e : from + (j + 1) * pace + pace ≡ from + (suc j + 1) * pace = omega arith in
    let f : from + suc j * pace ≡ from + (j + 1) * pace = omega arith in
    let rest : Rises ((from + suc j * pace) / parts) (times_in_row (from + (suc j + 1) * pace) pace parts m) = rest_rises from pace parts m (suc j) some in
    (div_le (from + j * pace) (from + (j + 1) * pace) parts some le, rw e (rw f at rest))

-- Each byte of a row arrives by the moment at which all have arrived.
pub row_by : (x from pace parts n j : ℕ) → All (λ t. t ≤ x) (times_in_row from pace parts n) → j < n → (from + j * pace) / parts ≤ x
unfolding times_in_row
row_by x from pace parts zero j all below = absurd (omega (arith, below))
row_by x from pace parts (suc n) zero all below =
    let e : from + 0 * pace ≡ from = omega arith in
    rw e (All-head (λ t. t ≤ x) (from / parts) (times_in_row (from + pace) pace parts n) all)
row_by x from pace parts (suc n) (suc j) all below =
    let e : from + suc j * pace ≡ from + pace + j * pace = omega arith in
    rw e (row_by x (from + pace) pace parts n j (All-tail (λ t. t ≤ x) (from / parts) (times_in_row (from + pace) pace parts n) all) (omega (arith, below)))

-- No byte remains.
pub peak_end : (peak most : ℕ) (f : ℕ → ℕ) (ts : List ℕ) → ts ≡ [] → max peak (greatest_at f ts) ≡ most → peak ≡ most
unfolding greatest_at
peak_end peak most f [] e is = omega (arith, is)
peak_end peak most f (t ∷ ts) e is = cc
