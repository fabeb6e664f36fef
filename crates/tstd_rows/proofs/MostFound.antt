-- The most bytes that a byte of a row finds: if they arrive no slower than they leave, the last byte finds the most; if not, the first.
use Rattle.std.proofs.Common.{◌≡◌, ◌∙◌, sym, ℕ, zero, suc, ◌+◌, ◌-◌, ◌*◌, ◌/◌, ◌<◌, ◌≤◌, max, refl, arith}
use Rattle.clock27.specs.Peak.{found, most_found}
use Rattle.arrival.specs.Rows.{times_in_row}
use Rattle.tstd_rows.proofs.EvenRows.{div_le, soon, soon_one, apart_one}

-- A byte that waits no longer finds no more bytes.
found_le : (step prev t prev' t' : ℕ) → 0 < step → prev - t ≤ prev' - t' → found step prev t ≤ found step prev' t'
found_le step prev t prev' t' pos le =
    let more : (prev - t) + (step - 1) ≤ (prev' - t') + (step - 1) = omega (arith, le) in
    omega (arith, div_le ((prev - t) + (step - 1)) ((prev' - t') + (step - 1)) step pos more)

found_same : (step prev t prev' t' : ℕ) → prev - t ≡ prev' - t' → found step prev t ≡ found step prev' t'
found_same step prev t prev' t' e = rw e refl

pub most_fast : (step prev from pace parts n : ℕ) → 0 < step → 0 < parts → pace ≤ step * parts →
    most_found step prev (times_in_row from pace parts (suc n)) ≡ found step (max (from / parts) prev + n * step) ((from + n * pace) / parts)
unfolding most_found times_in_row
most_fast step prev from pace parts zero pos some fast =
    let e : from + 0 * pace ≡ from = omega arith in
    let f : max (from / parts) prev + 0 * step - from / parts ≡ prev - from / parts = omega arith in
    rw (e, f) (omega arith)
most_fast step prev from pace parts (suc n) pos some fast =
    let near = soon_one from pace parts step some fast in
    let all = soon from pace parts step (suc n) some fast in
    let m : max ((from + pace) / parts) (max (from / parts) prev + step) ≡ max (from / parts) prev + step = omega (arith, near) in
    let g : from + suc n * pace ≡ from + pace + n * pace = omega arith in
    let less : prev - from / parts ≤ (max (from / parts) prev + suc n * step) - (from + suc n * pace) / parts = omega (arith, all) in
    let first = found_le step prev (from / parts) (max (from / parts) prev + suc n * step) ((from + suc n * pace) / parts) pos less in
    let rest : most_found step (max (from / parts) prev + step) (times_in_row (from + pace) pace parts (suc n))
    ≡ found step (max ((from + pace) / parts) (max (from / parts) prev + step) + n * step) ((from + pace + n * pace) / parts) =
    most_fast step (max (from / parts) prev + step) (from + pace) pace parts n pos some fast in
    let far : (from + pace + n * pace) / parts ≡ (from + suc n * pace) / parts = rw g refl in
    let same : (max ((from + pace) / parts) (max (from / parts) prev + step) + n * step) - (from + pace + n * pace) / parts
    ≡ (max (from / parts) prev + suc n * step) - (from + suc n * pace) / parts = rw far (omega (arith, m)) in
    let rest' : most_found step (max (from / parts) prev + step) (times_in_row (from + pace) pace parts (suc n))
    ≡ found step (max (from / parts) prev + suc n * step) ((from + suc n * pace) / parts) =
    rest ∙ found_same step (max ((from + pace) / parts) (max (from / parts) prev + step) + n * step) ((from + pace + n * pace) / parts)
    (max (from / parts) prev + suc n * step) ((from + suc n * pace) / parts) same in
    larger (found step prev (from / parts)) (most_found step (max (from / parts) prev + step) (times_in_row (from + pace) pace parts (suc n)))
    (found step (max (from / parts) prev + suc n * step) ((from + suc n * pace) / parts)) rest' first
  where
    larger : (a b c : ℕ) → b ≡ c → a ≤ c → max a b ≡ c
    larger a b c e le = omega (arith, e, le)

pub most_slow : (step prev from pace parts n : ℕ) → 0 < step → 0 < parts → step * parts ≤ pace →
    most_found step prev (times_in_row from pace parts (suc n)) ≡ found step prev (from / parts)
unfolding most_found times_in_row
most_slow step prev from pace parts zero pos some slow = omega arith
most_slow step prev from pace parts (suc n) pos some slow =
    let far = apart_one from pace parts step some slow in
    let less : (max (from / parts) prev + step) - (from + pace) / parts ≤ prev - from / parts = omega (arith, far) in
    let next = found_le step (max (from / parts) prev + step) ((from + pace) / parts) prev (from / parts) pos less in
    let rest = most_slow step (max (from / parts) prev + step) (from + pace) pace parts n pos some slow in
    smaller (found step prev (from / parts)) (most_found step (max (from / parts) prev + step) (times_in_row (from + pace) pace parts (suc n)))
    (found step (max (from / parts) prev + step) ((from + pace) / parts)) rest next
  where
    smaller : (a b c : ℕ) → b ≡ c → c ≤ a → max a b ≡ a
    smaller a b c e le = omega (arith, e, le)

-- In a row that is not empty and arrives no slower than it leaves, the last byte finds the most.
pub row_most_fast : (step prev from pace parts n first : ℕ) → 0 < step → 0 < parts → pace ≤ step * parts → 0 < n → first ≡ max (from / parts) prev →
    found step (first + (n - 1) * step) ((from + (n - 1) * pace) / parts) ≡ most_found step prev (times_in_row from pace parts n)
row_most_fast step prev from pace parts zero first pos some fast more e = absurd (omega (arith, more))
row_most_fast step prev from pace parts (suc n) first pos some fast more e =
    let k : suc n - 1 ≡ n = omega arith in
    rw (e, k) (sym (most_fast step prev from pace parts n pos some fast))

pub row_most_slow : (step prev from pace parts n : ℕ) → 0 < step → 0 < parts → step * parts ≤ pace → 0 < n →
    found step prev (from / parts) ≡ most_found step prev (times_in_row from pace parts n)
row_most_slow step prev from pace parts zero pos some slow more = absurd (omega (arith, more))
row_most_slow step prev from pace parts (suc n) pos some slow more = sym (most_slow step prev from pace parts n pos some slow)
