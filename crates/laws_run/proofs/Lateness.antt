-- Items that recur within a limit are never late.
use Rattle.std.proofs.Common.{◌≡◌, ℕ, ◌+◌, ◌-◌, ◌*◌, ◌≤◌, false, List, [], ◌∷◌, map, refl, arith, le-ltb}
use Rattle.std.proofs.Math.Nat.{mul-le-mul_right}
use Rattle.clock27.specs.Recurrence.{Recur}
use Rattle.monitor.specs.Gaps.{is_long, late}

-- A gap within a smaller limit is not too long.
pub short_gap : (rate least limit gap : ℕ) → gap * 1504000 ≤ least * rate → least ≤ limit → is_long (limit * rate) gap ≡ false
short_gap rate least limit gap within le = le-ltb (limit * rate) (gap * 1504000) (omega (arith, within, wider))
  where
    wider : least * rate ≤ limit * rate
    wider = mul-le-mul_right rate le

-- Places at the same byte of each packet are not late, if these bytes recur.
pub recurring_late : (rate least limit offset p : ℕ) (places : List ℕ) (until : ℕ) → least ≤ limit →
    Recur rate least (188 * p + offset) (map (λ s. 188 * s + offset) places) until → late rate limit (p ∷ places) ≡ []
unfolding Recur
recurring_late rate least limit offset p [] until le h = refl
recurring_late rate least limit offset p (q ∷ places) until le h =
    let gap : (q - p) * 1504000 ≤ least * rate = omega (arith, h.0) in
    let short = short_gap rate least limit (q - p) gap le in
    let rest = recurring_late rate least limit offset q places until le h.1 in
    rw short rest

-- If places recur, counted from any byte before them, no place is late.
pub all_late : (rate least limit offset from : ℕ) (places : List ℕ) (until : ℕ) → least ≤ limit →
    Recur rate least from (map (λ s. 188 * s + offset) places) until → late rate limit places ≡ []
unfolding Recur
all_late rate least limit offset from [] until le h = refl
all_late rate least limit offset from (p ∷ places) until le h = recurring_late rate least limit offset p places until le h.1
