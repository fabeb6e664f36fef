-- The test whether a buffer is empty depends only on the first byte of a row.
use Rattle.std.proofs.Common.{◌≡◌, ◌∙◌, sym, ℕ, zero, suc, ◌+◌, ◌*◌, ◌/◌, ◌<◌, List, ◌++◌, refl, ap, arith}
use Rattle.arrival.specs.declared.row.Row.{Row}
use Rattle.arrival.specs.Rows.{times_in_row, times_of}
use Rattle.tstd_rows.specs.Buffers.{times_left}
use Rattle.tstd_rows.specs.declared.leaving.Leaving.{Leaving}
use Rattle.tstd_rows.specs.declared.busy_watch.BusyWatch.{BusyWatch}
use Rattle.tstd_rows.specs.Busy.{busy_at, busy_with}

in_row : (w : BusyWatch) (prev from pace parts n : ℕ) → 0 < n → busy_with w prev (times_in_row from pace parts n) ≡ busy_at w prev (from / parts)
unfolding busy_with times_in_row
in_row w prev from pace parts zero some = absurd (omega (arith, some))
in_row w prev from pace parts (suc n) some = refl

first_place : (from pace : ℕ) → from + 0 * pace ≡ from
first_place from pace = omega arith

pub row_busy : (w : BusyWatch) (prev : ℕ) (row : Row) → 0 < row.bytes → busy_at w prev ((row.from + 0 * row.pace) / row.parts) ≡ busy_with w prev (times_of row)
row_busy w prev row some =
    ap (λ (n : ℕ). busy_at w prev (n / row.parts)) (first_place row.from row.pace) ∙ sym (in_row w prev row.from row.pace row.parts row.bytes some)

two_rows : (w : BusyWatch) (prev from pace parts n : ℕ) (more : List ℕ) → 0 < n →
    busy_with w prev (times_in_row from pace parts n) ≡ busy_with w prev (times_in_row from pace parts n ++ more)
unfolding busy_with times_in_row
two_rows w prev from pace parts zero more some = absurd (omega (arith, some))
two_rows w prev from pace parts (suc n) more some = refl

pub waiting_busy : (w : BusyWatch) (prev : ℕ) (l : Leaving) → 0 < l.waiting.bytes → busy_with w prev (times_of l.waiting) ≡ busy_with w prev (times_left l)
waiting_busy w prev l some = two_rows w prev l.waiting.from l.waiting.pace l.waiting.parts l.waiting.bytes (times_of l.free) some

none_first : (w : BusyWatch) (prev from pace parts n : ℕ) (more : List ℕ) → n ≡ 0 →
    busy_with w prev more ≡ busy_with w prev (times_in_row from pace parts n ++ more)
unfolding times_in_row
none_first w prev from pace parts zero more e = refl
none_first w prev from pace parts (suc n) more e = absurd (omega (arith, e))

pub free_busy : (w : BusyWatch) (prev : ℕ) (l : Leaving) → l.waiting.bytes ≡ 0 → busy_with w prev (times_of l.free) ≡ busy_with w prev (times_left l)
free_busy w prev l none = none_first w prev l.waiting.from l.waiting.pace l.waiting.parts l.waiting.bytes (times_of l.free) none
