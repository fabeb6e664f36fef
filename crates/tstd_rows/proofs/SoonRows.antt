-- When the rows of bytes that leave a buffer end
use Rattle.std.proofs.Common.{◌≡◌, ℕ, ◌+◌, ◌-◌, ◌*◌, ◌^◌, ◌≤◌, arith}
use Rattle.std.proofs.Math.Nat.{mul-le-mul_right}
use Rattle.arrival.specs.declared.row.Row.{Row}
use Rattle.arrival.specs.Rows.{first_bytes, other_bytes}
use Rattle.tstd_rows.specs.declared.leaving.Leaving.{Leaving}
use Rattle.tstd_rows.specs.Buffers.{IsSoon, RowsSoon, waiting_row, free_row}

waiting_soon : (step prev count n latest : ℕ) → count ≤ n → prev ≤ latest → prev + step + count * step ≤ (latest + (n + 1) * step) * 1
waiting_soon step prev count n latest le low = omega (arith, low, mul-le-mul_right step le)

-- The bytes of a row after the first `count` end no later than the row.
others_end : (from pace count rest n latest : ℕ) → n ≡ count + rest → from + n * pace ≤ latest → from + count * pace + rest * pace ≤ latest
others_end from pace count rest n latest all early = omega (arith, rw all at early)

free_soon : (from pace parts step count rest n latest : ℕ) → from + count * pace + rest * pace ≤ latest * parts →
    from + count * pace + step * parts + rest * pace ≤ (latest + (n + 1) * step) * parts
free_soon from pace parts step count rest n latest early = omega (arith, early)

pub rows_soon : (step prev latest count : ℕ) (row : Row) (leaving : Leaving) → leaving.waiting ≡ waiting_row step prev count →
    leaving.free ≡ free_row step row count →
    count ≤ row.bytes → prev ≤ latest → row.from + row.bytes * row.pace ≤ latest * row.parts → RowsSoon step latest row.bytes leaving
rows_soon step prev latest count row leaving waits free le low early =
    rw (waits, free) (record {
      waiting = waiting_soon step prev count row.bytes latest le low;
      free = free_soon row.from row.pace row.parts step count (row.bytes - count) row.bytes latest
          (others_end row.from row.pace count (row.bytes - count) row.bytes (latest * row.parts) (omega (arith, le)) early);
    })

-- A bound remains true if it is raised.
pub raised : (latest more parts end : ℕ) → end ≤ latest * parts → end ≤ (latest + more) * parts
raised latest more parts end le = omega (arith, le)

pub one_more : (latest bytes n step parts end : ℕ) → end ≤ (latest + bytes * step + (n + 1) * step) * parts → end ≤ (latest + (bytes + n + 1) * step) * parts
one_more latest bytes n step parts end le =
    let e : latest + bytes * step + (n + 1) * step ≡ latest + (bytes + n + 1) * step = omega arith in
    rw e at le

-- If a row ends soon, its two parts end soon.
pub parts_soon : (row : Row) (count : ℕ) → count ≤ row.bytes → IsSoon row → IsSoon (first_bytes row count) × IsSoon (other_bytes row count)
parts_soon row count le soon = (
  omega (arith, soon, mul-le-mul_right row.pace le),
  others_end row.from row.pace count (row.bytes - count) row.bytes ((2 ^ 86 + 2 ^ 69) * row.parts) (omega (arith, le)) soon,
)
