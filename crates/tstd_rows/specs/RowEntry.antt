-- Bytes that enter a main buffer at these times, of a unit that stays until `until`.
use Rattle.std.specs.Prelude.{ℕ, ◌+◌, max, Bool, nat_le, nat_lt, ◌&&◌, List, count_by}
use Rattle.clock27.specs.Peak.{greatest_at}
use Rattle.tstd.specs.declared.main_buffer.MainBuffer.{MainBuffer}
use Rattle.tstd.specs.BufferState.{fullness_at}

-- a byte that enters at t is in the buffer at the moment x
abbrev pub has_entered : ℕ → ℕ → ℕ → Bool
has_entered until x t = nat_le t x && nat_lt x until

-- the number of these bytes that are in the buffer at the moment x
abbrev pub entered : ℕ → ℕ → List ℕ → ℕ
entered until x times = count_by (has_entered until x) times

-- the bytes in a buffer at the moment x, including these bytes
abbrev pub fullness_with : {A : Type 0} → MainBuffer A → List ℕ → ℕ → ℕ
fullness_with buffer times x = fullness_at buffer x + entered buffer.current.until x times

-- the greatest fullness so far, including the entries of these bytes
abbrev pub peak_with : {A : Type 0} → MainBuffer A → List ℕ → ℕ
peak_with buffer times = max buffer.peak (greatest_at (fullness_with buffer times) times)
