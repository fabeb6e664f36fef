-- How long a buffer is not empty. A transport buffer, and by the leak method a multiplexing buffer, is empty at least once a second (ISO/IEC
-- 13818-1, 2.4.2.6).
--
-- A buffer is tested once a row, when the first byte of the row arrives: it is empty then if the byte before the row has left. So a buffer is taken as not
-- empty from the first byte of a row until the last byte of the last row has left before the next row.
use Rattle.std.specs.Prelude.{ℕ, ◌+◌, ◌-◌, ◌*◌, ◌/◌, ◌^◌, min, nat_lt, Bool, if◌then◌else◌, List, [], ◌∷◌, Option, Some, None}
use Rattle.tstd_rows.specs.History.{Part, last_of, left_after}
use Rattle.tstd_rows.specs.History.Part.{Passes, Carries, Begins}
use Rattle.tstd_rows.specs.VideoViewed.{last_leaked}
use Rattle.tstd_rows.specs.declared.busy_watch.BusyWatch.{BusyWatch}
use Rattle.tstd_rows.specs.declared.busy_watch.Stay.{Stay}

-- a second, in units of time at a buffer of 8 / (step * rx) seconds, rounded down: whole times that are longer are longer than it
abbrev pub second_of : ℕ → ℕ → ℕ
second_of step rx = step * rx / 8

-- a buffer before its first byte; it may be not empty for at most `limit`
abbrev pub never_busy : ℕ → BusyWatch
never_busy limit = record { limit = limit; since = 0; count = 0; last = record { begin = 0; end = 0 } }

-- the buffer was not empty for longer than `limit`, until `prev`
abbrev pub is_overlong : BusyWatch → ℕ → Bool
is_overlong w prev = nat_lt w.limit (prev - w.since)

-- bytes arrive from t on, and the last byte before them leaves at `prev`: either the buffer is empty before them, or its current stay continues
abbrev pub busy_again : BusyWatch → ℕ → ℕ → BusyWatch
busy_again w prev t = record {
  limit = w.limit;
  since = t;
  count = if is_overlong w prev then min (w.count + 1) (2 ^ 64 - 1) else w.count;
  last = if is_overlong w prev then record { begin = w.since; end = prev } else w.last;
}

abbrev pub busy_at : BusyWatch → ℕ → ℕ → BusyWatch
busy_at w prev t = if nat_lt prev t then busy_again w prev t else w

-- the same for the bytes of a row
unfoldable pub busy_with : BusyWatch → ℕ → List ℕ → BusyWatch
busy_with w prev [] = w
busy_with w prev (t ∷ ts) = busy_at w prev t

-- the transport buffer after these parts: it is tested when bytes arrive that stop there, such as the header of each packet
unfoldable pub busy_of : ℕ → ℕ → List Part → BusyWatch
busy_of step limit [] = never_busy limit
busy_of step limit (Passes times ∷ before) = busy_with (busy_of step limit before) (last_of step before) times
busy_of step limit (Carries times ∷ before) = busy_of step limit before
busy_of step limit (Begins due ∷ before) = busy_of step limit before

-- the multiplexing buffer after these parts: it is tested when payload bytes leave the transport buffer
unfoldable pub leak_busy : ℕ → ℕ → ℕ → List Part → BusyWatch
leak_busy rate leak limit [] = never_busy limit
leak_busy rate leak limit (Passes times ∷ before) = leak_busy rate leak limit before
leak_busy rate leak limit (Carries times ∷ before) = busy_with (leak_busy rate leak limit before) (last_leaked rate leak before) (left_after rate before times)
leak_busy rate leak limit (Begins due ∷ before) = leak_busy rate leak limit before

-- the current stay, if it is longer than the limit when the last byte has left at `last`
abbrev pub busy_under_way : BusyWatch → ℕ → Option Stay
busy_under_way w last = if is_overlong w last then Some (record { begin = w.since; end = last }) else None
