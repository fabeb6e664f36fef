-- The state of a transport buffer, and how bytes change it.
use Rattle.std.specs.Prelude.{ℕ, ◌+◌, ◌-◌, ◌*◌, ◌/◌, ◌^◌, ◌<◌, ◌≤◌, max, List, ◌++◌, length}
use Rattle.clock27.specs.Departure.{last_left}
use Rattle.clock27.specs.Peak.{most_found}
use Rattle.arrival.specs.Rows.{times_of}
use Rattle.arrival.specs.declared.row.Row.{Row}
use Rattle.tstd_rows.specs.declared.leaving.Leaving.{Leaving}
use Rattle.tstd_rows.specs.declared.transport_buffer.TransportBuffer.{TransportBuffer}

-- the first bytes of a row: they wait until the byte before them leaves at `prev`
abbrev pub waiting_row : ℕ → ℕ → ℕ → Row
waiting_row step prev count = record { from = prev + step; pace = step; parts = 1; bytes = count }

-- the remaining bytes of the row: each finds the buffer empty
abbrev pub free_row : ℕ → Row → ℕ → Row
free_row step row count = record {
  from = row.from + count * row.pace + step * row.parts;
  pace = row.pace;
  parts = row.parts;
  bytes = row.bytes - count;
}

-- the times at which the bytes of a row leave
abbrev pub times_left : Leaving → List ℕ
times_left leaving = times_of leaving.waiting ++ times_of leaving.free

-- a buffer after bytes that arrived at these times
abbrev pub entered : TransportBuffer → List ℕ → TransportBuffer
entered buffer times = record {
  step = buffer.step;
  bytes = buffer.bytes + length times;
  last = last_left buffer.step buffer.last times;
  most = max buffer.most (most_found buffer.step buffer.last times);
}

-- the number of bytes in the buffer at a moment at or after the last arrival
abbrev pub level_at : TransportBuffer → ℕ → ℕ
level_at buffer moment = ((buffer.last - moment) + (buffer.step - 1)) / buffer.step

-- every time of a row is at most 2^86 + 2^69: this bounds the arrival times of a stream, and the times at which its bytes leave a buffer with a step of at
-- most 2^28
abbrev pub IsSoon : Row → Type 0
IsSoon row = row.from + row.bytes * row.pace ≤ (2 ^ 86 + 2 ^ 69) * row.parts

-- bounds of the rows of n bytes that leave a buffer: both end at most n + 1 steps after `latest`
pub record RowsSoon (step latest n : ℕ) (leaving : Leaving) : Type 0 where
  pub waiting : leaving.waiting.from + leaving.waiting.bytes * leaving.waiting.pace ≤ (latest + (n + 1) * step) * leaving.waiting.parts
  pub free : leaving.free.from + leaving.free.bytes * leaving.free.pace ≤ (latest + (n + 1) * step) * leaving.free.parts

-- if no byte has arrived after `latest`, the buffer is empty once as many steps have passed as bytes have arrived; the rows of the leaving bytes end at most
-- one step later
pub record LeaveSoon (step bytes last : ℕ) (leaving : Leaving) (latest : ℕ) : Type 0 where
  pub soon : last ≤ latest + bytes * step
  pub rows : RowsSoon step latest bytes leaving

-- the numbers of a buffer are within the bounds for a stream of at most 2^40 bytes
pub record IsPaced (buffer : TransportBuffer) : Type 0 where
  pub some : 0 < buffer.step
  pub slow : buffer.step ≤ 2 ^ 40
  pub few : buffer.bytes ≤ 2 ^ 40
  pub soon : buffer.last ≤ 2 ^ 86 + 2 ^ 69 + buffer.bytes * buffer.step
