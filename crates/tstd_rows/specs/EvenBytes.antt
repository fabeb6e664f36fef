-- Bytes at an even pace that pass through a buffer without filling it.
use Rattle.std.specs.Prelude.{◌≡◌, ℕ, ◌+◌, ◌-◌, ◌*◌, ◌/◌, ◌<◌, ◌≤◌, List}
use Rattle.clock27.specs.Departure.{last_left}
use Rattle.tstd.specs.Queues.{greatest_residence}
use Rattle.arrival.specs.Rows.{times_in_row}
use Rattle.tstd_rows.specs.WatchedQueues.{left_at}
use Rattle.tstd_rows.specs.declared.even_bytes.EvenBytes.{EvenBytes}
use Rattle.tstd_rows.specs.declared.watched_queue.WatchedQueue.{WatchedQueue}

-- `times` are the times of a row; `even` has the times of its first and of its last byte
pub record AreEven (even : EvenBytes) (times : List ℕ) : Type 0 where
  pub from : ℕ
  pub some : 0 < even.bytes
  pub some_parts : 0 < even.parts
  pub row : times ≡ times_in_row from even.pace even.parts even.bytes
  pub first : even.first ≡ from / even.parts
  pub last : even.last ≡ (from + (even.bytes - 1) * even.pace) / even.parts

-- bytes that arrive at an even pace leave at an even pace, and each leaves within the time that a full buffer takes to empty
pub record PassEvenly (b : WatchedQueue) (even left : EvenBytes) : Type 0 where
  pub leave : (times : List ℕ) → AreEven even times → AreEven left (left_at b times)
  pub last : (times : List ℕ) → AreEven even times → last_left b.queue.step b.queue.last times ≡ left.last
  pub longest : (times : List ℕ) → AreEven even times → greatest_residence b.queue.step b.queue.last times ≡ left.last - even.last
  pub room : left.last - even.last ≤ b.watch.size * b.queue.step
