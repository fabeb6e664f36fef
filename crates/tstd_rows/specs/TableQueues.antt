-- The two buffers of the tables of a program, in series.
use Rattle.std.specs.Prelude.{ℕ, ◌+◌, ◌*◌, ◌<◌, ◌≤◌, ◌^◌}
use Rattle.tstd_rows.specs.declared.watched_queue.WatchedQueue.{WatchedQueue}

-- bounds after `bytes` bytes have arrived: when the last byte leaves each buffer, and the longest time that a byte has stayed there
pub record AreInTime (transport system : WatchedQueue) (bytes : ℕ) : Type 0 where
  pub some : 0 < transport.queue.step
  pub slow : transport.queue.step ≤ 2 ^ 33
  pub system_some : 0 < system.queue.step
  pub system_slow : system.queue.step ≤ 2 ^ 33
  pub last : transport.queue.last ≤ 2 ^ 87 + bytes * 2 ^ 33
  pub left : system.queue.last ≤ 2 ^ 87 + bytes * 2 ^ 34
  pub inner : transport.queue.longest_residence ≤ transport.queue.last
  pub within : system.queue.longest_residence ≤ system.queue.last
