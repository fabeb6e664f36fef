-- Bytes of tables that go from one buffer into another.
use Rattle.std.specs.Prelude.{◌≡◌, ℕ, List, ◌++◌}
use Rattle.tstd_rows.specs.declared.system_buffers.EndedExcesses.{EndedExcesses}
use Rattle.tstd_rows.specs.declared.watched_queue.WatchedQueue.{WatchedQueue}
use Rattle.tstd_rows.specs.WatchedQueues.{all_entered, ended_by, left_at}

-- bytes that arrive at these times pass the first buffer and then the second, and the excesses that end are appended
pub record HavePassed (times : List ℕ) (first second first' second' : WatchedQueue) (before after : EndedExcesses) : Type 0 where
  pub transport : first' ≡ all_entered first times
  pub system : second' ≡ all_entered second (left_at first times)
  pub transport_ended : after.transport.items ≡ before.transport.items ++ ended_by first times
  pub system_ended : after.system.items ≡ before.system.items ++ ended_by second (left_at first times)
