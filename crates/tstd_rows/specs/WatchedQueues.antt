-- A buffer that bytes pass one after another, and its excesses: the times when it holds more bytes than its size.
use Rattle.std.specs.Prelude.{ℕ, List, None}
use Rattle.clock27.specs.Departure.{departures}
use Rattle.tstd.specs.Queues.{all_arrived}
use Rattle.tstd_rows.specs.Excesses.{excess_after, excesses_ended}
use Rattle.tstd_rows.specs.declared.excess.Excess.{Excess}
use Rattle.tstd_rows.specs.declared.watched_queue.WatchedQueue.{WatchedQueue}

-- an empty buffer of `size` bytes, where a byte takes `step` to leave
abbrev pub empty_queue : ℕ → ℕ → WatchedQueue
empty_queue step size = record {
  queue = record { step = step; last = 0; longest_residence = 0 };
  watch = record { size = size; under_way = None };
}

-- the buffer after bytes that arrive at these times
abbrev pub all_entered : WatchedQueue → List ℕ → WatchedQueue
all_entered b times = record {
  queue = all_arrived b.queue times;
  watch = record {
    size = b.watch.size;
    under_way = excess_after b.queue.step b.watch.size b.queue.last b.watch.under_way times;
  };
}

-- when these bytes leave the buffer
abbrev pub left_at : WatchedQueue → List ℕ → List ℕ
left_at b times = departures b.queue.step b.queue.last times

-- the excesses that have ended by then, each before a byte that finds room
abbrev pub ended_by : WatchedQueue → List ℕ → List Excess
ended_by b times = excesses_ended b.queue.step b.watch.size b.queue.last b.watch.under_way times
