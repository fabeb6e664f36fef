-- What a view of a program's tables holds once bytes have arrived at these times.
use Rattle.std.specs.Prelude.{◌≡◌, ℕ, ◌*◌, List}
use Rattle.clock27.specs.Departure.{departures}
use Rattle.tstd_rows.specs.WatchedQueues.{all_entered, empty_queue}
use Rattle.tstd_rows.specs.Limits.{bsys_size, tb_size}
use Rattle.tstd_rows.specs.declared.system_buffers.SystemView.{SystemView}

-- the bytes have passed the first buffer, where a byte takes two steps to leave, and then the second, where a byte takes `system_step` to leave; the current
-- excess of each buffer follows from these bytes
pub record IsSystemViewOf (view : SystemView) (step system_step : ℕ) (times : List ℕ) : Type 0 where
  pub transport : view.transport ≡ all_entered (empty_queue (2 * step) tb_size) times
  pub system : view.system ≡ all_entered (empty_queue system_step bsys_size) (departures (2 * step) 0 times)
