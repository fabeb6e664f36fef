-- Bytes that arrive at a transport buffer, and the excess that they end, begin or increase.
use Rattle.std.specs.Prelude.{◌≡◌, ℕ, ◌+◌, ◌<◌, ◌≤◌, ◌^◌, List, Option}
use Rattle.std.specs.Option.{option_to_list}
use Rattle.arrival.specs.declared.row.Row.{Row}
use Rattle.arrival.specs.Rows.{IsTimed}
use Rattle.tstd_rows.specs.declared.excess.Excess.{Excess}
use Rattle.tstd_rows.specs.declared.excess.ExcessWatch.{ExcessWatch}
use Rattle.tstd_rows.specs.declared.transport_buffer.TransportBuffer.{TransportBuffer}
use Rattle.tstd_rows.specs.Buffers.{IsPaced, IsSoon}
use Rattle.tstd_rows.specs.Excesses.{excess_after, excesses_ended}

-- the bytes of a row may arrive at a buffer
pub record CanArrive (buffer : TransportBuffer) (watch : ExcessWatch) (row : Row) : Type 0 where
  pub paced : IsPaced buffer
  pub timed : IsTimed row
  pub soon : IsSoon row
  pub some : 0 < row.bytes
  pub count : buffer.bytes + row.bytes ≤ 2 ^ 40
  pub size : 0 < watch.size
  pub bound : watch.size ≤ 2 ^ 40

-- the change when bytes arrive at these times at the buffer: `excess` is the excess that has ended, `new` holds the current excess
pub record HaveArrived (buffer : TransportBuffer) (times : List ℕ) (old new : ExcessWatch) (excess : Option Excess) : Type 0 where
  pub ended : option_to_list excess ≡ excesses_ended buffer.step old.size buffer.last old.under_way times
  pub under_way : new.under_way ≡ excess_after buffer.step old.size buffer.last old.under_way times
  pub size : new.size ≡ old.size
