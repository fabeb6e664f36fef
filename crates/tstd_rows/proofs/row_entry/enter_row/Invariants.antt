use Rattle.std.proofs.Common.{◌≡◌, ℕ, ◌+◌, ◌≤◌, All}
use Rattle.arrival.specs.Rows.{IsTimed, times_of}
use Rattle.tstd.specs.BufferState.{IsSound}
use Rattle.tstd_rows.specs.RowEntry.{fullness_with, peak_with}
use Rattle.tstd_rows.specs.Least.{least_in}
use Rattle.tstd_rows.proofs.row_entry.enter_row.Given as goal

abbrev pub invariant-loop-rest : goal.invariant-loop-rest
invariant-loop-rest g l = record {
  sound : IsSound l.buffer;
  timed : IsTimed l.rest;
  until : l.buffer.current.until ≡ l.fn.buffer.current.until;
  fullness : l.buffer.fullness + l.rest.bytes ≤ l.fn.buffer.fullness + l.row.bytes;
  later : (x : ℕ) → All (λ t. t ≤ x) (times_of l.row) → All (λ t. t ≤ x) (times_of l.rest);
  there : (x : ℕ) → All (λ t. t ≤ x) (times_of l.row) →
      fullness_with l.buffer (times_of l.rest) x ≡ fullness_with l.fn.buffer (times_of l.row) x;
  least : least_in l.buffer l.lowest (times_of l.rest) ≡ least_in l.fn.buffer l.fn.least (times_of l.row);
  peak : peak_with l.buffer (times_of l.rest) ≡ peak_with l.fn.buffer (times_of l.row);
}

abbrev pub decreases-loop-rest : goal.decreases-loop-rest
decreases-loop-rest g l = l.rest.bytes
