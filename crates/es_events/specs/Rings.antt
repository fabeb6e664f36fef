-- The last 64 rows of a stream.
use Rattle.std.specs.Prelude.{ℕ, ◌+◌, ◌%◌, ◌==◌, ◌||◌, Bool, false, if◌then◌else◌, List, ◌++◌, take, drop, replicate, slice_set, None}
use Rattle.es_events.specs.declared.ring.Ring.{Ring}
use Rattle.es_events.specs.declared.row.TraceRow.{TraceRow}

abbrev pub most_rows : ℕ
most_rows = 64

abbrev pub no_row : TraceRow
no_row = record { packet = 0; left = 0; transport = 0; main = 0; least = None; begins = false }

abbrev pub no_rows : Ring
no_rows = record { rows = replicate 64 no_row; next = 0; full = false }

-- the place of the next row
abbrev pub place_in : Ring → ℕ
place_in ring = ring.next % 64

-- in place of the oldest one
abbrev pub with_row : Ring → TraceRow → Ring
with_row ring row = record {
  rows = slice_set ring.rows (place_in ring) row;
  next = (place_in ring + 1) % 64;
  full = ring.full || (place_in ring + 1 == 64);
}

-- the rows that are kept, in their order
abbrev pub rows_of : Ring → List TraceRow
rows_of ring = if ring.full then drop (place_in ring) ring.rows ++ take (place_in ring) ring.rows else take (place_in ring) ring.rows
