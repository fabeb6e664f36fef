-- Which rows are kept around the greatest excess of a buffer: lists have the last row first.
use Rattle.std.specs.Prelude.{◌≡◌, ℕ, ◌-◌, ◌<◌, ◌≤◌, ◌⊎◌, List, [], ◌∷◌, ◌++◌, length, reverse, take, drop, All, Contains}
use Rattle.es_events.specs.declared.ring.Ring.{Ring}
use Rattle.es_events.specs.declared.row.TraceRow.{TraceRow}
use Rattle.es_events.specs.declared.traces.Trace.{Trace}
use Rattle.es_events.specs.declared.traces.Traces.{Traces}
use Rattle.es_events.specs.Rings.{no_rows, rows_of, with_row}
use Rattle.es_events.specs.Traces.{no_trace, no_traces, trace_after, trace_rows, traces_after}

-- the ring after these rows
unfoldable pub ring_after : List TraceRow → Ring
ring_after [] = no_rows
ring_after (row ∷ before) = with_row (ring_after before) row

-- the ring has the last 64 of the rows, in order
abbrev pub LastLaw : Type 0
LastLaw = (rows : List TraceRow) → rows_of (ring_after rows) ≡ reverse (take 64 rows)

-- the trace of a buffer of a size after these rows; `most` gives the buffer's bytes by a row
unfoldable pub kept_after : (TraceRow → ℕ) → ℕ → List TraceRow → Trace
kept_after most size [] = no_trace
kept_after most size (row ∷ before) = trace_after (kept_after most size before) (ring_after (row ∷ before)) size (most row)

-- the first row of all in which the buffer holds the most, which is more than its size, and the last 64 of the rows up to 32 after it
pub record IsKept (most : TraceRow → ℕ) (size : ℕ) (rows kept : List TraceRow) : Type 0 where
  pub later : List TraceRow
  pub greatest : TraceRow
  pub before : List TraceRow
  pub are : rows ≡ later ++ greatest ∷ before
  pub over : size < most greatest
  pub none_more : All (λ r. most r ≤ most greatest) later
  pub first : All (λ r. most r < most greatest) before
  pub is : kept ≡ reverse (take 64 (drop (length later - 32) rows))
  pub among : Contains kept greatest

-- or the buffer never holds more than its size, and no row is kept
pub record IsNone (most : TraceRow → ℕ) (size : ℕ) (rows kept : List TraceRow) : Type 0 where
  pub fits : All (λ r. most r ≤ size) rows
  pub is : kept ≡ []

abbrev pub TraceLaw : Type 0
TraceLaw = (most : TraceRow → ℕ) (size : ℕ) (rows : List TraceRow) →
    IsKept most size rows (trace_rows (kept_after most size rows) (ring_after rows)) ⊎ IsNone most size rows
    (trace_rows (kept_after most size rows) (ring_after rows))

-- the state of a stream after these rows, whose transport buffer and main buffer have these sizes
unfoldable pub all_after : ℕ → ℕ → List TraceRow → Traces
all_after transport main [] = no_traces
all_after transport main (row ∷ before) = traces_after (all_after transport main before) row transport main

-- the state has the ring, and the traces of both buffers
abbrev pub StateLaw : Type 0
StateLaw = (transport main : ℕ) (rows : List TraceRow) → all_after transport main rows ≡ record {
  ring = ring_after rows;
  transport = kept_after (λ r. r.transport) transport rows;
  main = kept_after (λ r. r.main) main rows;
}
