-- The rows around the greatest excess of a buffer: the last 64 of the rows up to 32 after it.
use Rattle.std.specs.Prelude.{ℕ, ◌-◌, ◌==◌, ◌&&◌, nat_lt, Bool, if◌then◌else◌, List, []}
use Rattle.es_events.specs.declared.ring.Ring.{Ring}
use Rattle.es_events.specs.declared.row.TraceRow.{TraceRow}
use Rattle.es_events.specs.declared.traces.Trace.{Trace}
use Rattle.es_events.specs.declared.traces.Traces.{Traces}
use Rattle.es_events.specs.Rings.{no_rows, rows_of, with_row}

abbrev pub no_trace : Trace
no_trace = record { greatest = 0; later = 0; ring = no_rows }

-- the last of its rows has come
abbrev pub settled : Trace → Ring → Trace
settled s ring = record { greatest = s.greatest; later = 0; ring = ring }

-- the buffer is over its size by more than ever before
abbrev pub is_greatest : Trace → ℕ → ℕ → Bool
is_greatest s size most = nat_lt size most && nat_lt s.greatest most

-- after the last row of a ring, in which the buffer held so many bytes
abbrev pub trace_after : Trace → Ring → ℕ → ℕ → Trace
trace_after s ring size most =
    if is_greatest s size most then record { greatest = most; later = 32; ring = s.ring }
    else if nat_lt 1 s.later then record { greatest = s.greatest; later = s.later - 1; ring = s.ring }
    else if s.later == 1 then settled s ring
    else s

-- the ring that has the rows of a trace
abbrev pub ring_of : Trace → Ring → Ring
ring_of s ring = if s.later == 0 then s.ring else ring

-- its rows: none if the buffer was never over its size
abbrev pub trace_rows : Trace → Ring → List TraceRow
trace_rows s ring = if s.greatest == 0 then [] else rows_of (ring_of s ring)

abbrev pub no_traces : Traces
no_traces = record { ring = no_rows; transport = no_trace; main = no_trace }

-- after a row of a stream whose transport buffer and main buffer have these sizes
abbrev pub traces_after : Traces → TraceRow → ℕ → ℕ → Traces
traces_after s row transport main = record {
  ring = with_row s.ring row;
  transport = trace_after s.transport (with_row s.ring row) transport row.transport;
  main = trace_after s.main (with_row s.ring row) main row.main;
}
