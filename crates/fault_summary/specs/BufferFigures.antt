-- The totals of the buffers of a stream.
use Rattle.std.specs.Prelude.{ℕ, ◌+◌, ◌-◌, ◌*◌, ◌^◌, ◌==◌, min, not, nat_lt, unwrap_or, if◌then◌else◌, Bool, Option, Some, None}
use Rattle.events.specs.declared.event.Event.{Event}
use Rattle.events.specs.declared.event.Event.TheVariants as events
use Rattle.events.specs.declared.event.BufferTotals.{BufferTotals}
use Rattle.events.specs.declared.event.SystemTotals.{SystemTotals}
use Rattle.events.specs.declared.rule_event.BufferKind.{BufferKind}
use Rattle.events.specs.declared.rule_event.BufferKind.TheVariants as kinds
use Rattle.events.specs.declared.summary.BufferVerdict.{BufferVerdict}
use Rattle.events.specs.declared.summary.FaultTotals.{FaultTotals}
use Rattle.events.specs.declared.summary.UnitVerdict.{UnitVerdict}
use Rattle.events.specs.declared.summary.WorstBuffer.{WorstBuffer}
use Rattle.events.specs.BufferKinds.{excess_kind, owner_of}
use Rattle.fault_summary.specs.FaultRows.{RowEntries, key_of, row_at}
use Rattle.fault_summary.specs.declared.buffer_figures.BufferFigures.{BufferFigures}
use Rattle.fault_summary.specs.declared.buffer_figures.BufferMost.{BufferMost}

abbrev pub no_buffer : BufferFigures
no_buffer = record { buffers = 0; over = 0; worst = None; units = 0; late = 0 }

abbrev pub buffer : ℕ → BufferKind → ℕ → ℕ → BufferMost
buffer number kind most size = record { number = number; buffer = kind; most = most; size = size }

-- further over its size, by the parts of it; products stop at 2^128 - 1
abbrev pub parts : ℕ → ℕ → ℕ
parts a b = min (a * b) (2 ^ 128 - 1)

abbrev pub is_further : BufferMost → BufferMost → Bool
is_further next than = nat_lt (parts than.most next.size) (parts next.most than.size)

unfoldable pub worst_of : Option BufferMost → BufferMost → Option BufferMost
worst_of None next = Some next
worst_of (Some before) next = Some (if is_further next before then next else before)

abbrev pub more : ℕ → ℕ → ℕ
more a b = min (a + b) (2 ^ 64 - 1)

-- a buffer more, which was over its size if it has an excess
abbrev pub with_viewed : BufferFigures → BufferMost → ℕ → BufferFigures
with_viewed s next excesses = record {
  buffers = more s.buffers 1;
  over = more s.over (if not (excesses == 0) then 1 else 0);
  worst = if not (excesses == 0) then worst_of s.worst next else s.worst;
  units = s.units;
  late = s.late;
}

-- a buffer that never held a byte was not viewed, and does not count
abbrev pub with_buffer : BufferFigures → BufferMost → ℕ → BufferFigures
with_buffer s next excesses = if next.most == 0 then s else with_viewed s next excesses

abbrev pub with_units : BufferFigures → ℕ → ℕ → BufferFigures
with_units s units late = record { buffers = s.buffers; over = s.over; worst = s.worst; units = more s.units units; late = more s.late late }

-- the units of a stream count once, with its main buffer
unfoldable pub with_units_of : BufferFigures → BufferTotals → BufferKind → BufferFigures
with_units_of s e kinds.Main = with_units s (unwrap_or e.units 0) (unwrap_or e.late 0)
with_units_of s e _ = s

abbrev pub with_totals : BufferFigures → BufferTotals → BufferFigures
with_totals s e = with_units_of (with_buffer s (buffer e.pid e.buffer e.most e.size) e.excesses) e e.buffer

abbrev pub with_system : BufferFigures → SystemTotals → BufferFigures
with_system s e = with_buffer (with_buffer s (buffer e.program kinds.TableTransport e.transport e.transport_size) e.transport_excesses)
    (buffer e.program kinds.System e.main e.main_size) e.main_excesses

unfoldable pub with_event : BufferFigures → Event → BufferFigures
with_event s (events.Buffer e) = with_totals s e
with_event s (events.System e) = with_system s e
with_event s _ = s

abbrev pub unit_verdict : BufferFigures → UnitVerdict
unit_verdict s = record { units = s.units; late = s.late }

-- the times of the worst buffer: from the beginning of its first excess to the end of its last one
unfoldable pub times_by : Option FaultTotals → Option ℕ × Option ℕ
times_by None = (None, None)
times_by (Some t) = (t.count.from, t.count.to)

abbrev pub worst_by : BufferMost → Option ℕ × Option ℕ → WorstBuffer
worst_by w times = record { number = w.number; buffer = w.buffer; most = w.most; size = w.size; from = times.0; to = times.1 }

unfoldable pub worst_in : Option BufferMost → RowEntries → Option WorstBuffer
worst_in None rows = None
worst_in (Some w) rows = Some (worst_by w (times_by (row_at rows (key_of (excess_kind w.buffer) (owner_of w.buffer w.number)))))

abbrev pub buffer_verdict : BufferFigures → RowEntries → BufferVerdict
buffer_verdict s rows = record { buffers = s.buffers; over = s.over; worst = worst_in s.worst rows }
