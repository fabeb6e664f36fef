-- Counts of a stream: excesses, units, and for a window the bytes in its buffers and the units that ended.
use Rattle.std.specs.Prelude.{ℕ, ◌+◌, ◌-◌, ◌^◌, ◌==◌, max, min, nat_lt, Bool, if◌then◌else◌, is_some, length, Option, Some, None}
use Rattle.tstd_rows.specs.Entering.{EnteredView}
use Rattle.tstd_rows.specs.Lows.{least_of_both}
use Rattle.tstd_rows.specs.declared.unit_seen.UnitSeen.{UnitSeen}
use Rattle.es_events.specs.declared.tally.Tally.{Tally}
use Rattle.es_events.specs.Traces.{no_traces, traces_after}
use Rattle.es_events.specs.declared.row.TraceRow.{TraceRow}
use Rattle.tstd_rows.specs.Held.{Held}
use Rattle.tstd_rows.specs.History.{last_of}
use Rattle.tstd_rows.specs.Limits.{tb_size}

abbrev pub none_counted : Tally
none_counted = record {
  excesses = 0;
  main_excesses = 0;
  units = 0;
  late = 0;
  unread = 0;
  window = 0;
  window_transport = 0;
  window_main = 0;
  window_least = None;
  window_units = 0;
  window_late = 0;
  slack = 2 ^ 128 - 1;
  traces = no_traces;
}

-- numbers stop at 2^64 - 1
abbrev pub more : ℕ → ℕ → ℕ
more n count = min (n + count) (2 ^ 64 - 1)

-- another window than the last packet's has none yet
abbrev pub in_window : Tally → ℕ → Tally
in_window t window =
    if t.window == window then t else record t {
      window = window;
      window_transport = 0;
      window_main = 0;
      window_least = None;
      window_units = 0;
      window_late =
          0;
      slack = 2 ^ 128 - 1;
    }

-- the most bytes in each buffer when a packet of the window entered, and the least that a byte of it found in the main buffer
abbrev pub grown : Tally → EnteredView → Tally
grown t e = record t {
  window_transport = max t.window_transport e.transport_most;
  window_main = max t.window_main e.main_most;
  window_least = least_of_both t.window_least e.main_least;
}

abbrev pub with_packet : Tally → ℕ → EnteredView → Tally
with_packet t window e = grown (in_window t window) e

-- a unit is late if its last byte leaves the transport buffer after it is due
abbrev pub is_late : UnitSeen → Bool
is_late u = nat_lt 0 (u.left - u.due.deadline)

abbrev pub counted : Tally → UnitSeen → Tally
counted t u = record t {
  units = more t.units 1;
  late = more t.late (if is_late u then 1 else 0);
  window_units = more t.window_units 1;
  window_late = more t.window_late (if is_late u then 1 else 0);
  slack = min t.slack (u.due.deadline - u.left);
}

abbrev pub with_unit : Tally → ℕ → UnitSeen → Tally
with_unit t window u = counted (in_window t window) u

unfoldable pub with_unit_if : Tally → ℕ → Option UnitSeen → Tally
with_unit_if t window None = t
with_unit_if t window (Some u) = with_unit t window u

abbrev pub with_excesses : Tally → ℕ → ℕ → Bool → Tally
with_excesses t transport main unread = record t {
  excesses = more t.excesses transport;
  main_excesses = more t.main_excesses main;
  unread = more t.unread (if unread then 1 else 0);
}

-- how many excesses ended, of the transport buffer and of the main buffer
abbrev pub excess_counts : EnteredView → ℕ × ℕ
excess_counts e = (length e.transport, length e.main)

-- counts of the excesses and the unit that a packet, or a part of it, has ended; `unread` if the unit's header was not read
abbrev pub tally_after : Tally → ℕ → Bool → EnteredView → Tally
tally_after t window unread e = with_unit_if (with_excesses (with_packet t window e) (length e.transport) (length e.main) unread) window e.unit

-- the row of a packet, or of a part of it: the bytes that it found in the buffers; `Held` is their state after it
abbrev pub row_of : Held → ℕ → EnteredView → TraceRow
row_of h packet e = record {
  packet = packet;
  left = last_of h.rate h.parts;
  transport = e.transport_most;
  main = e.main_most;
  least = e.main_least;
  begins = is_some e.unit;
}

-- the row is kept for traces; the main buffer has this size
abbrev pub with_row : Tally → ℕ → TraceRow → Tally
with_row t main row = record t { traces = traces_after t.traces row tb_size main }

-- a packet, or a part of it, is counted, and its row is kept
abbrev pub tally_with : Tally → ℕ → Bool → Held → ℕ → EnteredView → Tally
tally_with t window unread h packet e = with_row (tally_after t window unread e) h.main.size (row_of h packet e)
