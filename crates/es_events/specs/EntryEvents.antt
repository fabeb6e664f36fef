-- Events of a stream that the tables name.
use Rattle.std.specs.Prelude.{ℕ, ◌+◌, ◌-◌, ◌*◌, ◌/◌, ◌^◌, min, max, is_some, if◌then◌else◌, List, [], ◌∷◌, ◌++◌, map, Option, Some, None}
use Rattle.std.specs.Option.{option_to_list}
use Rattle.stream_coding.specs.declared.coding.Coding.{Coding}
use Rattle.es_buffers.specs.declared.buffers.Buffers.{Buffers}
use Rattle.arrival.specs.Arrivals.{step_of}
use Rattle.stream_programs.specs.Streams.{FoundStreamView}
use Rattle.tstd_rows.specs.declared.excess.Excess.{Excess}
use Rattle.tstd_rows.specs.declared.unit_seen.UnitSeen.{UnitSeen}
use Rattle.tstd_rows.specs.Limits.{tb_size}
use Rattle.tstd_rows.specs.Held.{Held, main_most, transport_most, transport_under_way, unit_before}
use Rattle.tstd_rows.specs.Entering.{EnteredView}
use Rattle.events.specs.declared.event.Event.{Event}
use Rattle.events.specs.declared.event.Event.TheVariants as found
use Rattle.events.specs.declared.rule_event.BufferKind.{BufferKind}
use Rattle.events.specs.declared.rule_event.BufferKind.TheVariants as buffers
use Rattle.events.specs.PidNames.{of_coding}
use Rattle.es_events.specs.Clocks.{longest_stay}
use Rattle.es_events.specs.declared.entry_events.Place.{Place}
use Rattle.es_events.specs.declared.entry_events.MainFigures.{MainFigures}
use Rattle.es_events.specs.declared.tally.Tally.{Tally}
use Rattle.es_events.specs.declared.view_options.ViewOptions.{ViewOptions}
use Rattle.es_events.specs.Tallies.{is_late}

-- 1. Where its buffers begin

abbrev pub stream_event : ℕ → FoundStreamView → Coding → Buffers → Event
stream_event index stream coding buffers = found.Stream (record {
  pid = stream.pid;
  program = stream.program;
  stream_type = stream.stream_type;
  coding = of_coding coding;
  rx = buffers.rx;
  main = buffers.main;
  packet = index;
})

-- 2. What ends with a packet

-- a time of a buffer, which a byte takes `rate` to leave at its own rate, in ticks of 27 MHz, rounded down; numbers stop at 2^128 - 1
abbrev pub ticks_of : ℕ → ℕ → ℕ → ℕ
ticks_of rate rx time = min (time * 216000000) (2 ^ 128 - 1) / max 1 (rate * rx)

-- the time since the first byte of the stream
abbrev pub span_of : ViewOptions → ℕ → ℕ → ℕ
span_of options rx time = ticks_of (step_of options.arrival) rx time

abbrev pub moment_of : ViewOptions → ℕ → ℕ → ℕ
moment_of options rx time = span_of options rx time - options.origin

-- an excess of a buffer, reported at the packet where it ends
abbrev pub excess_event : BufferKind → ViewOptions → Place → Excess → Event
excess_event buffer options place e = found.Excess (record {
  number = place.pid;
  buffer = buffer;
  packet = place.packet;
  begin = moment_of options place.rx e.begin;
  end = moment_of options place.rx e.end;
  peak = e.peak;
  size = place.size;
})

abbrev pub excess_events : BufferKind → ViewOptions → Place → List Excess → List Event
excess_events buffer options place excesses = map (excess_event buffer options place) excesses

-- a late unit, reported at the packet where the next unit begins
abbrev pub late_event : ViewOptions → Place → UnitSeen → Event
late_event options place u = found.Late (record {
  pid = place.pid;
  packet = place.packet;
  due = moment_of options place.rx u.due.until;
  left = moment_of options place.rx u.left;
  by = span_of options place.rx (u.left - u.due.deadline);
  bytes = u.bytes;
})

unfoldable pub late_events : ViewOptions → Place → Option UnitSeen → List Event
late_events options place None = []
late_events options place (Some u) = if is_late u then late_event options place u ∷ [] else []

-- a unit that is due too long after the clock
abbrev pub ahead_event : Place → ℕ → Event
ahead_event place ahead = found.Ahead (record { pid = place.pid; packet = place.packet; by = ahead; limit = longest_stay })

unfoldable pub ahead_events : Place → Option ℕ → List Event
ahead_events place None = []
ahead_events place (Some ahead) = ahead_event place ahead ∷ []

-- the same place with another size
abbrev pub with_size : Place → ℕ → Place
with_size place size = record { pid = place.pid; packet = place.packet; rx = place.rx; size = size }

abbrev pub ended_events : ViewOptions → Place → EnteredView → List Event
ended_events options place e =
    excess_events buffers.Transport options (with_size place tb_size) e.transport
    ++ (excess_events buffers.Main options place e.main ++ late_events options place e.unit)

-- 3. At the end

-- the number of excesses, with a current excess
abbrev pub with_one : ℕ → Option Excess → ℕ
with_one ended under_way = ended + (if is_some under_way then 1 else 0)

abbrev pub transport_event : ℕ → ℕ → ℕ → Event
transport_event pid most excesses = found.Buffer (record {
  pid = pid;
  buffer = buffers.Transport;
  most = most;
  size = tb_size;
  excesses = excesses;
  units = None;
  late = None;
  unread = None;
})

abbrev pub main_event : Place → MainFigures → Tally → Event
main_event place figures t = found.Buffer (record {
  pid = place.pid;
  buffer = buffers.Main;
  most = figures.most;
  size = place.size;
  excesses = figures.excesses;
  units = Some t.units;
  late = Some t.late;
  unread = Some t.unread;
})

-- current excesses come first
abbrev pub under_way_events : ViewOptions → Place → Held → List Event
under_way_events options place h =
    excess_events buffers.Transport options (with_size place tb_size) (option_to_list (transport_under_way h))
    ++ (excess_events buffers.Main options place (option_to_list h.main.under_way) ++ late_events options place (unit_before h))

-- totals of both buffers follow
abbrev pub main_figures : Held → Tally → MainFigures
main_figures h t = record { most = main_most h; excesses = with_one t.main_excesses h.main.under_way }

abbrev pub transport_total : Place → Held → Tally → Event
transport_total place h t = transport_event place.pid (transport_most h) (with_one t.excesses (transport_under_way h))

abbrev pub closing_events : ViewOptions → Place → Held → Tally → List Event
closing_events options place h t =
    under_way_events options place h ++ (transport_total place h t ∷ main_event place (main_figures h t) t ∷ [])
