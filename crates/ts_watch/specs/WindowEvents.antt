-- Events of each PID that has a packet in a window.
use Rattle.std.specs.Prelude.{ℕ, ◌*◌, ◌/◌, ◌^◌, ◌-◌, max, min, List, map, Option, Some, None}
use Rattle.arrival.specs.Arrivals.{moment_on}
use Rattle.arrival.specs.declared.arrival.Arrival.{Arrival}
use Rattle.arrival.specs.declared.arrival.Arrival.TheVariants.{Unknown, AtRate, OnLines}
use Rattle.tr101290.specs.Windows.{WindowView}
use Rattle.tr101290.specs.declared.pid_windows.PidCounts.{PidCounts}
use Rattle.events.specs.declared.event.Event.{Event}
use Rattle.events.specs.declared.event.Event.TheVariants as found
use Rattle.es_events.specs.declared.view_options.ViewOptions.{ViewOptions}
use Rattle.es_events.specs.Clocks.{first_byte}
use Rattle.ts_tables.specs.NamedStreams.{NamedView}
use Rattle.ts_tables.specs.ServiceNames.{NameState, known_name}
use Rattle.ts_watch.specs.PidLabels.{label_of}

-- the window where a packet begins: at R bits a second it begins 1,504,000 / R milliseconds after the packet before it; on lines its first byte comes at
-- a moment in ticks, 27,000 a millisecond; before the first line is known it is the first window
unfoldable pub window_by : Arrival → ViewOptions → ℕ → ℕ
window_by Unknown options index = 0
window_by (AtRate rate) options index = min (index * 1504000 / max 1 (rate * options.window)) (2 ^ 64 - 1)
window_by (OnLines lines) options index = (moment_on lines (first_byte index) - options.origin) / (27000 * max 1 options.window)

abbrev pub window_of : ViewOptions → ℕ → ℕ
window_of options index = window_by options.arrival options index

-- the bits of a number of packets over a window, in bits a second, rounded down
abbrev pub rate_in : ViewOptions → ℕ → ℕ
rate_in options packets = packets * 1504000 / max 1 options.window

-- the name of the service of a program
unfoldable pub service_of : Option (List NameState) → Option ℕ → Option (List ℕ)
service_of names None = None
service_of names (Some program) = known_name program names

-- the bit rate of a PID and its label, by the tables known before
abbrev pub window_event : ViewOptions → NamedView → Option (List NameState) → ℕ → ℕ × PidCounts → Event
window_event options named names window entry = found.Window (record {
  number = window;
  pid = entry.0;
  packets = entry.1.packets;
  pcrs = entry.1.pcrs;
  rate = rate_in options entry.1.packets;
  program = (label_of named entry.0).program;
  coding = (label_of named entry.0).coding;
  service = service_of names (label_of named entry.0).program;
})

abbrev pub window_events : ViewOptions → NamedView → Option (List NameState) → WindowView → List Event
window_events options named names window = map (window_event options named names window.number) window.counts

-- the event of a PID for the whole stream
abbrev pub pid_event : ℕ × PidCounts → Event
pid_event entry = found.Pid (record { number = entry.0; packets = entry.1.packets; pcrs = entry.1.pcrs })

abbrev pub pid_events : WindowView → List Event
pid_events totals = map pid_event totals.counts
