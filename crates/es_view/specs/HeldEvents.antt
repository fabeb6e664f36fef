-- Events of a stream in a window: the bytes in its buffers, and the units that ended in it.
use Rattle.std.specs.Prelude.{ℕ, ◌==◌, ◌&&◌, nat_lt, if◌then◌else◌, List, [], ◌∷◌, ◌++◌, Option, Some, None}
use Rattle.tstd_rows.specs.Held.{Held}
use Rattle.tstd_rows.specs.History.{last_of, main_fullness}
use Rattle.events.specs.declared.event.Event.{Event}
use Rattle.events.specs.declared.event.Event.TheVariants as found
use Rattle.es_events.specs.declared.entry_events.Place.{Place}
use Rattle.es_events.specs.declared.tally.Tally.{Tally}
use Rattle.es_events.specs.declared.view_options.ViewOptions.{ViewOptions}
use Rattle.es_events.specs.EntryEvents.{span_of}

-- the bytes in the main buffer when the last byte of the stream so far has left the transport buffer
abbrev pub main_now : Held → ℕ
main_now h = main_fullness h.rate h.parts (last_of h.rate h.parts)

-- the most bytes in the main buffer when a payload byte of the window entered it, that byte included, and the least that such a byte found, itself not
-- counted; if none entered, the bytes in the buffer after the stream's last packet
unfoldable pub main_held : ℕ → Held → Option ℕ → ℕ × ℕ
main_held most h None = (main_now h, main_now h)
main_held most h (Some least) = (most, least)

-- in addition the most bytes in the transport buffer when a byte of the window's packets entered it
abbrev pub held_with : Place → Tally → ℕ × ℕ → Event
held_with place t main = found.Held (record {
  number = t.window;
  pid = place.pid;
  transport = t.window_transport;
  main = main.0;
  main_least = main.1;
})

abbrev pub held_event : Place → Tally → Held → Event
held_event place t h = held_with place t (main_held t.window_main h t.window_least)

abbrev pub held_events : ℕ → Place → Tally → Held → List Event
held_events window place t h = if (t.window == window) && nat_lt 0 t.window_transport then held_event place t h ∷ [] else []

-- the units that ended in the window, with the least slack of a unit
abbrev pub unit_event : ViewOptions → Place → Tally → Event
unit_event options place t = found.Units (record {
  number = t.window;
  pid = place.pid;
  units = t.window_units;
  late = t.window_late;
  slack = span_of options place.rx t.slack;
})

abbrev pub unit_events : ViewOptions → ℕ → Place → Tally → List Event
unit_events options window place t = if (t.window == window) && nat_lt 0 t.window_units then unit_event options place t ∷ [] else []

abbrev pub tally_events : ViewOptions → ℕ → Place → Tally → Held → List Event
tally_events options window place t h = held_events window place t h ++ unit_events options window place t
