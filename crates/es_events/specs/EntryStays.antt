-- How long the bytes of a stream stay in its buffers, and how long the buffers are not empty (ISO/IEC 13818-1, 2.4.2.6; ETSI TR 101 290, 5.2.3,
-- 3.9 and 3.10).
use Rattle.std.specs.Prelude.{ℕ, ◌+◌, ◌-◌, ◌*◌, ◌/◌, ◌^◌, ◌==◌, ◌&&◌, not, max, min, nat_lt, is_some, Bool, if◌then◌else◌, List, [], ◌∷◌, ◌++◌, Option, Some}
use Rattle.std.specs.Prelude.{None, option_map}
use Rattle.arrival.specs.Arrivals.{moment_on, step_of}
use Rattle.arrival.specs.declared.arrival.Arrival.{Arrival}
use Rattle.arrival.specs.declared.arrival.Arrival.TheVariants.{Unknown, AtRate, OnLines}
use Rattle.tstd_rows.specs.declared.busy_watch.BusyWatch.{BusyWatch}
use Rattle.tstd_rows.specs.declared.busy_watch.Stay.{Stay}
use Rattle.events.specs.declared.event.Event.{Event}
use Rattle.events.specs.declared.event.Event.TheVariants as found
use Rattle.events.specs.declared.rule_event.BufferKind.{BufferKind}
use Rattle.events.specs.declared.rule_event.RuleEvent.TheVariants.{NotEmpty, Delayed}
use Rattle.es_events.specs.Clocks.{first_byte}
use Rattle.es_events.specs.EntryEvents.{moment_of}
use Rattle.es_events.specs.declared.entry_events.Place.{Place}
use Rattle.es_events.specs.declared.view_options.ViewOptions.{ViewOptions}

-- 1. Bytes that stay too long: the first byte of a unit stays longest

-- the first payload byte of the packet at an index, of `size` bytes of payload
abbrev pub payload_byte : ℕ → ℕ → ℕ
payload_byte index size = min (first_byte index + (188 - size)) (2 ^ 64 - 1)

-- the whole ticks from the stream's first byte to another byte, if they are known
unfoldable pub place_at : Arrival → ℕ → Option ℕ
place_at Unknown byte = None
place_at (AtRate rate) byte = Some byte
place_at (OnLines lines) byte = Some (moment_on lines byte)

abbrev pub ticks_at : Arrival → ℕ → Option ℕ
ticks_at arrival byte = option_map (λ place. place * 216000000 / max 1 (step_of arrival)) (place_at arrival byte)

-- a byte that comes at `begin` and is decoded at `end` stays longer than `limit`
unfoldable pub overstay : ℕ → Option ℕ → ℕ → Option Stay
overstay limit None end = None
overstay limit (Some begin) end = if nat_lt limit (end - begin) then Some (record { begin = begin; end = end }) else None

abbrev pub overstay_of : ViewOptions → ℕ → ℕ → ℕ → Option Stay
overstay_of options limit byte end = overstay limit (ticks_at options.arrival byte) end

-- the stay of a byte of a unit, if a unit begins and is due at this time
unfoldable pub overstay_if : ViewOptions → ℕ → ℕ → Option ℕ → Option Stay
overstay_if options limit byte None = None
overstay_if options limit byte (Some end) = overstay_of options limit byte end

abbrev pub delayed_event : ViewOptions → Place → BufferKind → ℕ → Stay → Event
delayed_event options place buffer limit s = found.Rule (Delayed (record {
  number = place.pid;
  buffer = buffer;
  packet = place.packet;
  begin = s.begin - options.origin;
  end = s.end - options.origin;
  limit = limit;
}))

unfoldable pub delayed_events : ViewOptions → Place → BufferKind → ℕ → Option Stay → List Event
delayed_events options place buffer limit None = []
delayed_events options place buffer limit (Some s) = delayed_event options place buffer limit s ∷ []

-- 2. Buffers that are not empty for more than a second

abbrev pub second : ℕ
second = 27000000

abbrev pub busy_event : ViewOptions → Place → BufferKind → Stay → Event
busy_event options place buffer s = found.Rule (NotEmpty (record {
  number = place.pid;
  buffer = buffer;
  packet = place.packet;
  begin = moment_of options place.rx s.begin;
  end = moment_of options place.rx s.end;
  limit = second;
}))

-- such a time has ended with a packet, if more than `count` are counted after it
abbrev pub busy_since : ViewOptions → Place → BufferKind → ℕ → BusyWatch → List Event
busy_since options place buffer count after = if nat_lt count after.count then busy_event options place buffer after.last ∷ [] else []

abbrev pub busy_ended : ViewOptions → Place → BufferKind → BusyWatch → BusyWatch → List Event
busy_ended options place buffer before after = busy_since options place buffer before.count after

-- an event for a stay that is current at the end
unfoldable pub busy_closing : ViewOptions → Place → BufferKind → Option Stay → List Event
busy_closing options place buffer None = []
busy_closing options place buffer (Some s) = busy_event options place buffer s ∷ []

-- no byte stayed too long
abbrev pub is_idle : BusyWatch → Option Stay → Bool
is_idle w under_way = w.count == 0 && not (is_some under_way)
