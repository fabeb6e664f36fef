-- Counts of the marks of a stream's units (ISO/IEC 13818-1, 2.4.3.5 and 2.4.3.7).
use Rattle.std.specs.Prelude.{ℕ, ◌+◌, ◌-◌, ◌*◌, ◌/◌, ◌%◌, ◌^◌, ◌==◌, max, min, nat_lt, unwrap_or, Bool, false, if◌then◌else◌, List, [], ◌∷◌, slice_get, Option}
use Rattle.std.specs.Prelude.{Some, None}
use Rattle.ts_packet.specs.Views.{AdaptationView, PacketView, NoFlags, WithFlags}
use Rattle.events.specs.declared.event.Event.{Event}
use Rattle.events.specs.declared.event.Event.TheVariants as found
use Rattle.es_events.specs.declared.clocks.Beginning.{Beginning}
use Rattle.es_events.specs.declared.clocks.Beginning.TheVariants.{Nothing, Unread, Stamped}
use Rattle.es_events.specs.declared.mark_tally.MarkTally.{MarkTally}
use Rattle.es_events.specs.Tallies.{more}

abbrev pub none_marked : MarkTally
none_marked = record { units = 0; access = 0; last = None; distance = 0; aligned = 0 }

-- 1. The marks of a packet where a unit begins

-- random_access_indicator
unfoldable pub has_access : Option AdaptationView → Bool
has_access None = false
has_access (Some NoFlags) = false
has_access (Some (WithFlags parts)) = parts.random_access_indicator

-- data_alignment_indicator, in byte 6 of the PES packet
unfoldable pub has_alignment : Option ℕ → Bool
has_alignment None = false
has_alignment (Some flags) = flags / 4 % 2 == 1

unfoldable pub is_aligned : Option (List ℕ) → Bool
is_aligned payload = has_alignment (slice_get (unwrap_or payload []) 6)

-- 2. Units

-- the time from one DTS to the next, in units of 90 kHz modulo 2^33; 0 if the second is nearer before the first
unfoldable pub time_since : Option ℕ → ℕ → ℕ
time_since None dts = 0
time_since (Some last) dts =
    if nat_lt ((dts % 2 ^ 33 + 2 ^ 33 - last % 2 ^ 33) % 2 ^ 33) (2 ^ 32) then (dts % 2 ^ 33 + 2 ^ 33 - last % 2 ^ 33) % 2 ^ 33 else 0

-- a unit at which a decoder may begin
abbrev pub with_access : MarkTally → ℕ → MarkTally
with_access t dts = record t { access = more t.access 1; distance = max t.distance (time_since t.last dts); last = Some dts }

abbrev pub with_alignment : MarkTally → Bool → MarkTally
with_alignment t aligned = record t { units = more t.units 1; aligned = if aligned then more t.aligned 1 else t.aligned }

abbrev pub with_unit : MarkTally → ℕ → PacketView → MarkTally
with_unit t dts packet =
    if has_access packet.adaptation then with_access (with_alignment t (is_aligned packet.payload)) dts else with_alignment t (is_aligned packet.payload)

-- the unit that begins with a packet, if its header was read
unfoldable pub with_beginning : MarkTally → Beginning → PacketView → MarkTally
with_beginning t Nothing packet = t
with_beginning t Unread packet = t
with_beginning t (Stamped dts) packet = with_unit t dts packet

-- 3. At the end

-- units of 90 kHz as ticks of 27 MHz
abbrev pub ticks_of : ℕ → ℕ
ticks_of time = min (time * 300) (2 ^ 64 - 1)

abbrev pub marks_event : ℕ → MarkTally → Event
marks_event pid t = found.Marks (record { pid = pid; units = t.units; access = t.access; distance = ticks_of t.distance; aligned = t.aligned })

abbrev pub mark_events : ℕ → MarkTally → List Event
mark_events pid t = marks_event pid t ∷ []
