-- The clocks of programs, and when units are due by them (ISO/IEC 13818-1, 2.4.2.2, 2.4.3.5 and 2.4.3.7).
--
-- The bytes of a stream arrive in time, and the last clock reference of a program before a unit says what the clock shows then. A time is
-- counted in bytes at a constant rate, and in ticks of 27 MHz on lines: a byte of a rate of 216,000,000 bits a second is a tick.
use Rattle.std.specs.Prelude.{ℕ, ◌+◌, ◌-◌, ◌*◌, ◌/◌, ◌%◌, ◌^◌, max, min, nat_eq, nat_lt, Bool, if◌then◌else◌, List, [], Option, Some, None, option_and_then}
use Rattle.std.specs.Prelude.{Result, Ok, Err}
use Rattle.std.specs.Map.{lookup}
use Rattle.indexmap.specs.IndexMap.{insert_entry}
use Rattle.clock27.specs.Reference.{Reference}
use Rattle.ts_packet.specs.Views.{AdaptationView, PacketView, NoFlags, WithFlags}
use Rattle.pes_packet.specs.Reading.{header_at}
use Rattle.pes_packet.specs.declared.refusal.PesError.{PesError}
use Rattle.pes_packet.specs.declared.reading.PesHeader.{PesHeader}
use Rattle.pes_packet.specs.declared.time_stamps.Stamps.{Stamps}
use Rattle.pes_packet.specs.declared.time_stamps.Stamps.TheVariants.{Absent, Pts, PtsDts}
use Rattle.arrival.specs.Arrivals.{moment_on}
use Rattle.arrival.specs.declared.arrival.Arrival.{Arrival}
use Rattle.arrival.specs.declared.arrival.Arrival.TheVariants.{Unknown, AtRate, OnLines}
use Rattle.arrival.specs.Clock.{pcr_period}
use Rattle.arrival.specs.declared.clock.PcrSample.{PcrSample}
use Rattle.tstd_rows.specs.DueTimes.{due_on}
use Rattle.tstd_rows.specs.declared.unit_seen.DueTime.{DueTime}
use Rattle.es_events.specs.declared.clocks.TheConstants.{LAST_TICK}
use Rattle.es_events.specs.declared.clocks.Beginning.{Beginning}
use Rattle.es_events.specs.declared.clocks.Beginning.TheVariants.{Nothing, Unread, Stamped}

-- 1. Clock references

-- the last clock reference of each PID
abbrev pub ClockEntries : Type 0
ClockEntries = List (ℕ × PcrSample)

abbrev pub no_clocks : ClockEntries
no_clocks = []

abbrev pub clock_of : ClockEntries → ℕ → Option PcrSample
clock_of clocks pid = lookup (nat_eq pid) clocks

-- the first byte of the packet at an index, and byte 10 of that packet, where the base of its reference ends
abbrev pub first_byte : ℕ → ℕ
first_byte index = min (index * 188) (2 ^ 64 - 1)

abbrev pub base_byte : ℕ → ℕ
base_byte index = min (first_byte index + 10) (2 ^ 64 - 1)

-- the place at which that byte comes: none before the first line is known
unfoldable pub place_of : Arrival → ℕ → Option ℕ
place_of Unknown index = None
place_of (AtRate rate) index = Some (base_byte index)
place_of (OnLines lines) index = Some (moment_on lines (base_byte index))

-- the reference of a packet, with its time in place of its byte
unfoldable pub sample_at : Option ℕ → Bool → Reference → Option PcrSample
sample_at None discontinuity r = None
sample_at (Some place) discontinuity r = Some (record { byte = place; ticks = r.base % 2 ^ 33 * 300 + r.extension; discontinuity = discontinuity })

unfoldable pub sample_in : Option ℕ → Option AdaptationView → Option PcrSample
sample_in place None = None
sample_in place (Some NoFlags) = None
sample_in place (Some (WithFlags parts)) = option_and_then (sample_at place parts.discontinuity_indicator) parts.pcr

unfoldable pub with_sample : ClockEntries → ℕ → Option PcrSample → ClockEntries
with_sample clocks pid None = clocks
with_sample clocks pid (Some sample) = insert_entry nat_eq clocks pid sample

abbrev pub clocks_after : ClockEntries → Arrival → ℕ → PacketView → ClockEntries
clocks_after clocks arrival index packet = with_sample clocks packet.header.pid (sample_in (place_of arrival index) packet.adaptation)

-- 2. What begins with the payload of a packet

unfoldable pub by_stamps : Stamps → Beginning
by_stamps Absent = Nothing
by_stamps (Pts pts) = Stamped pts
by_stamps (PtsDts pts dts) = Stamped dts

unfoldable pub by_header : Result (PesHeader × ℕ) PesError → Beginning
by_header (Err error) = Unread
by_header (Ok read) = by_stamps read.0.stamps

unfoldable pub by_payload : Bool → Option (List ℕ) → Beginning
by_payload starts None = Nothing
by_payload starts (Some payload) = if starts then by_header (header_at payload) else Nothing

abbrev pub beginning_of : PacketView → Beginning
beginning_of packet = by_payload packet.header.payload_unit_start_indicator packet.payload

-- 3. When a unit is due

-- the longest time in ticks that a unit may stay in a decoder: one minute (2.4.2.6)
abbrev pub longest_stay : ℕ
longest_stay = 1620000000

-- how long after a reference the clock next shows a stamp, in ticks
abbrev pub ahead_of : PcrSample → ℕ → ℕ
ahead_of clock dts = (dts % 2 ^ 33 * 300 + pcr_period - clock.ticks % pcr_period) % pcr_period

-- the whole ticks of 27 MHz from the stream's first byte to the byte of a reference: its value is the clock's at that byte, rounded down to whole ticks
-- (2.4.2.2)
abbrev pub tick_of : ℕ → PcrSample → ℕ
tick_of rate clock = min (clock.byte * 216000000 / max 1 rate) LAST_TICK

-- when it is due, in ticks from the stream's first byte: before the reference, where that is nearer, and no earlier than that byte; and no
-- later than a unit may stay after the reference
abbrev pub due_tick : ℕ → PcrSample → ℕ → ℕ
due_tick rate clock dts =
    if nat_lt (ahead_of clock dts) (pcr_period / 2) then tick_of rate clock + min (ahead_of clock dts) longest_stay
    else tick_of rate clock - (pcr_period - ahead_of clock dts)

-- in units of time at its buffer
abbrev pub due_at : ℕ → ℕ → PcrSample → ℕ → DueTime
due_at rate rx clock dts = due_on rate rx (due_tick rate clock dts)
