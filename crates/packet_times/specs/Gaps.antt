-- Times without a packet of a PID (ETSI TR 101 290, 5.2.1, 1.6 PID_error: "Referred PID does not occur for a user specified period", for video and audio at
-- most 5 s), by the places of packets: their indices at a constant rate, otherwise moments in ticks of 27 MHz.
use Rattle.std.specs.Prelude.{ℕ, ◌-◌, ◌*◌, ◌/◌, nat_eq, nat_lt, if◌then◌else◌, List, [], flat_map, Option, Some, None}
use Rattle.std.specs.Map.{lookup}
use Rattle.std.specs.Option.{option_to_list}
use Rattle.indexmap.specs.IndexMap.{insert_entry}
use Rattle.tr101290.specs.Intervals.{time_between}
use Rattle.tr101290.specs.declared.intervals.TableTiming.{TableTiming}
use Rattle.tr101290.specs.declared.intervals.TableTiming.TheVariants.{ConstantRate, Ticks}
use Rattle.events.specs.declared.event.ClockFault.{ClockFault}
use Rattle.packet_times.specs.declared.gaps.TheConstants.{LONGEST_GAP, LONGEST_SECONDS}

-- the place of the last packet of each PID, in the order of the first packets
pub record GapState : Type 0 where
  pub timing : TableTiming
  pub lasts : List (ℕ × ℕ)

abbrev pub no_packet : TableTiming → GapState
no_packet timing = record { timing = timing; lasts = [] }

abbrev pub taken : GapState → ℕ → ℕ → GapState
taken s pid place = record { timing = s.timing; lasts = insert_entry nat_eq s.lasts pid place }

-- how far two places are apart at most that are no more than some seconds apart: n packets of 1,504 bits last n * 1504 / R seconds at R bits a second
unfoldable pub places_in : TableTiming → ℕ → ℕ
places_in (ConstantRate rate) seconds = seconds * rate / 1504
places_in Ticks seconds = seconds * 27000000

-- a time of more than some seconds without a packet of a PID, which ends at a packet: its ticks, rounded up, and the limit of 5 s
abbrev pub gap_between : TableTiming → ℕ → ℕ → ℕ → ℕ → Option ClockFault
gap_between timing seconds pid packet apart =
    if nat_lt (places_in timing seconds) apart
    then Some (record { pid = pid; packet = packet; value = time_between timing apart; limit = LONGEST_GAP }) else None

unfoldable pub gap_after : TableTiming → ℕ → ℕ → ℕ → Option ℕ → Option ClockFault
gap_after timing pid packet place None = None
gap_after timing pid packet place (Some before) = gap_between timing LONGEST_SECONDS pid packet (place - before)

-- the time before the packet of a PID at an index and a place
abbrev pub gap_at : GapState → ℕ → ℕ → ℕ → Option ClockFault
gap_at s pid index place = gap_after s.timing pid index place (lookup (nat_eq pid) s.lasts)

-- the times from the last packet of each PID to the end, after a number of packets, at a place
abbrev pub stop_of : TableTiming → ℕ → ℕ → ℕ → ℕ × ℕ → List ClockFault
stop_of timing seconds packets place entry = option_to_list (gap_between timing seconds entry.0 packets (place - entry.1))

abbrev pub stopped : GapState → ℕ → ℕ → ℕ → List ClockFault
stopped s seconds packets place = flat_map (stop_of s.timing seconds packets place) s.lasts
