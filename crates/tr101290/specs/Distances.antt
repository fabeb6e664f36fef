-- How soon sections follow each other: from the end of a section of service information to the beginning of the next section of the same PID,
-- table_id and table_id_extension at least 25 ms pass (ETSI EN 300 468, 5.1.4.1; ETSI TR 101 211, 4.4; ETSI TR 101 290, 5.2.3, 3.1.a, 3.5.a, 3.6.a, 3.7, 3.8).
use Rattle.std.specs.Prelude.{ℕ, ◌*◌, ◌-◌, ◌/◌, ◌==◌, ◌&&◌, ◌||◌, not, nat_eq, nat_le, nat_lt, is_some, Bool, if◌then◌else◌, List, [], length, Option, Some}
use Rattle.std.specs.Prelude.{None}
use Rattle.std.specs.Map.{lookup}
use Rattle.indexmap.specs.IndexMap.{insert_entry}
use Rattle.tr101290.specs.Intervals.{key_with, section_key}
use Rattle.tr101290.specs.declared.distances.WholeSection.{WholeSection}
use Rattle.tr101290.specs.declared.distances.TheConstants.{LEAST_DISTANCE, MOST_ENDS}
use Rattle.tr101290.specs.declared.intervals.TableError.{TableError}
use Rattle.tr101290.specs.declared.intervals.TableTiming.{TableTiming}
use Rattle.tr101290.specs.declared.intervals.TableTiming.TheVariants.{ConstantRate, Ticks}

-- tables of service information on their PIDs, except stuffing tables
abbrev pub is_spaced : ℕ → ℕ → Bool
is_spaced pid table_id = nat_le 0x10 pid && nat_le pid 0x14 && nat_le 0x40 table_id && nat_le table_id 0x73 && not (table_id == 0x72)

abbrev pub extension_key : WholeSection → ℕ
extension_key section = key_with (section_key section.begin) section.extension

-- the time between two places in ticks of 27 MHz, rounded down
abbrev pub whole_ticks : ℕ → ℕ → ℕ
whole_ticks rate packets = packets * 40608000000 / rate

unfoldable pub time_within : TableTiming → ℕ → ℕ
time_within (ConstantRate rate) places = whole_ticks rate places
time_within Ticks places = places

-- where the last section of each key ends
pub record DistanceState : Type 0 where
  pub timing : TableTiming
  pub ends : List (ℕ × ℕ)

abbrev pub no_end : TableTiming → DistanceState
no_end timing = record { timing = timing; ends = [] }

abbrev pub end_at : DistanceState → WholeSection → Option ℕ
end_at s section = lookup (nat_eq (extension_key section)) s.ends

-- the ends of at most 65,536 keys
abbrev pub kept : DistanceState → ℕ → Bool → ℕ → DistanceState
kept s key known end = if known || nat_lt (length s.ends) MOST_ENDS then record { timing = s.timing; ends = insert_entry nat_eq s.ends key end } else s

abbrev pub taken : DistanceState → WholeSection → DistanceState
taken s section = if is_spaced section.begin.pid section.begin.table_id then kept s (extension_key section) (is_some (end_at s section)) section.end else s

-- the error of a section
abbrev pub distance : TableTiming → WholeSection → ℕ → ℕ
distance timing section before = time_within timing (section.begin.place - before)

unfoldable pub too_soon : TableTiming → WholeSection → Option ℕ → Option TableError
too_soon timing section None = None
too_soon timing section (Some before) =
    if nat_lt (distance timing section before) LEAST_DISTANCE
    then Some (record { section = section.begin; value = distance timing section before; limit = LEAST_DISTANCE }) else None

abbrev pub error_at : DistanceState → WholeSection → Option TableError
error_at s section = if is_spaced section.begin.pid section.begin.table_id then too_soon s.timing section (end_at s section) else None
