-- Where sections begin, by PID and table_id, and where a table has parts by part.
use Rattle.std.specs.Prelude.{ℕ, ◌+◌, ◌-◌, ◌*◌, ◌/◌, ◌%◌, ◌^◌, min, nat_eq, nat_lt, is_some, Bool, if◌then◌else◌, List, [], Option, Some, None}
use Rattle.std.specs.Map.{lookup}
use Rattle.indexmap.specs.IndexMap.{insert_entry}
use Rattle.tr101290.specs.Limits.{limit_of}
use Rattle.tr101290.specs.Parts.{has_parts}
use Rattle.tr101290.specs.declared.intervals.SectionBegin.{SectionBegin}
use Rattle.tr101290.specs.declared.intervals.SectionPlaces.{SectionPlaces}
use Rattle.tr101290.specs.declared.intervals.TableError.{TableError}
use Rattle.tr101290.specs.declared.intervals.TableTiming.{TableTiming}
use Rattle.tr101290.specs.declared.intervals.TableTiming.TheVariants.{ConstantRate, Ticks}

-- 1. A PID and a table_id as one number

abbrev pub key_of : ℕ → ℕ → ℕ
key_of pid table_id = pid * 256 + table_id

abbrev pub pid_of : ℕ → ℕ
pid_of key = key / 256

abbrev pub table_id_of : ℕ → ℕ
table_id_of key = key % 256

-- the key of a part of such a table
abbrev pub key_with : ℕ → ℕ → ℕ
key_with key part = key * 65536 + part

-- 2. Times

-- packets at `rate` bits a second, in ticks of 27 MHz, rounded up: each has 188 bytes of 8 bits
abbrev pub time_of_packets : ℕ → ℕ → ℕ
time_of_packets rate packets = packets * 40608000000 / rate + min 1 (packets * 40608000000 % rate)

-- a time that is beyond its limit
abbrev pub beyond : SectionBegin → ℕ → ℕ → Option TableError
beyond section value limit = if nat_lt limit value then Some (record { section = section; value = value; limit = limit }) else None

-- the time between two places: of packets at a rate, or ticks
unfoldable pub time_between : TableTiming → ℕ → ℕ
time_between (ConstantRate rate) places = time_of_packets rate places
time_between Ticks places = places

-- the time since the section before it, where there is a limit
unfoldable pub error_if : TableTiming → SectionBegin → Option SectionPlaces → Option ℕ → Option TableError
error_if timing section None limit = None
error_if timing section (Some before) None = None
error_if timing section (Some before) (Some limit) = beyond section (time_between timing (section.place - before.last)) limit

-- 3. Sections one after another

unfoldable pub places_after : Option SectionPlaces → SectionBegin → SectionPlaces
places_after None section = record { sections = 1; last = section.place; greatest = 0; at = section.packet }
places_after (Some before) section = record {
  sections = min (before.sections + 1) (2 ^ 64 - 1);
  last = section.place;
  greatest = if nat_lt before.greatest (section.place - before.last) then section.place - before.last else before.greatest;
  at = if nat_lt before.greatest (section.place - before.last) then section.packet else before.at;
}

-- the sections of each key, in the order of the keys' first sections, and the sections of each key with a part
pub record IntervalState : Type 0 where
  pub timing : TableTiming
  pub entries : List (ℕ × SectionPlaces)
  pub parts : List (ℕ × SectionPlaces)

abbrev pub no_section : TableTiming → IntervalState
no_section timing = record { timing = timing; entries = []; parts = [] }

-- the sections of a key
abbrev pub places_at : IntervalState → ℕ → Option SectionPlaces
places_at s key = lookup (nat_eq key) s.entries

abbrev pub section_key : SectionBegin → ℕ
section_key section = key_of section.pid section.table_id

-- the sections of a key with a part
abbrev pub part_places_at : IntervalState → ℕ → Option SectionPlaces
part_places_at s key = lookup (nat_eq key) s.parts

abbrev pub part_key : SectionBegin → ℕ → ℕ
part_key section part = key_with (section_key section) part

-- a section of a part came
abbrev pub has_part : IntervalState → ℕ → ℕ → ℕ → Bool
has_part s pid table_id part = is_some (part_places_at s (key_with (key_of pid table_id) part))

-- after a section, of a part or of none
unfoldable pub parts_after : IntervalState → SectionBegin → Option ℕ → List (ℕ × SectionPlaces)
parts_after s section None = s.parts
parts_after s section (Some part) = insert_entry nat_eq s.parts (part_key section part) (places_after (part_places_at s (part_key section part)) section)

abbrev pub with_part : IntervalState → SectionBegin → IntervalState
with_part s section = record { timing = s.timing; entries = s.entries; parts = parts_after s section section.part }

abbrev pub taken : IntervalState → SectionBegin → IntervalState
taken s section = record {
  timing = s.timing;
  entries = insert_entry nat_eq s.entries (section_key section) (places_after (places_at s (section_key section)) section);
  parts = parts_after s section section.part;
}

-- the earlier sections that it has to follow in time: the sections of its part, if its table has parts, otherwise the sections of its table
unfoldable pub part_before : IntervalState → SectionBegin → Option ℕ → Option SectionPlaces
part_before s section None = None
part_before s section (Some part) = part_places_at s (part_key section part)

abbrev pub before_in : IntervalState → SectionBegin → Option SectionPlaces
before_in s section = if has_parts section.pid section.table_id then part_before s section section.part else places_at s (section_key section)

-- its error
abbrev pub error_at : IntervalState → SectionBegin → Option TableError
error_at s section = error_if s.timing section (before_in s section) (limit_of section.pid section.table_id)
