-- Tables that stop before the end of a stream: the time from the last section of a table, or of its part, to the end is longer than a section may take to
-- come (ETSI TR 101 290, 5.2.1: 1.3.a and 1.5.a, "do not occur at least every 0,5 s"; 5.2.3: 3.1, 3.5, 3.6 and 3.8). A section that is open at the end
-- has come.
use Rattle.std.specs.Prelude.{ℕ, ◌/◌, ◌%◌, ◌^◌, if◌then◌else◌, List, [], ◌++◌, flat_map, Option, Some, None}
use Rattle.std.specs.Option.{option_to_list}
use Rattle.tr101290.specs.Intervals.{IntervalState, error_if, pid_of, places_at, section_key, table_id_of}
use Rattle.tr101290.specs.Limits.{limit_of}
use Rattle.tr101290.specs.Parts.{has_parts}
use Rattle.tr101290.specs.declared.intervals.SectionBegin.{SectionBegin}
use Rattle.tr101290.specs.declared.intervals.SectionPlaces.{SectionPlaces}
use Rattle.tr101290.specs.declared.intervals.TableError.{TableError}

-- the section that would begin at the end; PIDs have 16 bits
abbrev pub section_at_end : ℕ → ℕ → ℕ → Option ℕ → SectionBegin
section_at_end packet place key part = record { pid = pid_of key % 65536; table_id = table_id_of key; part = part; packet = packet; place = place }

-- the places of the last sections: of these, unless a section of the table is open
unfoldable pub last_places : SectionPlaces → Option SectionPlaces → SectionPlaces
last_places places None = places
last_places places (Some opened) = opened

-- its error, after the sections with these places, if `opened` has the open sections
abbrev pub error_at_end : IntervalState → IntervalState → SectionBegin → SectionPlaces → Option TableError
error_at_end s opened section places =
    error_if s.timing section (Some (last_places places (places_at opened (section_key section)))) (limit_of section.pid section.table_id)

-- the error of a table without parts
abbrev pub table_error_at_end : IntervalState → IntervalState → SectionBegin → SectionPlaces → List TableError
table_error_at_end s opened section places =
    if has_parts section.pid section.table_id then [] else option_to_list (error_at_end s opened section places)

-- the errors of all tables, and of all parts, whose keys have a part in the last 16 bits: the end has a place, and its packet is the number of packets
abbrev pub table_at_end : IntervalState → IntervalState → ℕ → ℕ → ℕ × SectionPlaces → List TableError
table_at_end s opened packet place entry = table_error_at_end s opened (section_at_end packet place entry.0 None) entry.1

abbrev pub part_at_end : IntervalState → IntervalState → ℕ → ℕ → ℕ × SectionPlaces → List TableError
part_at_end s opened packet place entry =
    option_to_list (error_at_end s opened (section_at_end packet place (entry.0 / 65536 % 2 ^ 32) (Some (entry.0 % 65536))) entry.1)

abbrev pub stopped_wholes : IntervalState → IntervalState → ℕ → ℕ → List TableError
stopped_wholes s opened packet place = flat_map (table_at_end s opened packet place) s.entries

abbrev pub stopped_parts : IntervalState → IntervalState → ℕ → ℕ → List TableError
stopped_parts s opened packet place = flat_map (part_at_end s opened packet place) s.parts

abbrev pub stopped_tables : IntervalState → IntervalState → ℕ → ℕ → List TableError
stopped_tables s opened packet place = stopped_wholes s opened packet place ++ stopped_parts s opened packet place
