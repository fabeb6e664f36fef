-- The sections of tables: where they begin, sections that begin too late (ETSI TR 101 290, 5.2.1, 1.3 and 1.5; 5.2.3, 3.1, 3.5, 3.6 and 3.8), and the
-- totals of each table at the end.
use Rattle.std.specs.Prelude.{◌≡◌, ℕ, ◌+◌, ◌-◌, ◌^◌, ◌%◌, min, is_some, Bool, true, false, if◌then◌else◌, unwrap_or, List, [], ◌∷◌, ◌++◌, map, option_and_then}
use Rattle.std.specs.Prelude.{◌==◌, ◌&&◌, ◌||◌, not, Option, Some, None}
use Rattle.arrival.specs.Arrivals.{moment_on}
use Rattle.arrival.specs.declared.arrival.Arrival.{Arrival}
use Rattle.arrival.specs.declared.arrival.Arrival.TheVariants.{Unknown, AtRate, OnLines}
use Rattle.pid_findings.specs.Views.{FindingView, WhatView, IsSection, IsBadSection}
use Rattle.psi_tables.specs.CheckWord.{check_word}
use Rattle.psi_tables.specs.declared.error.SectionError.TheVariants as refusals
use Rattle.demux.specs.Stream.{StreamState, start, pushed}
use Rattle.demux.specs.StreamBodies.{headers_pushed}
use Rattle.demux.specs.FoundSoFar.{with_found}
use Rattle.tr101290.specs.Distances.{DistanceState, no_end}
use Rattle.tr101290.specs.Distances as distances
use Rattle.tr101290.specs.Homes.{belongs}
use Rattle.tr101290.specs.Intervals.{IntervalState, error_at, has_part, key_of, no_section, pid_of, places_at, table_id_of, time_between}
use Rattle.tr101290.specs.Intervals as intervals
use Rattle.tr101290.specs.Limits.{limit_of}
use Rattle.tr101290.specs.Sections.{section_begin, whole_section}
use Rattle.tr101290.specs.declared.distances.WholeSection.{WholeSection}
use Rattle.tr101290.specs.declared.intervals.SectionBegin.{SectionBegin}
use Rattle.tr101290.specs.declared.intervals.SectionPlaces.{SectionPlaces}
use Rattle.tr101290.specs.declared.intervals.TableError.{TableError}
use Rattle.tr101290.specs.declared.intervals.TableTiming.{TableTiming}
use Rattle.events.specs.declared.event.Event.{Event}
use Rattle.events.specs.declared.event.TableFault.{TableFault}
use Rattle.events.specs.declared.rule_event.RuleEvent.TheVariants as rules
use Rattle.events.specs.declared.event.Event.TheVariants as found
use Rattle.events.specs.declared.fault_kind.FaultKind.TheVariants as kinds
use Rattle.es_events.specs.declared.view_options.ViewOptions.{ViewOptions}
use Rattle.es_events.specs.Clocks.{first_byte}
use Rattle.ts_watch.specs.TableNames.{NamesState, no_names, with_each}

-- 1. A section that begins too late

-- the time since the one before it, in ticks of 27 MHz
abbrev pub fault_of : TableError → TableFault
fault_of e = record { pid = e.section.pid; table = e.section.table_id; packet = e.section.packet; value = e.value; limit = e.limit }

abbrev pub error_event : TableError → Event
error_event e = found.TableFault kinds.TableRepetition (fault_of e)

unfoldable pub error_events : Option TableError → List Event
error_events None = []
error_events (Some e) = error_event e ∷ []

unfoldable pub more_errors : ℕ → Option TableError → ℕ
more_errors errors None = errors
more_errors errors (Some e) = min (errors + 1) (2 ^ 64 - 1)

-- 2. Sections one after another

-- the sections of each table, where the last ones end, and how many begin too late
pub record TimesState : Type 0 where
  pub intervals : IntervalState
  pub distances : DistanceState
  pub errors : ℕ

abbrev pub with_section : TimesState → SectionBegin → TimesState
with_section s section = record {
  intervals = intervals.taken s.intervals section;
  distances = s.distances;
  errors = more_errors s.errors (error_at s.intervals section);
}

unfoldable pub with_begin : TimesState → Option SectionBegin → TimesState
with_begin s None = s
with_begin s (Some section) = with_section s section

unfoldable pub begin_events : TimesState → Option SectionBegin → List Event
begin_events s None = []
begin_events s (Some section) = error_events (error_at s.intervals section)

-- a section with its place: its packet at a constant rate; on lines the moment of its first packet, on the line of the packet where it is found; before
-- the first line is known it has no place, and is ignored
unfoldable pub placed : Arrival → SectionBegin → Option SectionBegin
placed Unknown section = None
placed (AtRate rate) section = Some section
placed (OnLines lines) section = Some (record section { place = moment_on lines (first_byte section.packet) })

-- a section that begins, and its errors
abbrev pub section_in : ViewOptions → FindingView → Option SectionBegin
section_in options f = option_and_then (placed options.arrival) (section_begin f)

-- a whole section with its places: it begins too soon after the one before it, or does not belong on its PID
unfoldable pub placed_whole : Arrival → WholeSection → Option WholeSection
placed_whole Unknown section = None
placed_whole (AtRate rate) section = Some section
placed_whole (OnLines lines) section = Some (record {
  begin = record section.begin { place = moment_on lines (first_byte section.begin.packet) };
  extension = section.extension;
  end = moment_on lines (first_byte section.end);
})

unfoldable pub placed_if : Arrival → Option WholeSection → Option WholeSection
placed_if arrival None = None
placed_if arrival (Some section) = placed_whole arrival section

abbrev pub whole_in : ViewOptions → FindingView → Option WholeSection
whole_in options f = placed_if options.arrival (whole_section f)

unfoldable pub other_events : Option WholeSection → List Event
other_events None = []
other_events (Some w) =
    if belongs w.begin.pid w.begin.table_id then []
    else found.Rule (rules.OtherTable (record { pid = w.begin.pid; table = w.begin.table_id; packet = w.begin.packet })) ∷ []

unfoldable pub soon_events : Option TableError → List Event
soon_events None = []
soon_events (Some e) = found.TableFault kinds.SectionDistance (fault_of e) ∷ []

unfoldable pub distances_after : DistanceState → Option WholeSection → DistanceState
distances_after d None = d
distances_after d (Some w) = distances.taken d w

abbrev pub with_whole : TimesState → Option WholeSection → TimesState
with_whole s section = record { intervals = s.intervals; distances = distances_after s.distances section; errors = s.errors }

unfoldable pub distance_events : DistanceState → Option WholeSection → List Event
distance_events d None = []
distance_events d (Some w) = soon_events (distances.error_at d w)

-- a section whose check word is wrong (ETSI TR 101 290, 5.2.2, 2.2)
unfoldable pub is_wrong : WhatView → Bool
is_wrong (IsBadSection refusals.CheckWord) = true
is_wrong _ = false

-- a whole section that does not end with its check word
unfoldable pub has_wrong_word : WhatView → Bool
has_wrong_word (IsSection bytes) = not (check_word bytes == 0)
has_wrong_word _ = false

-- tables with a check word, though their section_syntax_indicator is 0: time offset tables (ETSI EN 300 468, 5.2.6) and splice information
-- (ANSI/SCTE 35, table_id 0xFC)
abbrev pub has_word : ℕ → ℕ → Bool
has_word pid table_id = ((pid == 0x14) && (table_id == 0x73)) || (table_id == 0xFC)

-- such a section whose check word is wrong
unfoldable pub is_wrong_short : Option SectionBegin → WhatView → Bool
is_wrong_short None what = false
is_wrong_short (Some section) what = has_word section.pid section.table_id && has_wrong_word what

abbrev pub is_bad : FindingView → Bool
is_bad f = is_wrong f.what || is_wrong_short (section_begin f) f.what

abbrev pub check_word_event : FindingView → Event
check_word_event f = found.CheckWord (record { pid = unwrap_or f.pid 0; packet = f.packet })

abbrev pub check_word_events : FindingView → List Event
check_word_events f = if is_bad f then check_word_event f ∷ [] else []

abbrev pub with_check_word : TimesState → FindingView → TimesState
with_check_word s f = record { intervals = s.intervals; distances = s.distances; errors = min (s.errors + (if is_bad f then 1 else 0)) (2 ^ 64 - 1) }

abbrev pub with_finding : ViewOptions → TimesState → FindingView → TimesState
with_finding options s f = with_begin (with_whole (with_check_word s f) (whole_in options f)) (section_in options f)

abbrev pub finding_events : ViewOptions → TimesState → FindingView → List Event
finding_events options s f =
    check_word_events f ++ (other_events (whole_section f) ++ (distance_events s.distances (whole_in options f) ++ begin_events s (section_in options f)))

unfoldable pub with_findings : ViewOptions → TimesState → List FindingView → TimesState
with_findings options s [] = s
with_findings options s (f ∷ fs) = with_findings options (with_finding options s f) fs

unfoldable pub findings_events : ViewOptions → TimesState → List FindingView → List Event
findings_events options s [] = []
findings_events options s (f ∷ fs) = finding_events options s f ++ findings_events options (with_finding options s f) fs

-- 3. Packet by packet: the findings of a packet are dropped once its sections are known, and no body of a PES packet is kept

-- with what the sections name
pub record TablesState : Type 0 where
  pub demux : StreamState
  pub times : TimesState
  pub named : NamesState

-- no part of a packet is held, and no finding
pub record TakesPackets (s : StreamState) : Type 0 where
  pub held : s.held ≡ []
  pub found : s.found ≡ []

abbrev pub no_times : TableTiming → TimesState
no_times timing = record { intervals = no_section timing; distances = no_end timing; errors = 0 }

abbrev pub no_tables : TableTiming → TablesState
no_tables timing = record { demux = start; times = no_times timing; named = no_names }

abbrev pub with_packet : ViewOptions → TablesState → List ℕ → TablesState
with_packet options s bytes = record {
  demux = with_found [] (headers_pushed s.demux bytes);
  times = with_findings options s.times (pushed s.demux bytes).found;
  named = with_each s.named (pushed s.demux bytes).found;
}

abbrev pub packet_events : ViewOptions → TablesState → List ℕ → List Event
packet_events options s bytes = findings_events options s.times (pushed s.demux bytes).found

-- 4. At the end, of each table

abbrev pub has_table : TablesState → ℕ → ℕ → Bool
has_table s pid table_id = is_some (places_at s.times.intervals (key_of pid table_id))

-- a whole PMT of a program came on a PID
abbrev pub has_map : TablesState → ℕ → ℕ → Bool
has_map s pid number = has_part s.times.intervals pid 0x02 number

-- PIDs have 16 bits
abbrev pub table_pid : ℕ → ℕ
table_pid key = pid_of key % 65536

-- the greatest time from one section to the next, in ticks of 27 MHz, at the packet of the second of these; the limit is 0 of a table that has
-- none
abbrev pub table_event : TableTiming → ℕ × SectionPlaces → Event
table_event timing entry = found.Table (record {
  pid = table_pid entry.0;
  table = table_id_of entry.0;
  sections = entry.1.sections;
  interval = time_between timing entry.1.greatest;
  packet = entry.1.at;
  limit = unwrap_or (limit_of (table_pid entry.0) (table_id_of entry.0)) 0;
})

abbrev pub table_events : TablesState → List Event
table_events s = map (table_event s.times.intervals.timing) s.times.intervals.entries
