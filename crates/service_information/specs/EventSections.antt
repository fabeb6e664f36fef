-- The sections of present and following events of the actual transport stream that findings have (EN 300 468, 5.2.4).
use Rattle.std.specs.Prelude.{ℕ, if◌then◌else◌, List, Option, Some, None, option_and_then, Result, Ok, Err}
use Rattle.psi_tables.specs.Views.{SectionView}
use Rattle.psi_tables.specs.Reading.{section_at}
use Rattle.psi_tables.specs.declared.error.SectionError.{SectionError}
use Rattle.psi_tables.specs.declared.section.LongHeader.{LongHeader}
use Rattle.dvb_tables.specs.EventEntries.{EventView, events_of}
use Rattle.dvb_tables.specs.EventInformation.{EitView, eit_at}
use Rattle.pid_findings.specs.Views.{FindingView}
use Rattle.program_tables.specs.Sections.{section_on}
use Rattle.service_information.specs.declared.event_sections.EventSection.{EventSection}

-- service_id, which is a program's program_number, and the events
pub record EventSectionView : Type 0 where
  pub program : ℕ
  pub events : List EventView

abbrev pub event_section_view : EventSection → EventSectionView
event_section_view s = record { program = s.program; events = events_of s.events }

-- the events of a table that is in force now, and not the next table
unfoldable pub if_in_force : LongHeader → List EventView → Option EventSectionView
if_in_force header events = if header.current_next then Some (record { program = header.table_id_extension; events = events }) else None

unfoldable pub in_force : Result EitView SectionError → Option EventSectionView
in_force (Err error) = None
in_force (Ok eit) = if_in_force eit.header eit.events

unfoldable pub of_section : Result (SectionView × ℕ) SectionError → Option EventSectionView
of_section (Err error) = None
of_section (Ok section) = in_force (eit_at section.0)

unfoldable pub event_section_in : List ℕ → Option EventSectionView
event_section_in bytes = of_section (section_at bytes)

-- a section on PID 0x12
unfoldable pub event_section_found : FindingView → Option EventSectionView
event_section_found finding = option_and_then event_section_in (section_on 0x12 finding)
