-- The time of a stream, by its time and date table (EN 300 468, 5.2.5).
use Rattle.std.specs.Prelude.{ℕ, ◌&&◌, Bool, is_none, List, [], ◌∷◌, Option, Some, None, option_and_then, Result, Ok, Err}
use Rattle.std.specs.Option.{option_or}
use Rattle.psi_tables.specs.Views.{SectionView}
use Rattle.psi_tables.specs.Reading.{section_at}
use Rattle.psi_tables.specs.declared.error.SectionError.{SectionError}
use Rattle.dvb_tables.specs.TimeAndDate.{tdt_at}
use Rattle.dvb_tables.specs.declared.time_and_date.Tdt.{Tdt}
use Rattle.pid_findings.specs.Views.{FindingView}
use Rattle.program_tables.specs.Sections.{section_on}
use Rattle.service_information.specs.CodedTimes.{moment_in}
use Rattle.service_information.specs.FirstFindings.{first_packet, has_table_id}

-- the moment in seconds since 1 January 1970, if it is in the years 1970 to 2037
unfoldable pub of_table : Result Tdt SectionError → Option ℕ
of_table (Err error) = None
of_table (Ok tdt) = moment_in tdt.utc_time

unfoldable pub of_section : Result (SectionView × ℕ) SectionError → Option ℕ
of_section (Err error) = None
of_section (Ok section) = of_table (tdt_at section.0)

unfoldable pub time_in : List ℕ → Option ℕ
time_in bytes = of_section (section_at bytes)

-- a section on PID 0x14
unfoldable pub time_found : FindingView → Option ℕ
time_found finding = option_and_then time_in (section_on 0x14 finding)

-- the time by the first table that can be read
unfoldable pub stream_time : List FindingView → Option ℕ
stream_time [] = None
stream_time (finding ∷ findings) = option_or (time_found finding) (stream_time findings)

-- a section of such a table that can't be read, or on another PID
unfoldable pub is_surplus : FindingView → Bool
is_surplus finding = has_table_id 0x70 finding.what && is_none (time_found finding)

abbrev pub time_surplus : List FindingView → Option ℕ
time_surplus findings = first_packet is_surplus findings
