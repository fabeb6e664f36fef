-- The service description tables in force that findings have (EN 300 468, 5.2.3).
use Rattle.std.specs.Prelude.{ℕ, if◌then◌else◌, List, Option, Some, None, option_and_then, Result, Ok, Err}
use Rattle.psi_tables.specs.Views.{SectionView}
use Rattle.psi_tables.specs.Reading.{section_at}
use Rattle.psi_tables.specs.declared.error.SectionError.{SectionError}
use Rattle.dvb_tables.specs.ServiceDescription.{SdtView, sdt_at}
use Rattle.pid_findings.specs.Views.{FindingView}
use Rattle.program_tables.specs.Sections.{section_on}

-- a table that is in force now, and not the next one
unfoldable pub in_force : Result SdtView SectionError → Option SdtView
in_force (Err error) = None
in_force (Ok sdt) = if sdt.header.current_next then Some sdt else None

unfoldable pub sdt_of_section : Result (SectionView × ℕ) SectionError → Option SdtView
sdt_of_section (Err error) = None
sdt_of_section (Ok section) = in_force (sdt_at section.0)

unfoldable pub sdt_in : List ℕ → Option SdtView
sdt_in bytes = sdt_of_section (section_at bytes)

-- the table that a finding has: a section on PID 0x11
unfoldable pub sdt_found : FindingView → Option SdtView
sdt_found finding = option_and_then sdt_in (section_on 0x11 finding)
