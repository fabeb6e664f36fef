-- What a decoder that follows PAT and PMT learns (ISO/IEC 13818-1, 2.4.4.3 and 2.4.4.8) from finished bytes that keep the promise, whoever wrote
-- them.
use Rattle.std.specs.Prelude.{◌≡◌, ℕ, ◌*◌, ◌<◌, if◌then◌else◌, List, [], ◌∷◌, drop, slice_get, Some, Contains, Result, Ok, Err}
use Rattle.std.specs.List.{flat_map}
use Rattle.clock27.specs.Units.{slot_ms_at_1bps}
use Rattle.pes_packet.specs.AccessUnits.{AccessUnit}
use Rattle.psi_tables.specs.Views.{SectionView}
use Rattle.psi_tables.specs.Reading.{section_at}
use Rattle.psi_tables.specs.ProgramMap.{PmtView, pmt_at}
use Rattle.psi_tables.specs.declared.error.SectionError.{SectionError}
use Rattle.psi_tables.specs.declared.pat.programs.Program.{Program}
use Rattle.description_parts.specs.Described.{Described, DescribedProgram}
use Rattle.description_parts.specs.Ranges.{IsInRange}
use Rattle.description.specs.SectionBytes.{pat_entry, pmt_says}
use Rattle.monitor.specs.ProgramMaps.{programs_in_section}
use Rattle.mux_core.specs.Scheduled.{Scheduled}
use Rattle.mux_core.specs.Headline.{Headline}
use Rattle.mux_core.specs.Decoder.{pieces_on, put_together}

-- the section in a joined payload: pointer_field is the number of bytes before it (2.4.4.1)
unfoldable pub section_in : List ℕ → Result (SectionView × ℕ) SectionError
section_in [] = section_at []
section_in (pointer ∷ bytes) = section_at (drop pointer bytes)

-- a program map section that is in force now
unfoldable pub map_by : Result PmtView SectionError → List PmtView
map_by (Err error) = []
map_by (Ok map) = if map.header.current_next then map ∷ [] else []

unfoldable pub map_in : Result (SectionView × ℕ) SectionError → List PmtView
map_in (Err error) = []
map_in (Ok section) = map_by (pmt_at section.0)

-- the programs that the sections on PID 0 name, each with the PID of its map
abbrev pub programs_named : List ℕ → List Program
programs_named bytes = flat_map (λ whole. programs_in_section (section_in whole)) (put_together (pieces_on 0 bytes))

-- the program maps on a PID
abbrev pub maps_on : ℕ → List ℕ → List PmtView
maps_on pid bytes = flat_map (λ whole. map_in (section_in whole)) (put_together (pieces_on pid bytes))

-- for each program the PAT names the PID of its map, and the map there names the PID of its clock references and the PIDs of its streams
pub record IsFollowed (d : Described) (bytes : List ℕ) : Type 0 where
  pub programs : (i : ℕ) (p : DescribedProgram) → slice_get d.programs i ≡ Some p → Contains (programs_named bytes) (pat_entry p)
  pub maps : (i : ℕ) (p : DescribedProgram) → slice_get d.programs i ≡ Some p → Contains (maps_on p.pmt_pid bytes) (pmt_says d p)

-- this holds in each run of more than a second
abbrev pub FollowedLaw : Type 0
FollowedLaw = (d : Scheduled) (units : ℕ → List AccessUnit) (slots : ℕ) (bytes : List ℕ) → IsInRange d.description → Headline d units slots bytes →
    1000 * d.description.rate < slots * slot_ms_at_1bps → IsFollowed d.description bytes
