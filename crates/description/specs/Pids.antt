-- The PIDs on which a description's output has packets, and that no two of its parts share one.
use Rattle.std.specs.Prelude.{◌≡◌, ℕ, ◌+◌, ◌<◌, ◌≤◌, List, ◌++◌, Option, None, Some, length, map, option_map, slice_get, if◌then◌else◌}
use Rattle.description_parts.specs.Described.{Described, DescribedProgram, DescribedStream}
use Rattle.description_parts.specs.Ranges.{IsInRange, IsProgram, IsStream}
use Rattle.description_parts.specs.Tables.{numbers_from, has_references, kind_pid, table_kinds, table_count, table_pid, section_count, round_packets}

-- the PID of a program's own clock references, if it has them: its own PID, or, for the first program on the shared clock,
-- the PID of that clock
abbrev pub references_pid : Described → ℕ → Option ℕ
references_pid d i = if has_references d i then option_map (λ p. p.pcr_pid) (slice_get d.programs i) else None

-- the PIDs of the tables in the order of their numbers, of the programs' clock references, of the streams
abbrev pub all_pids : Described → List (Option ℕ)
all_pids d =
    map (λ k. Some (kind_pid d k)) (table_kinds d) ++ (map (references_pid d) (numbers_from 0 d.programs) ++ map (λ s. Some s.pid) d.streams)

-- no PID is listed twice
abbrev pub PidsApartLaw : Type 0
PidsApartLaw = (d : Described) (i j pid : ℕ) → IsInRange d → slice_get (all_pids d) i ≡ Some (Some pid) → slice_get (all_pids d) j ≡ Some (Some pid) → i ≡ j

-- each PID is below the PID of null packets (ISO/IEC 13818-1, table 2-3)
abbrev pub PidsBelowLaw : Type 0
PidsBelowLaw = (d : Described) (i pid : ℕ) → IsInRange d → slice_get (all_pids d) i ≡ Some (Some pid) → pid < 8191

-- the places of the PIDs in the list
pub record PidPlaces (d : Described) : Type 0 where
  pub table : (t : ℕ) → t < table_count d → slice_get (all_pids d) t ≡ Some (Some (table_pid d t))
  pub clock : (i : ℕ) → i < length d.programs → slice_get (all_pids d) (table_count d + i) ≡ Some (references_pid d i)
  pub stream : (k : ℕ) (s : DescribedStream) → slice_get d.streams k ≡ Some s → slice_get (all_pids d) (table_count d + length d.programs + k) ≡ Some (Some s.pid)

abbrev pub PidPositionsLaw : Type 0
PidPositionsLaw = (d : Described) → PidPlaces d

-- a stream and a program by their numbers are in their ranges
abbrev pub StreamRangeLaw : Type 0
StreamRangeLaw = (d : Described) (k : ℕ) (s : DescribedStream) → IsInRange d → slice_get d.streams k ≡ Some s → IsStream s

abbrev pub ProgramRangeLaw : Type 0
ProgramRangeLaw = (d : Described) (i : ℕ) (p : DescribedProgram) → IsInRange d → slice_get d.programs i ≡ Some p → IsProgram p

-- each table has a section, and at most 128 of them; so its round has a place
abbrev pub SectionsLaw : Type 0
SectionsLaw = (d : Described) (t : ℕ) → IsInRange d → t < table_count d → (0 < section_count d t) × (section_count d t ≤ 128) × (0 < round_packets d t)
