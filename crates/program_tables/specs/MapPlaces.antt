-- The places of program map tables among findings, and the packets where these tables change, by program, in one pass.
use Rattle.std.specs.Prelude.{◌≡◌, ◌<◌, ℕ, ◌+◌, ◌*◌, nat_eq, nat_lt, is_some, Bool, false, if◌then◌else◌, List, [], ◌∷◌, slice_get, Option, Some, None}
use Rattle.std.specs.Prelude.{option_and_then}
use Rattle.std.specs.Map.{lookup}
use Rattle.indexmap.specs.IndexMap.{insert_entry}
use Rattle.psi_tables.specs.ProgramMap.{PmtView}
use Rattle.psi_tables.specs.declared.pat.programs.Program.{Program}
use Rattle.pid_findings.specs.Views.{FindingView}
use Rattle.program_tables.specs.ProgramMaps.{any_map, differs, map_change, pmt_found, program_map}
use Rattle.program_tables.specs.declared.program_map.MapPart.{MapPart}

-- 1. The program whose table a finding has

unfoldable pub numbered_program : ℕ → PmtView → Option Program
numbered_program pid pmt =
    if nat_lt pmt.header.table_id_extension 65_536 then Some (record { program_number = pmt.header.table_id_extension; pid = pid }) else None

unfoldable pub program_on : Option ℕ → Option PmtView → Option Program
program_on None found = None
program_on (Some pid) found = option_and_then (numbered_program pid) found

abbrev pub program_found : FindingView → Option Program
program_found finding = program_on finding.pid (any_map finding)

-- the key of a program: no other program with a number of 16 bits has it
abbrev pub map_key : Program → ℕ
map_key p = p.pid * 65_536 + p.program_number

-- 2. Places: by key the place of the last finding with a table of the program

unfoldable pub places_with : List (ℕ × ℕ) → Option Program → ℕ → List (ℕ × ℕ)
places_with es None at = es
places_with es (Some p) at = insert_entry nat_eq es (map_key p) at

-- the places with further findings; the first has the place `at`
unfoldable pub places_from : List (ℕ × ℕ) → ℕ → List FindingView → List (ℕ × ℕ)
places_from es at [] = es
places_from es at (f ∷ fs) = places_from (places_with es (program_found f) at) (at + 1) fs

abbrev pub places_in : List FindingView → List (ℕ × ℕ)
places_in findings = places_from [] 0 findings

-- the table of a program that the finding at a place has
unfoldable pub map_there : Program → Option ℕ → List FindingView → Option PmtView
map_there p None findings = None
map_there p (Some at) findings = option_and_then (pmt_found p) (slice_get findings at)

-- the place by key finds the last table of each program
abbrev pub MapsAreThere : Type 0
MapsAreThere = (p : Program) (findings : List FindingView) → p.program_number < 65_536 →
    map_there p (lookup (nat_eq (map_key p)) (places_in findings)) findings ≡ program_map p findings

-- 3. Changes: by key the packet of the first table that differs from the last one in a part

unfoldable pub is_change : MapPart → Option PmtView → Option PmtView → Bool
is_change part None found = false
is_change part (Some last) found = differs part last found

unfoldable pub noted : List (ℕ × ℕ) → ℕ → ℕ → Bool → List (ℕ × ℕ)
noted es key packet changes = if is_some (lookup (nat_eq key) es) then es else (if changes then insert_entry nat_eq es key packet else es)

-- a table is compared with the last one of its program among all findings
unfoldable pub changes_by : MapPart → List FindingView → List (ℕ × ℕ) → FindingView → Option Program → List (ℕ × ℕ)
changes_by part all es f None = es
changes_by part all es f (Some p) = noted es (map_key p) f.packet (is_change part (program_map p all) (pmt_found p f))

unfoldable pub changes_from : MapPart → List FindingView → List (ℕ × ℕ) → List FindingView → List (ℕ × ℕ)
changes_from part all es [] = es
changes_from part all es (f ∷ fs) = changes_from part all (changes_by part all es f (program_found f)) fs

-- the packets by key are the packets where the maps change in these findings
abbrev pub AreChanges : MapPart → List FindingView → List (ℕ × ℕ) → Type 0
AreChanges part findings es = (p : Program) → p.program_number < 65_536 → lookup (nat_eq (map_key p)) es ≡ map_change part p findings
