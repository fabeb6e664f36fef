-- The program association table (ISO/IEC 13818-1, 2.4.4.3 and 2.4.4.4).
use Rattle.std.specs.Prelude.{◌≡◌, ℕ, ◌+◌, ◌*◌, ◌/◌, ◌%◌, ◌^◌, ◌<◌, ◌≤◌, ◌==◌, if◌then◌else◌, false, List, [], ◌∷◌, ◌++◌, length, Some, Result, Ok, Err}
use Rattle.std.specs.Prelude.{flat_map}
use Rattle.bit_fields.specs.Fields.{number, fields}
use Rattle.bit_fields.specs.Reading.{◌>>=◌}
use Rattle.psi_tables.specs.Views.{SectionView}
use Rattle.psi_tables.specs.Encoding.{LongFits}
use Rattle.psi_tables.specs.Tables.{table_header_at}
use Rattle.psi_tables.specs.declared.error.SectionError.{SectionError}
use Rattle.psi_tables.specs.declared.error.SectionError.TheVariants.{Body}
use Rattle.psi_tables.specs.declared.section.LongHeader.{LongHeader}
use Rattle.psi_tables.specs.declared.section.SectionHeader.{SectionHeader}
use Rattle.psi_tables.specs.declared.pat.programs.Program.{Program}
use Rattle.psi_tables.specs.declared.pat.programs.Programs.{Programs}
use Rattle.psi_tables.specs.declared.pat.program_loop.ProgramLoop.{ProgramLoop}
use Rattle.psi_tables.specs.declared.pat.Pat.{Pat}

-- the content of a program association section
pub record PatView : Type 0 where
  pub header : LongHeader
  pub programs : List Program

-- four bytes are one entry: program_number, three reserved bits, and network_PID or program_map_PID
pub record IsProgram (bytes : List ℕ) (p : Program) : Type 0 where
  pub len : length bytes ≡ 4
  pub reserved : ℕ
  pub spelled : number bytes ≡ fields ((16, p.program_number) ∷ (3, reserved) ∷ (13, p.pid) ∷ [])
  pub program_number : p.program_number < 2 ^ 16
  pub three_bits : reserved < 2 ^ 3
  pub pid : p.pid < 2 ^ 13

-- the bytes are these entries, in order
abbrev pub ArePrograms : List ℕ → List Program → Type 0
ArePrograms bytes [] = bytes ≡ []
ArePrograms bytes (p ∷ ps) = (one : List ℕ) × (rest : List ℕ) × (bytes ≡ one ++ rest) × IsProgram one p × ArePrograms rest ps

-- a section is a program association section with this content
pub record IsPat (s : SectionView) (p : PatView) : Type 0 where
  pub table_id : s.header.table_id ≡ 0x00
  pub long : s.header.long ≡ Some p.header
  pub section_length : 9 + length s.body ≤ 1021
  pub programs : ArePrograms s.body p.programs

-- the entry that four bytes make
unfoldable pub program_of : ℕ → ℕ → ℕ → ℕ → Program
program_of a b c d = record { program_number = a * 256 + b; pid = c % 32 * 256 + d }

-- the entries of a loop of four bytes each
unfoldable pub programs_in : List ℕ → List Program
programs_in [] = []
programs_in (a ∷ []) = []
programs_in (a ∷ b ∷ []) = []
programs_in (a ∷ b ∷ c ∷ []) = []
programs_in (a ∷ b ∷ c ∷ d ∷ rest) = program_of a b c d ∷ programs_in rest

-- reading: Syntax, Length, then Body for a body that ends within an entry
unfoldable pub pat_at : SectionView → Result PatView SectionError
pat_at s = table_header_at 0x00 1021 s >>= λ header.
    (if length s.body % 4 == 0 then Ok (record { header = header; programs = programs_in s.body }) else Err Body)

-- an entry as it is written, reserved bits 1
unfoldable pub program_bytes : Program → List ℕ
program_bytes p = (p.program_number / 256) ∷ (p.program_number % 256) ∷ (0xE0 + p.pid / 256 % 32) ∷ (p.pid % 256) ∷ []

-- entries as they are written
unfoldable pub programs_bytes : List Program → List ℕ
programs_bytes ps = flat_map program_bytes ps

-- the header of the section that carries a PAT
unfoldable pub pat_header : LongHeader → SectionHeader
pat_header header = record { table_id = 0x00; private_indicator = false; long = Some header }

-- the section that carries a PAT
unfoldable pub pat_section : PatView → SectionView
pat_section p = record { header = pat_header p.header; body = programs_bytes p.programs }

-- the remaining entries of an iterator over a program loop
unfoldable pub programs_of : Programs → List Program
programs_of p = programs_in p.bytes.now

-- the entries of a loop that is being written
unfoldable pub program_loop_of : ProgramLoop → List Program
program_loop_of l = programs_in l.bytes.items

-- the content of a PAT
abbrev pub pat_view : Pat → PatView
pat_view p = record { header = p.header; programs = programs_of p.programs }

-- an entry whose numbers have room in their fields
pub record ProgramFits (p : Program) : Type 0 where
  pub program_number : p.program_number < 2 ^ 16
  pub pid : p.pid < 2 ^ 13

-- entries whose numbers have room
abbrev pub ProgramsFit : List Program → Type 0
ProgramsFit [] = Unit {0}
ProgramsFit (p ∷ ps) = ProgramFits p × ProgramsFit ps

-- a PAT that can be written
pub record PatFits (p : PatView) : Type 0 where
  pub header : LongFits p.header
  pub programs : ProgramsFit p.programs
  pub room : 9 + 4 * length p.programs ≤ 1021
